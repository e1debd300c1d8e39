-- The closure answers by the order of the numbers, which have no sign.
use Rattle.std.proofs.Common.{rules, get_or, map, pos, ◌≡◌, ap}
use Rattle.std.specs.Ordering.{is_lt, int_cmp}
use Rattle.std.proofs.lemmas.Cmp.{int_cmp_total}
use Rattle.std.proofs.lemmas.List.Sorted.{ranks_by}
use Rattle.std.proofs.lemmas.Fn.{always_returns_same}
use Rattle.label_index.proofs.scan.sort_naturals.Goals as goal

pub returns-clause-sorted : goal.returns-clause-sorted
returns-clause-sorted c = c.sort_unstable_by.ensures.sorted (λ p q. is_lt (int_cmp (get_or (map pos c.args.numbers.now) p (pos 0)) (get_or (map pos c.args.numbers.now) q (pos 0)))) (ranks_by int_cmp_total (λ p. get_or (map pos c.args.numbers.now) p (pos 0))) (always_returns_same _ _ _ (λ a r q h. let e : r ≡ int_cmp (get_or (map pos c.args.numbers.now) a.0.now (pos 0)) (get_or (map pos c.args.numbers.now) a.1.0.now (pos 0)) = search rules in (ap is_lt e, search rules)))

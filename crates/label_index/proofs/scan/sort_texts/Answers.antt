-- The closure answers by the order of the texts.
use Rattle.std.proofs.Common.{rules, get_or, [], ◌≡◌, ap}
use Rattle.std.specs.Ordering.{is_lt, nat_cmp}
use Rattle.std.specs.Cmp.Lexicographic.{slice_cmp}
use Rattle.std.proofs.lemmas.Cmp.{nat_list_cmp_total}
use Rattle.std.proofs.lemmas.List.Sorted.{ranks_by}
use Rattle.std.proofs.lemmas.Fn.{always_returns_same}
use Rattle.label_index.proofs.scan.sort_texts.Goals as goal

pub returns-clause-sorted : goal.returns-clause-sorted
returns-clause-sorted c = c.sort_unstable_by.ensures.sorted (λ p q. is_lt (slice_cmp nat_cmp (get_or c.args.texts.now p []) (get_or c.args.texts.now q []))) (ranks_by nat_list_cmp_total (λ p. get_or c.args.texts.now p [])) (always_returns_same _ _ _ (λ a r q h. let e : r ≡ slice_cmp nat_cmp (get_or c.args.texts.now a.0.now []) (get_or c.args.texts.now a.1.0.now []) = search rules in (ap is_lt e, search rules)))

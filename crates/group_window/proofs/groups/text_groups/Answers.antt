use Rattle.std.specs.Ordering.{nat_cmp}
use Rattle.std.specs.Cmp.Lexicographic.{slice_cmp}
use Rattle.xr_groups.specs.Groups as of
use Rattle.group_window.proofs.Mapped.{keys_handed, lists_handed}
use Rattle.group_window.proofs.groups.text_groups.Goals as goal

pub returns-clause-keys : goal.returns-clause-keys
returns-clause-keys c =
    keys_handed (λ k. k.now) (slice_cmp nat_cmp) c.deref.result.now c.in_ok-keys.keys.items c.in_ok-distinct.distinct.items c.deref-4.result.now (of.each_key c.args.texts.now) c.in_ok-keys-2.keys c.deref.ensures.value c.in_ok-keys.ensures
    c.in_ok-distinct.ensures.keys c.deref-4.ensures.value c.in_ok-keys-2.ensures

pub returns-clause-lists : goal.returns-clause-lists
returns-clause-lists c =
    lists_handed (λ k. k.now) (slice_cmp nat_cmp) c.deref-3.result.now c.in_ok-keys.keys.items (of.each_key c.args.texts.now) c.in_ok-lists.lists c.deref-3.ensures.value c.in_ok-keys.ensures c.in_ok-lists.ensures

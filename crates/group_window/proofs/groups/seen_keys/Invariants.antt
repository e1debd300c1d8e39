use Rattle.std.proofs.Common.{◌≡◌, drop, fold}
use Rattle.std.specs.BTreeMap as tree
use Rattle.xr_groups.specs.Groups as of
use Rattle.group_window.proofs.groups.seen_keys.Given as goal

abbrev pub invariant-loop-key : goal.invariant-loop-key
invariant-loop-key g l = fold (of.put_key g.K.Ord.cmp) (tree.keys l.seen) (drop l.key-index l.keys) ≡ of.distinct g.K.Ord.cmp l.keys

use Rattle.std.proofs.Common.{◌≡◌, drop, []}
use Rattle.std.specs.Prelude.{fold}
use Rattle.std.specs.BTreeSet.{insert_key}
use Rattle.std.specs.Cmp.Lexicographic.{slice_cmp}
use Rattle.std.specs.Ordering.{nat_cmp}
use Rattle.xr_values.specs.Variables.{names_of}
use Rattle.xr_tiling.specs.Groups.{texts}
use Rattle.xr_tiling.proofs.groups.sorted_names.Given as goal

abbrev pub invariant-loop-var : goal.invariant-loop-var
invariant-loop-var l = fold (insert_key (slice_cmp nat_cmp)) (texts l.names.keys) (names_of (drop l.var-index l.vars)) ≡ fold (insert_key (slice_cmp nat_cmp)) [] (names_of l.vars)

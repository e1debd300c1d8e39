use Rattle.std.proofs.Common.{◌≡◌, ◌++◌, pos, map, drop}
use Rattle.xr_types.specs.Kinds.{wrap_to}
use Rattle.xr_types.specs.declared.kind.DType.TheVariants.{UInt64}
use Rattle.row_folds.proofs.running.unsigned.Given as goal

abbrev pub invariant-loop-i : goal.invariant-loop-i
invariant-loop-i l = map (λ x. pos x) l.all.items ++ map (wrap_to UInt64) (drop l.i l.totals) ≡ map (wrap_to UInt64) l.totals

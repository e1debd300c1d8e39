use Rattle.std.proofs.Common.{◌≡◌, ◌++◌, drop}
use Rattle.xr_defs.specs.Values.{chosen, no_axis}
use Rattle.xr_decode.proofs.axes.axes_at.Given as goal

abbrev pub invariant-loop-id : goal.invariant-loop-id
invariant-loop-id l = l.chosen ++ chosen no_axis l.axes (drop l.id-index l.ids) ≡ chosen no_axis l.axes l.ids

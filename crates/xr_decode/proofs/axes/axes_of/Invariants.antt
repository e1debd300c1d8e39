use Rattle.std.proofs.Common.{◌≡◌, map, take}
use Rattle.xr_defs.specs.Decoding.{axis_in}
use Rattle.xr_decode.proofs.axes.axes_of.Given as goal

abbrev pub invariant-loop-dim : goal.invariant-loop-dim
invariant-loop-dim l = l.axes ≡ map (axis_in l.source) (take l.dim-index l.dim-items)

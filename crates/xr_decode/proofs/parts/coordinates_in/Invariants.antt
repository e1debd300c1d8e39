use Rattle.std.proofs.Common.{◌≡◌, take}
use Rattle.xr_defs.specs.Decoding.{coordinates_in}
use Rattle.xr_decode.proofs.parts.coordinates_in.Given as goal

abbrev pub invariant-loop-var : goal.invariant-loop-var
invariant-loop-var l = l.coords ≡ coordinates_in l.source l.mask (take l.var-index l.vars)

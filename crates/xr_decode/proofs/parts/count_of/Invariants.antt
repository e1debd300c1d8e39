use Rattle.std.proofs.Common.{◌≡◌, ◌≤◌, length, take}
use Rattle.xr_defs.specs.Decoding.{others_in}
use Rattle.xr_decode.proofs.parts.count_of.Given as goal

abbrev pub invariant-loop-var : goal.invariant-loop-var
invariant-loop-var l = record {
  counted : l.count ≡ length (others_in l.source (take l.var-index l.vars));
  within : l.count ≤ l.var-index;
}

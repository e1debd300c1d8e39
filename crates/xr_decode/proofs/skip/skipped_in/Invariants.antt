use Rattle.std.proofs.Common.{◌≡◌, ◌++◌, drop}
use Rattle.xr_defs.specs.Decoding.{skipped_in}
use Rattle.xr_decode.proofs.skip.skipped_in.Given as goal

abbrev pub invariant-loop-var : goal.invariant-loop-var
invariant-loop-var l = l.names ++ skipped_in l.source (drop l.var-index l.vars) ≡ skipped_in l.source l.vars

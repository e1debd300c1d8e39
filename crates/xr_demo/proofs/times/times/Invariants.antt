use Rattle.std.proofs.Common.{◌≡◌}
use Rattle.xr_chunks.specs.Demo as of
use Rattle.xr_demo.proofs.times.times.Given as goal

abbrev pub invariant-loop-i : goal.invariant-loop-i
invariant-loop-i l = l.out ≡ of.times l.i

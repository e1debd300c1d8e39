use Rattle.std.proofs.Common.{◌≡◌}
use Rattle.xr_arrays.specs.Pieces.{pieces}
use Rattle.cdf_reader.proofs.data.gathered.Given as goal

abbrev pub invariant-loop-r : goal.invariant-loop-r
invariant-loop-r l = l.raw.items ≡ pieces l.bytes l.begin l.step l.n l.r

use Rattle.std.proofs.Common.{◌<◌, ℕ, ℤ, slice_index_or}
use Rattle.xr_times.specs.Times.{IsTime}
use Rattle.codec_tests.proofs.printing.are_times.Given as goal

abbrev pub invariant-loop-i : goal.invariant-loop-i
invariant-loop-i l = (k : ℕ) (d : ℤ) → k < l.i → IsTime l.calendar (slice_index_or l.ts k d)

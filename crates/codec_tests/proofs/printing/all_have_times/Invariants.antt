use Rattle.std.proofs.Common.{◌<◌, ℕ, slice_index_or}
use Rattle.xr_types.specs.declared.axis.Axis.{Axis}
use Rattle.xr_print.specs.Conditions.{HasTimes}
use Rattle.codec_tests.proofs.printing.all_have_times.Given as goal

abbrev pub invariant-loop-axis : goal.invariant-loop-axis
invariant-loop-axis l = (k : ℕ) (d : Axis) → k < l.axis-index → HasTimes (slice_index_or l.axes k d)

use Rattle.std.proofs.Common.{◌<◌, ℕ, slice_index_or}
use Rattle.xr_defs.specs.declared.value.Coord.{Coord}
use Rattle.xr_print.specs.Conditions.{HoldsTime}
use Rattle.codec_tests.proofs.printing.all_hold_times.Given as goal

abbrev pub invariant-loop-coord : goal.invariant-loop-coord
invariant-loop-coord l = (k : ℕ) (d : Coord) → k < l.coord-index → HoldsTime (slice_index_or l.coords k d)

use Rattle.std.proofs.Common.{◌≡◌, ◌++◌, map, drop}
use Rattle.xr_defs.specs.Text.{after_blanks}
use Rattle.xr_print.specs.Pieces.{shown_time}
use Rattle.xr_print.proofs.index.push_times.Given as goal

abbrev pub invariant-loop-time : goal.invariant-loop-time
invariant-loop-time l = l.out.items ++ after_blanks (map (shown_time l.fn.calendar) (drop l.time-index l.times)) ≡ l.fn.out.items ++ after_blanks (map (shown_time l.fn.calendar) l.times)

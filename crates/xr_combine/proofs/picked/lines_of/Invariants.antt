use Rattle.std.proofs.Common.{◌≡◌, map}
use Rattle.std.specs.List.{range_with_len}
use Rattle.xr_combine.specs.Steps.{line_of}
use Rattle.xr_combine.proofs.picked.lines_of.Given as goal

abbrev pub invariant-loop-start : goal.invariant-loop-start
invariant-loop-start l = l.lines ≡ map (line_of l.count l.step) (range_with_len 0 l.start)

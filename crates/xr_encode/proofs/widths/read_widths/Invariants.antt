use Rattle.std.proofs.Common.{take, ◌<◌, ◌^◌}
use Rattle.std.specs.List.{AllByRecursion}
use Rattle.xr_encode.proofs.widths.read_widths.Given as goal

abbrev pub invariant-loop-width : goal.invariant-loop-width
invariant-loop-width l = AllByRecursion (λ n. n < 2 ^ 64) (take l.width-index l.widths)

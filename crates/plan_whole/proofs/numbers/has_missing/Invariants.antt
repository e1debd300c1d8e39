use Rattle.std.proofs.Common.{◌≡◌, drop, is_none}
use Rattle.std.specs.List.{list_any}
use Rattle.plan_whole.proofs.numbers.has_missing.Given as goal

abbrev pub invariant-loop-cell : goal.invariant-loop-cell
invariant-loop-cell l = list_any is_none (drop l.cell-index l.cells) ≡ list_any is_none l.cells

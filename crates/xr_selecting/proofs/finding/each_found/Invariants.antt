use Rattle.std.proofs.Common.{◌≡◌, drop}
use Rattle.xr_operations.specs.Selection.{each_found}
use Rattle.xr_indexing.specs.Choices.{behind}
use Rattle.xr_selecting.specs.Searches.{search_in}
use Rattle.xr_selecting.proofs.finding.each_found.Given as goal

abbrev pub invariant-loop-label : goal.invariant-loop-label
invariant-loop-label l = behind l.out (each_found (search_in l.by) l.index (drop l.label-index l.labels)) ≡ each_found (search_in l.by) l.index l.labels

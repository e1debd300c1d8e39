use Rattle.std.proofs.Common.{◌≡◌, map, take}
use Rattle.xr_relations.specs.Reindexing.{source}
use Rattle.xr_selecting.specs.Searches.{search_in}
use Rattle.xr_reindexing.proofs.changes.sources.Given as goal

abbrev pub invariant-loop-label : goal.invariant-loop-label
invariant-loop-label l = l.from ≡ map (source (search_in l.by) l.index) (take l.label-index l.labels)

use Rattle.std.proofs.Common.{◌≡◌, map, take, Some}
use Rattle.xr_indexing.proofs.selection.sources.Given as goal

abbrev pub invariant-loop-p : goal.invariant-loop-p
invariant-loop-p l = l.from ≡ map Some (take l.p-index l.places)

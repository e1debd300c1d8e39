use Rattle.std.proofs.Common.{◌≡◌, ◌++◌, drop, map}
use Rattle.xr_tiling.specs.Groups.{positions_of, texts, texts_of}
use Rattle.xr_tiling.proofs.groups.members_of.Given as goal

abbrev pub invariant-loop-at : goal.invariant-loop-at
invariant-loop-at l = l.members ++ positions_of (texts l.group) (map texts_of (drop l.at l.all)) l.at ≡ positions_of (texts l.group) (map texts_of l.all) 0

use Rattle.std.proofs.Common.{◌≡◌, take, map}
use Rattle.xr_tiling.specs.Groups.{positions_of, texts, texts_of}
use Rattle.xr_tiling.proofs.groups.all_members.Given as goal

abbrev pub invariant-loop-group : goal.invariant-loop-group
invariant-loop-group l = l.members ≡ map (λ g. positions_of g (map texts_of l.all) 0) (map (λ g. texts g.now) (take l.group-index l.groups))

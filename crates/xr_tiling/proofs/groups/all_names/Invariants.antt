use Rattle.std.proofs.Common.{◌≡◌, take, map}
use Rattle.xr_tiling.specs.Groups.{held_names, texts_of}
use Rattle.xr_tiling.proofs.groups.all_names.Given as goal

abbrev pub invariant-loop-set : goal.invariant-loop-set
invariant-loop-set l = map texts_of l.all ≡ map held_names (map (λ s. s.now) (take l.set-index l.sets))

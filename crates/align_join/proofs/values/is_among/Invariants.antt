use Rattle.std.proofs.Common.{◌≡◌, drop, map}
use Rattle.xr_types.specs.Names.{among}
use Rattle.align_join.proofs.values.is_among.Given as goal

abbrev pub invariant-loop-other : goal.invariant-loop-other
invariant-loop-other l = among (map (λ n. n.now) (drop l.other-index l.names)) l.name ≡ among (map (λ n. n.now) l.names) l.name

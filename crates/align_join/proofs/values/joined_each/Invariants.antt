use Rattle.std.proofs.Common.{◌≡◌, ◌++◌, drop, map, Ok}
use Rattle.xr_types.specs.Results.{◌>>=◌}
use Rattle.xr_operations.specs.Alignment.{joined_each}
use Rattle.align_join.proofs.values.joined_each.Given as goal

abbrev pub invariant-loop-name : goal.invariant-loop-name
invariant-loop-name l = (joined_each l.how l.filled (map (λ v. v.now) l.values) (map (λ n. n.now) (drop l.name-index l.names)) >>= λ xs. Ok (l.joined ++ xs)) ≡ joined_each l.how l.filled (map (λ v. v.now) l.values) (map (λ n. n.now) l.names)

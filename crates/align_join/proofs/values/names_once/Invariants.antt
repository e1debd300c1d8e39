use Rattle.std.proofs.Common.{◌≡◌, drop, fold, map, []}
use Rattle.xr_operations.specs.Alignment.{add_name, all_names}
use Rattle.align_join.proofs.values.names_once.Given as goal

abbrev pub invariant-loop-axes : goal.invariant-loop-axes
invariant-loop-axes l = fold add_name (map (λ n. n.now) l.names.items) (all_names (map (λ v. v.now) (drop l.axes-index l.values))) ≡ fold add_name [] (all_names (map (λ v. v.now) l.values))

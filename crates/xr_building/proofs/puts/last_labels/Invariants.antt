use Rattle.xr_building.proofs.Common.{None, drop, last_labels, option_map, ◌≡◌}
use Rattle.xr_building.proofs.puts.last_labels.Given as goal

abbrev pub invariant-loop-put : goal.invariant-loop-put
invariant-loop-put l = last_labels l.name (option_map (λ x. x.now) l.last) (drop l.put-index l.puts) ≡ last_labels l.name None l.puts

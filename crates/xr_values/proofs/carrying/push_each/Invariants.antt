use Rattle.xr_values.proofs.Common.{map, take, ◌++◌, ◌≡◌}
use Rattle.xr_values.proofs.carrying.push_each.Given as goal

abbrev pub invariant-loop-item : goal.invariant-loop-item
invariant-loop-item g l = map (λ a. a.now) l.all.items ≡ map (λ a. a.now) l.fn.all.items ++ take l.item-index l.items

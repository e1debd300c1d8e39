use Rattle.xr_building.proofs.Common.{List, Node, meaning, option_map, or_absent, ◌++◌, ◌-◌, ◌≡◌, nested_shape}
use Rattle.xr_building.proofs.nesting.nested_shape.Given as goal

abbrev pub invariant-loop : goal.invariant-loop
invariant-loop l = (nodes : List Node) → l.shape ++ nested_shape (l.depth - l.counter) (or_absent (option_map (λ v. meaning nodes v.now) l.at)) ≡ nested_shape l.depth (meaning nodes l.value)

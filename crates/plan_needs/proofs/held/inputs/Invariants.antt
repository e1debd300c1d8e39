use Rattle.std.proofs.Common.{◌≡◌, ◌++◌, map, drop}
use Rattle.xr_arrays.specs.Nodes.{value}
use Rattle.plan_needs.proofs.held.inputs.Given as goal

abbrev pub invariant-loop-id : goal.invariant-loop-id
invariant-loop-id l = map (λ a. a.now) l.values.items ++ map (value l.nodes) (drop l.id-index l.ids) ≡ map (value l.nodes) l.ids

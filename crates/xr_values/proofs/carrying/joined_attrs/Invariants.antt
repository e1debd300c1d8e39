use Rattle.xr_values.proofs.Common.{flat_map, map, take, the_attrs, ◌≡◌}
use Rattle.xr_values.proofs.carrying.joined_attrs.Given as goal

abbrev pub invariant-loop-operand : goal.invariant-loop-operand
invariant-loop-operand l = map (λ a. a.now) l.all.items ≡ flat_map (λ attrs. attrs) (the_attrs (take l.operand-index l.operands))

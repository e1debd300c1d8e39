use Rattle.xr_values.proofs.Common.{arith, array_in, map}
use Rattle.xr_values.proofs.Carries.{in_any_plan}
use Rattle.xr_values.proofs.Carries.{carried_formed}
use Rattle.xr_values.proofs.carrying.carry.Goals as goal

pub returns-clause-formed : goal.returns-clause-formed
returns-clause-formed c = λ nodes dimensions all.
    rw (in_any_plan nodes c.args.how c.args.operands.now c.args.axes.now (record { name = c.in_ok-name_among.field-0; attrs = c.in_ok-attrs_among.field-0; coords = c.in_ok-coords_among.field-0 }) (grind arith)) (carried_formed c.args.how (map (array_in nodes) c.args.operands.now) c.args.axes.now dimensions all)

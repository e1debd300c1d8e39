use Rattle.std.proofs.Common.{◌∙◌, ap}
use Rattle.xr_values.specs.Variables.{with_variable}
use Rattle.xr_demo.proofs.Placed.{set_placed, set_room}
use Rattle.xr_demo.proofs.called.dataset.Goals as goal

pub returns-clause-set : goal.returns-clause-set
returns-clause-set c =
    set_placed c.variable.new.plan c.args.n c.in_ok-variable.field-0 c.in_ok-variable.ensures.var c.in_ok-axes.axes c.new.result c.put.new.self c.new-2.result c.new-3.result c.requires
    c.in_ok-axes.ensures c.new.ensures (c.in_ok-put.ensures.ok ∙ ap (λ vs. with_variable vs c.in_ok-variable.field-0) c.new-vars.ensures) c.new-2.ensures c.new-3.ensures

pub returns-clause-room : goal.returns-clause-room
returns-clause-room c = set_room c.args.plan.now c.variable.new.plan c.args.n _ (returns-clause-set c) c.in_ok-variable.ensures.cells

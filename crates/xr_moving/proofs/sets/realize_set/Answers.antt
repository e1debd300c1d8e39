use Rattle.std.proofs.Common.{◌∙◌, [], ap, subst}
use Rattle.xr_arrays.specs.Added.{AddsAtMost}
use Rattle.xr_values.specs.Variables.{with_variables}
use Rattle.xr_moving.specs.Sets.{vars_cells, AreVarsOf}
use Rattle.xr_moving.proofs.Placed.{set_placed, set_room}
use Rattle.xr_moving.proofs.sets.realize_set.Goals as goal

pub returns-clause-made : goal.returns-clause-made
returns-clause-made c =
    set_placed c.args.plan.now c.realize_vars.new.plan c.args.made c.in_ok-vars.vars c.in_ok-vars-2.vars c.requires
    (subst (λ ms. AreVarsOf c.args.plan.now c.realize_vars.new.plan ms c.in_ok-vars.vars) c.as_slice.ensures c.in_ok-vars.ensures.vars) (c.in_ok-vars-2.ensures ∙ ap (with_variables []) c.as_slice-2.ensures)

pub returns-clause-room : goal.returns-clause-room
returns-clause-room c =
    set_room c.args.plan.now c.realize_vars.new.plan c.args.made c.in_ok-vars.vars c.in_ok-vars-2.vars c.requires
    (subst (λ ms. AreVarsOf c.args.plan.now c.realize_vars.new.plan ms c.in_ok-vars.vars) c.as_slice.ensures c.in_ok-vars.ensures.vars) (c.in_ok-vars-2.ensures ∙ ap (with_variables []) c.as_slice-2.ensures)
    (subst (λ ms. AddsAtMost c.args.plan.now c.realize_vars.new.plan (vars_cells c.args.plan.now ms)) c.as_slice.ensures c.in_ok-vars.ensures.cells)

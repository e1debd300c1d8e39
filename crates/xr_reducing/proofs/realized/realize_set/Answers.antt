use Rattle.std.proofs.Common.{◌∙◌, [], ap, subst}
use Rattle.xr_values.specs.Variables.{with_variables}
use Rattle.xr_reducing.specs.Sets.{AreVarsOf}
use Rattle.xr_reducing.proofs.Placing.{set_placed}
use Rattle.xr_reducing.proofs.realized.realize_set.Goals as goal

pub returns-clause-made : goal.returns-clause-made
returns-clause-made c =
    set_placed c.args.plan.now c.realize_vars.new.plan c.args.made c.in_ok-vars.vars c.in_ok-vars-2.vars c.requires
    (subst (λ ms. AreVarsOf c.args.plan.now c.realize_vars.new.plan ms c.in_ok-vars.vars) c.as_slice.ensures c.in_ok-vars.ensures.vars) (c.in_ok-vars-2.ensures ∙ ap (with_variables []) c.as_slice-2.ensures)

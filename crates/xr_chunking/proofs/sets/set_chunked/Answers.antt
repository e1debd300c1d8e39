use Rattle.std.proofs.Common.{◌≡◌, ◌∙◌, [], Ok, ap, subst, sym}
use Rattle.std.specs.List.{AllByRecursion}
use Rattle.xr_arrays.specs.Added.{AddsAtMost}
use Rattle.xr_chunks.specs.Chunks.{grid_given}
use Rattle.xr_values.specs.Meaning.{given}
use Rattle.xr_values.specs.Variables.{with_variables}
use Rattle.xr_chunking.specs.Grids.{cells_over, IsOver}
use Rattle.xr_chunking.proofs.SetCut.{all_over, are_here, set_answers, set_grids, set_room, with_vars}
use Rattle.xr_chunking.proofs.sets.set_chunked.Goals as goal

pub variables_cut-requires : goal.variables_cut-requires
variables_cut-requires c =
    subst (λ xs. AllByRecursion (IsOver c.args.plan.now xs) c.as_slice-2.result.now) (sym c.as_slice-axes.ensures)
    (subst (AllByRecursion (IsOver c.args.plan.now c.args.on.now.axes)) (sym c.as_slice-2.ensures.variables) (all_over c.args.plan.now c.args.on.now c.requires))

pub returns-clause-answers : goal.returns-clause-answers
returns-clause-answers c nodes =
    set_answers c.args.plan.now c.variables_cut.new.plan c.args.on.now (with_vars c.in_ok-set.set c.in_ok-set-2.field-0) c.in_ok-sizes.sizes c.in_ok-vars.vars c.in_ok-set-2.field-0 c.requires c.as_slice-2.ensures.distinct
    (are_here c.args.plan.now c.variables_cut.new.plan c.as_slice.result.now c.in_ok-sizes.sizes c.as_slice-axes.result.now c.args.on.now.axes c.as_slice-2.result.now c.args.on.now.vars c.in_ok-vars.vars c.as_slice.ensures c.as_slice-axes.ensures c.as_slice-2.ensures.variables c.in_ok-vars.ensures.vars)
    (c.in_ok-set-2.ensures ∙ ap (with_variables []) c.as_slice-3.ensures) (ap (λ s. with_vars s c.in_ok-set-2.field-0) c.in_ok-set.ensures)
    (given nodes c.args.args.now) (subst (λ xs. grid_given xs (given nodes c.args.args.now) ≡ Ok c.in_ok-sizes.sizes) c.as_slice-axes.ensures (c.in_ok-sizes.ensures nodes))

pub returns-clause-grids : goal.returns-clause-grids
returns-clause-grids c nodes =
    set_grids c.args.plan.now c.variables_cut.new.plan c.args.on.now (with_vars c.in_ok-set.set c.in_ok-set-2.field-0) c.in_ok-sizes.sizes c.in_ok-vars.vars c.in_ok-set-2.field-0 c.requires c.as_slice-2.ensures.distinct
    (are_here c.args.plan.now c.variables_cut.new.plan c.as_slice.result.now c.in_ok-sizes.sizes c.as_slice-axes.result.now c.args.on.now.axes c.as_slice-2.result.now c.args.on.now.vars c.in_ok-vars.vars c.as_slice.ensures c.as_slice-axes.ensures c.as_slice-2.ensures.variables c.in_ok-vars.ensures.vars)
    (c.in_ok-set-2.ensures ∙ ap (with_variables []) c.as_slice-3.ensures) (ap (λ s. with_vars s c.in_ok-set-2.field-0) c.in_ok-set.ensures)
    (grid_given c.args.on.now.axes (given nodes c.args.args.now)) (subst (λ xs. grid_given xs (given nodes c.args.args.now) ≡ Ok c.in_ok-sizes.sizes) c.as_slice-axes.ensures (c.in_ok-sizes.ensures nodes))

pub returns-clause-room : goal.returns-clause-room
returns-clause-room c =
    set_room c.args.plan.now c.variables_cut.new.plan c.args.on.now (with_vars c.in_ok-set.set c.in_ok-set-2.field-0) c.in_ok-sizes.sizes c.in_ok-vars.vars c.in_ok-set-2.field-0 c.requires c.as_slice-2.ensures.distinct
    (are_here c.args.plan.now c.variables_cut.new.plan c.as_slice.result.now c.in_ok-sizes.sizes c.as_slice-axes.result.now c.args.on.now.axes c.as_slice-2.result.now c.args.on.now.vars c.in_ok-vars.vars c.as_slice.ensures c.as_slice-axes.ensures c.as_slice-2.ensures.variables c.in_ok-vars.ensures.vars)
    (c.in_ok-set-2.ensures ∙ ap (with_variables []) c.as_slice-3.ensures) (ap (λ s. with_vars s c.in_ok-set-2.field-0) c.in_ok-set.ensures)
    (subst (λ xs. AddsAtMost c.args.plan.now c.variables_cut.new.plan (cells_over xs c.args.on.now.vars)) c.as_slice-axes.ensures
    (subst (λ vs. AddsAtMost c.args.plan.now c.variables_cut.new.plan (cells_over c.as_slice-axes.result.now vs)) c.as_slice-2.ensures.variables c.in_ok-vars.ensures.cells))

use Rattle.std.proofs.Common.{◌+◌, ◌∷◌, ◌++◌, ◌∙◌, [], add-one, ap, drop, subst, sym, take}
use Rattle.std.proofs.Math.Seq.{take-suc}
use Rattle.std.proofs.lemmas.List.{take_all}
use Rattle.xr_arrays.specs.Added.{AddsAtMost}
use Rattle.xr_values.proofs.Places.{from_place}
use Rattle.xr_chunking.specs.Grids.{cells_over, AreCutOf}
use Rattle.xr_chunking.proofs.VarsCut.{next, none_yet, over_now}
use Rattle.xr_chunking.proofs.sets.variables_cut.Goals as goal

pub loop-var-init : goal.loop-var-init
loop-var-init c = none_yet c.args.sizes.now c.args.axes.now c.args.plan.now c.args.vars.now c.new-out.result c.new-out.ensures c.requires

pub variable_cut-requires : goal.variable_cut-requires
variable_cut-requires c =
    over_now c.args.sizes.now c.args.axes.now c.args.plan.now c.loop-var.plan (take c.loop-var.var-index c.args.vars.now) (drop c.loop-var.var-index c.args.vars.now) (drop (c.loop-var.var-index + 1) c.args.vars.now) c.loop-var.out c.var-item.result
    (from_place c.args.vars.now c.loop-var.var-index c.var-item.result c.loop-var-test.true c.var-item.is) c.loop-var.invariant

pub loop-var-preserved : goal.loop-var-preserved
loop-var-preserved c =
    next c.args.sizes.now c.args.axes.now c.args.plan.now c.loop-var.plan (take c.loop-var.var-index c.args.vars.now) (drop c.loop-var.var-index c.args.vars.now) (drop (c.loop-var.var-index + 1) c.args.vars.now) c.loop-var.out c.var-item.result
    (from_place c.args.vars.now c.loop-var.var-index c.var-item.result c.loop-var-test.true c.var-item.is) c.loop-var.invariant
    c.variable_cut.new.plan c.in_ok-variable_cut.field-0 (take (c.loop-var.var-index + 1) c.args.vars.now) c.push.new.self
    (ap (λ n. take n c.args.vars.now) (add-one c.loop-var.var-index) ∙ take-suc c.args.vars.now c.loop-var.var-index c.var-item.result c.loop-var-test.true ∙ ap (λ y. take c.loop-var.var-index c.args.vars.now ++ y ∷ []) (sym c.var-item.is))
    c.in_ok-push.ensures.ok c.variable_cut.ensures.grows c.in_ok-variable_cut.ensures.var c.in_ok-variable_cut.ensures.cells

pub returns-clause-vars : goal.returns-clause-vars
returns-clause-vars c = subst (λ vs. AreCutOf c.args.plan.now c.loop-var.plan c.args.sizes.now c.args.axes.now vs c.loop-var.out) (take_all c.loop-var.var-index c.args.vars.now c.loop-var-test.false) c.loop-var.invariant.are

pub returns-clause-cells : goal.returns-clause-cells
returns-clause-cells c = subst (λ vs. AddsAtMost c.args.plan.now c.loop-var.plan (cells_over c.args.axes.now vs)) (take_all c.loop-var.var-index c.args.vars.now c.loop-var-test.false) c.loop-var.invariant.cells

use Rattle.std.proofs.Common.{◌+◌, ◌∷◌, ◌++◌, ◌∙◌, [], add-one, ap, drop, map, subst, sym, take}
use Rattle.std.proofs.Math.Seq.{take-suc}
use Rattle.std.proofs.lemmas.List.{take_all}
use Rattle.xr_arrays.specs.Added.{AddsAtMost}
use Rattle.xr_groups.specs.Listed.{axes_by}
use Rattle.xr_values.proofs.Places.{from_place}
use Rattle.xr_values.specs.Stands.{variable_in}
use Rattle.xr_group_sets.specs.Listing.{variable_at, vars_room, AreVarsIn}
use Rattle.xr_group_sets.proofs.Growing.{fits_now, next, none_yet}
use Rattle.xr_group_sets.proofs.variables.variables_listed.Goals as goal

pub loop-var-init : goal.loop-var-init
loop-var-init c = none_yet c.args.plan.now c.args.fold c.args.least c.args.changes.now c.args.fill c.args.axes.now c.args.vars.now c.new-out.result c.new-out.ensures c.requires.fits

pub variable_listed-requires-clause-fits : goal.variable_listed-requires-clause-fits
variable_listed-requires-clause-fits c =
    fits_now c.args.plan.now c.args.fold c.args.least c.args.changes.now c.args.fill c.args.axes.now
    c.loop-var.plan (take c.loop-var.var-index c.args.vars.now) (drop c.loop-var.var-index c.args.vars.now) (drop (c.loop-var.var-index + 1) c.args.vars.now) c.loop-var.out c.var-item.result
    (from_place c.args.vars.now c.loop-var.var-index c.var-item.result c.loop-var-test.true c.var-item.is) c.loop-var.invariant

pub loop-var-preserved : goal.loop-var-preserved
loop-var-preserved c =
    next c.args.plan.now c.args.fold c.args.least c.args.changes.now c.args.fill c.args.axes.now
    c.loop-var.plan (take c.loop-var.var-index c.args.vars.now) (drop c.loop-var.var-index c.args.vars.now) (drop (c.loop-var.var-index + 1) c.args.vars.now) c.loop-var.out c.var-item.result
    (from_place c.args.vars.now c.loop-var.var-index c.var-item.result c.loop-var-test.true c.var-item.is) c.loop-var.invariant
    c.variable_listed.new.plan c.in_ok-one.one (take (c.loop-var.var-index + 1) c.args.vars.now) c.push.new.self
    (ap (λ n. take n c.args.vars.now) (add-one c.loop-var.var-index) ∙ take-suc c.args.vars.now c.loop-var.var-index c.var-item.result c.loop-var-test.true ∙ ap (λ y. take c.loop-var.var-index c.args.vars.now ++ y ∷ []) (sym c.var-item.is))
    c.in_ok-push.ensures.ok c.variable_listed.ensures.grows c.in_ok-one.ensures.var c.in_ok-one.ensures.cells

pub returns-clause-vars : goal.returns-clause-vars
returns-clause-vars c =
    subst (λ vs. AreVarsIn (axes_by c.args.changes.now c.args.axes.now) c.loop-var.plan (map (variable_at c.args.fold c.args.least c.args.changes.now c.args.fill c.args.axes.now) (map (variable_in c.args.plan.now) vs)) c.loop-var.out)
    (take_all c.loop-var.var-index c.args.vars.now c.loop-var-test.false) c.loop-var.invariant.are

pub returns-clause-cells : goal.returns-clause-cells
returns-clause-cells c = subst (λ vs. AddsAtMost c.args.plan.now c.loop-var.plan (vars_room c.args.changes.now c.args.axes.now vs)) (take_all c.loop-var.var-index c.args.vars.now c.loop-var-test.false) c.loop-var.invariant.cells

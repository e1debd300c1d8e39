use Rattle.std.proofs.Common.{◌∙◌, ap, filter, subst, sym}
use Rattle.std.specs.List.{AllByRecursion}
use Rattle.xr_types.specs.Names.{are_distinct, axis_names}
use Rattle.xr_defs.specs.Values.{without_fills}
use Rattle.xr_defs.specs.WellFormed.{AreDimensions}
use Rattle.xr_groups.specs.Listed.{axes_by, coords_by}
use Rattle.xr_reducing.specs.Reduced.{is_busy}
use Rattle.xr_group_sets.specs.Listing.{IsVarListing}
use Rattle.xr_group_sets.proofs.Placed.{set_told}
use Rattle.xr_group_sets.proofs.sets.placed.Goals as goal

pub variables_listed-requires-clause-dims : goal.variables_listed-requires-clause-dims
variables_listed-requires-clause-dims c = subst AreDimensions (sym c.as_slice-own.ensures) c.requires.frame.formed.axes

pub variables_listed-requires-clause-distinct : goal.variables_listed-requires-clause-distinct
variables_listed-requires-clause-distinct c = ap (λ xs. are_distinct (axis_names (axes_by c.args.changes.now xs))) c.as_slice-own.ensures ∙ c.requires.after.dims.distinct

pub variables_listed-requires-clause-fits : goal.variables_listed-requires-clause-fits
variables_listed-requires-clause-fits c =
    subst (AllByRecursion (IsVarListing c.args.plan.now c.args.fold c.args.least c.args.changes.now c.args.fill c.as_slice-own.result.now)) (sym c.as_slice-old.ensures)
    (subst (λ xs. AllByRecursion (IsVarListing c.args.plan.now c.args.fold c.args.least c.args.changes.now c.args.fill xs) c.args.frame.now.vars) (sym c.as_slice-own.ensures) c.requires.vars)

pub returns-clause-set : goal.returns-clause-set
returns-clause-set c =
    (set_told c.args.plan.now c.variables_listed.new.plan c.args.fold c.args.least c.args.keeps c.args.changes.now c.args.fill c.args.on.now c.args.frame.now c.as_slice-own.result.now c.in_ok-all.all c.in_ok-axes.axes c.in_ok-coords.coords c.in_ok-attrs.attrs
    c.in_ok-skipped.skipped c.as_slice-old.result.now c.as_slice-listed.result.now c.in_ok-listed.listed c.in_ok-vars.vars c.requires c.as_slice-own.ensures c.in_ok-all.ensures (c.in_ok-coords.ensures ∙ ap (coords_by c.args.keeps c.args.changes.now) c.as_slice.ensures)
    (c.in_ok-attrs.ensures ∙ ap without_fills c.as_slice-2.ensures) c.in_ok-skipped.ensures c.as_slice-old.ensures c.as_slice-listed.ensures c.in_ok-listed.ensures.vars c.in_ok-listed.ensures.cells
    (c.in_ok-axes.ensures ∙ ap (λ ys. filter (is_busy ys c.as_slice-listed.result.now) c.as_slice-4.result.now) c.as_slice-3.ensures ∙ ap (filter (is_busy c.in_ok-coords.coords c.as_slice-listed.result.now)) c.as_slice-4.ensures) c.in_ok-vars.ensures).0

pub returns-clause-room : goal.returns-clause-room
returns-clause-room c =
    (set_told c.args.plan.now c.variables_listed.new.plan c.args.fold c.args.least c.args.keeps c.args.changes.now c.args.fill c.args.on.now c.args.frame.now c.as_slice-own.result.now c.in_ok-all.all c.in_ok-axes.axes c.in_ok-coords.coords c.in_ok-attrs.attrs
    c.in_ok-skipped.skipped c.as_slice-old.result.now c.as_slice-listed.result.now c.in_ok-listed.listed c.in_ok-vars.vars c.requires c.as_slice-own.ensures c.in_ok-all.ensures (c.in_ok-coords.ensures ∙ ap (coords_by c.args.keeps c.args.changes.now) c.as_slice.ensures)
    (c.in_ok-attrs.ensures ∙ ap without_fills c.as_slice-2.ensures) c.in_ok-skipped.ensures c.as_slice-old.ensures c.as_slice-listed.ensures c.in_ok-listed.ensures.vars c.in_ok-listed.ensures.cells
    (c.in_ok-axes.ensures ∙ ap (λ ys. filter (is_busy ys c.as_slice-listed.result.now) c.as_slice-4.result.now) c.as_slice-3.ensures ∙ ap (filter (is_busy c.in_ok-coords.coords c.as_slice-listed.result.now)) c.as_slice-4.ensures) c.in_ok-vars.ensures).1

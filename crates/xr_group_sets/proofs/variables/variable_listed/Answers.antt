use Rattle.std.proofs.Common.{◌≡◌, ◌∙◌, true, false, ap, sym, arith}
use Rattle.xr_types.specs.Names.{axis_names}
use Rattle.xr_groups.specs.Listed.{is_grouped}
use Rattle.xr_group_sets.proofs.OneVar.{listed_told, own_told, stays_told}
use Rattle.xr_group_sets.proofs.variables.variable_listed.Goals as goal

pub returns-then-not-is_grouped-clause-var : goal.returns-then-not-is_grouped-clause-var
returns-then-not-is_grouped-clause-var c =
    let test : c.is_grouped.result ≡ false = first_of (cc, grind arith) in
    stays_told c.args.plan.now c.args.fold c.args.least c.args.changes.now c.args.fill c.args.axes.now c.args.var.now c.in_ok-deep_copy.field-0 c.requires.dims c.requires.distinct c.requires.fits
    (ap (is_grouped c.args.changes.now) (sym c.as_slice.ensures) ∙ sym c.is_grouped.ensures ∙ test) c.in_ok-deep_copy.ensures

pub listed_array-requires-clause-inside : goal.listed_array-requires-clause-inside
listed_array-requires-clause-inside c =
    own_told c.args.plan.now c.args.fold c.args.least c.args.changes.now c.args.fill c.args.axes.now c.args.var.now c.in_ok-array.array c.requires.dims c.requires.distinct c.requires.fits c.in_ok-array.ensures

pub returns-clause-var : goal.returns-clause-var
returns-clause-var c =
    let test : c.is_grouped.result ≡ true = first_of (cc, grind arith) in
    listed_told c.args.plan.now c.listed_array.new.plan c.args.fold c.args.least c.args.changes.now c.args.fill c.args.axes.now c.args.var.now c.in_ok-array.array c.in_ok-grouped.grouped c.in_ok-deep_copy-2.field-0 c.in_ok-names_of.field-0
    c.requires.dims c.requires.distinct c.requires.fits (ap (is_grouped c.args.changes.now) (sym c.as_slice.ensures) ∙ sym c.is_grouped.ensures ∙ test) c.in_ok-array.ensures c.in_ok-grouped.ensures.is
    c.in_ok-deep_copy-2.ensures (c.in_ok-names_of.ensures ∙ ap axis_names c.as_slice-2.ensures)

use Rattle.std.specs.Prelude.{option_map}
use Rattle.xr_values.specs.Meaning.{given, meaning}
use Rattle.xr_group_sets.proofs.Told.{answer_told, frame_here, frame_told}
use Rattle.xr_group_sets.proofs.sets.frame_grouped.Goals as goal

pub grouped_changes-requires : goal.grouped_changes-requires
grouped_changes-requires c = frame_here c.args.plan.now c.args.on.now c.args.frame.now c.as_slice-own.result.now c.as_slice-coords.result.now c.requires.frame c.as_slice-own.ensures c.as_slice-coords.ensures

pub filled-requires : goal.filled-requires
filled-requires c =
    frame_told c.args.plan.now c.args.fold c.args.grouping.now c.args.on.now c.args.frame.now c.as_slice-own.result.now c.as_slice-coords.result.now c.as_slice-vars.result.now c.in_ok-names.names c.as_slice-others.result.now c.in_ok-changes.changes c.as_slice-changes.result.now
    c.as_slice-own.ensures c.as_slice-coords.ensures c.as_slice-vars.ensures c.in_ok-names.ensures c.as_slice-others.ensures c.as_slice-changes.ensures c.in_ok-check_method.ensures c.in_ok-changes.ensures.answers c.requires.frame c.in_ok-changes.ensures.changes

pub returns-clause-answers : goal.returns-clause-answers
returns-clause-answers c = λ nodes.
    answer_told c.args.plan.now c.args.fold c.args.grouping.now c.args.on.now c.args.frame.now c.as_slice-own.result.now c.as_slice-coords.result.now c.as_slice-vars.result.now c.in_ok-names.names c.as_slice-others.result.now c.in_ok-changes.changes c.as_slice-changes.result.now
    c.as_slice-own.ensures c.as_slice-coords.ensures c.as_slice-vars.ensures c.in_ok-names.ensures c.as_slice-others.ensures c.as_slice-changes.ensures c.in_ok-check_method.ensures c.in_ok-changes.ensures.answers
    c.filled.new.plan (given nodes c.args.args.now) (option_map (λ v. meaning nodes v.now) c.in_ok-fill.fill) c.least_of.result c.cell_given-cell.result c.filled.result c.least_of.ensures (c.cell_given-cell.ensures nodes) (c.in_ok-fill.ensures nodes)
    (c.in_ok-check_literal.ensures nodes) (c.in_ok-check_kinds.ensures c.args.plan.now nodes) c.filled.ensures.answers

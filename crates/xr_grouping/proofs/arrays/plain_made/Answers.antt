use Rattle.std.proofs.Common.{◌∙◌}
use Rattle.xr_values.specs.Meaning.{given}
use Rattle.xr_grouping.proofs.Answering.{array_told_by}
use Rattle.xr_grouping.proofs.arrays.plain_made.Goals as goal

pub returns : goal.returns
returns c = λ nodes others is.
    array_told_by nodes c.args.fold c.args.grouping.now c.args.on.now (given others c.args.args.now) c.as_slice-own.result.now c.as_slice-2.result.now c.as_slice.result.now c.as_slice-changes.result.now c.in_ok-changes.changes c.in_ok-made.made is
    c.requires.plain c.as_slice-own.ensures c.as_slice.ensures c.as_slice-changes.ensures c.in_ok-check_has_method.ensures (c.in_ok-nothing_given.ensures others) c.in_ok-changes.ensures.answers (c.as_slice-2.ensures ∙ c.in_ok-axes.ensures)
    c.in_ok-check_axes.ensures c.in_ok-made.ensures

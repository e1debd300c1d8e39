use Rattle.std.proofs.Common.{[], ◌∙◌}
use Rattle.xr_values.specs.Meaning.{given}
use Rattle.xr_grouping.proofs.BinAnswers.{bins_told_by}
use Rattle.xr_grouping.proofs.bins.binned_made.Goals as goal

pub returns : goal.returns
returns c = λ nodes others is.
    bins_told_by nodes c.args.fold c.args.dimension.now c.args.freq c.args.on.now (given others c.args.args.now) c.folded_kind-kind.result c.in_ok-fill.fill c.is_some.result c.masked_by.result c.as_slice-own.result.now c.as_slice.result.now c.as_slice-changes.result.now c.in_ok-changes.changes c.in_ok-chain.chain c.in_ok-made.made is
    c.folded_kind-kind.ensures c.is_some.ensures c.as_slice-own.ensures c.as_slice-changes.ensures c.in_ok-check_method.ensures (c.in_ok-fill.ensures others) (c.in_ok-changes.ensures c.args.on.now.coords []) c.in_ok-check_filled.ensures c.in_ok-check_given.ensures (c.as_slice.ensures ∙ c.in_ok-axes.ensures) c.in_ok-check_axes.ensures
    c.in_ok-chain.ensures c.masked_by.ensures c.in_ok-made.ensures

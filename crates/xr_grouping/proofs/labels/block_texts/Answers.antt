use Rattle.std.proofs.Common.{◌∙◌, ap, map}
use Rattle.std.specs.List.{range_with_len}
use Rattle.xr_arrays.specs.FeedPositions.{block}
use Rattle.xr_groups.specs.Blocks as of
use Rattle.xr_grouping.proofs.Labelled.{pushed}
use Rattle.xr_grouping.proofs.labels.block_texts.Goals as goal

pub loop-at-preserved : goal.loop-at-preserved
loop-at-preserved c =
    let label = of.block_text c.args.fold c.args.texts.now in
    pushed label c.args.width c.loop-at.at c.args.count c.loop-at.out c.push.new.self (map label (map (block c.args.width) (range_with_len 0 c.args.count))) c.in_ok-deep_copy.field-0 c.loop-at-test.true
    (c.in_ok-deep_copy.ensures ∙ c.block_text-label.ensures ∙ ap (λ s. label (range_with_len s c.args.width)) c.block_start-from.ensures.start) c.in_ok-push.ensures.ok c.loop-at.invariant

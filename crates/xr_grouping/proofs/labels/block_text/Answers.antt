use Rattle.std.proofs.Common.{◌+◌}
use Rattle.std.specs.List.{range_with_len}
use Rattle.xr_groups.specs.Blocks as of
use Rattle.xr_grouping.proofs.Labelled.{text_first, text_next}
use Rattle.xr_grouping.proofs.labels.block_text.Goals as goal

pub loop-at-init : goal.loop-at-init
loop-at-init c = text_first c.args.fold c.args.texts.now c.args.from c.args.width c.index-texts-from.result c.requires.some c.requires.inside c.index-texts-from.is

pub loop-at-preserved : goal.loop-at-preserved
loop-at-preserved c =
    text_next c.args.fold c.args.texts.now c.loop-at.at (c.args.from + c.args.width) c.loop-at.best.now c.better-best.result.now c.index-texts-at.result (of.block_text c.args.fold c.args.texts.now (range_with_len c.args.from c.args.width))
    c.loop-at-test.true c.requires.inside c.index-texts-at.is c.better-best.ensures c.loop-at.invariant

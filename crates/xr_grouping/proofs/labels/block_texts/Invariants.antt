use Rattle.std.proofs.Common.{◌≡◌, ◌++◌, ◌-◌, map}
use Rattle.std.specs.List.{range_with_len}
use Rattle.xr_arrays.specs.FeedPositions.{block}
use Rattle.xr_groups.specs.Blocks as of
use Rattle.xr_grouping.proofs.labels.block_texts.Given as goal

abbrev pub invariant-loop-at : goal.invariant-loop-at
invariant-loop-at l =
    l.out ++ map (of.block_text l.fold l.texts) (map (block l.width) (range_with_len l.at (l.count - l.at))) ≡ map (of.block_text l.fold l.texts) (map (block l.width) (range_with_len 0 l.count))

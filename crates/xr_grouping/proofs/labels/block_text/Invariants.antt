use Rattle.std.proofs.Common.{◌≡◌, ◌≤◌, ◌-◌, [], map, fold, get_or}
use Rattle.std.specs.List.{range_with_len}
use Rattle.xr_groups.specs.Blocks as of
use Rattle.xr_grouping.specs.Labelled.{choice_of}
use Rattle.xr_grouping.proofs.labels.block_text.Given as goal

abbrev pub invariant-loop-at : goal.invariant-loop-at
invariant-loop-at l = fold (choice_of l.fold) l.best (map (λ i. get_or l.texts i []) (range_with_len l.at (l.to - l.at))) ≡ of.block_text l.fold l.texts (range_with_len l.from l.width)

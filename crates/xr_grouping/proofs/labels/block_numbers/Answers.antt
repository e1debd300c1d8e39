use Rattle.std.proofs.Common.{◌≡◌, ◌∙◌, ◌++◌, ◌∷◌, [], ap, map, rules}
use Rattle.std.specs.List.{range_with_len}
use Rattle.xr_arrays.specs.FeedPositions.{block}
use Rattle.xr_groups.specs.Blocks as of
use Rattle.xr_grouping.proofs.Labelled.{pushed}
use Rattle.xr_grouping.proofs.labels.block_numbers.Goals as goal

pub loop-at-preserved : goal.loop-at-preserved
loop-at-preserved c =
    let label = of.block_number c.args.fold c.args.kind c.args.numbers.now in
    let more : c.push.new.self.items ≡ c.loop-at.out.items ++ c.in_ok-block_number.field-0 ∷ [] = let e = c.in_ok-push.ensures.items in search rules in
    pushed label c.args.width c.loop-at.at c.args.count c.loop-at.out.items c.push.new.self.items (map label (map (block c.args.width) (range_with_len 0 c.args.count))) c.in_ok-block_number.field-0 c.loop-at-test.true
    (c.in_ok-block_number.ensures ∙ ap (λ s. label (range_with_len s c.args.width)) c.block_start-from.ensures.start) more c.loop-at.invariant

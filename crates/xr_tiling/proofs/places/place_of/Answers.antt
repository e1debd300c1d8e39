use Rattle.std.proofs.Common.{◌∙◌}
use Rattle.xr_tiling.proofs.Loops.{placed_on}
use Rattle.xr_tiling.proofs.places.place_of.Goals as goal

pub loop-ranking-preserved : goal.loop-ranking-preserved
loop-ranking-preserved c =
    placed_on c.args.rankings.now c.loop-ranking.ranking-index c.args.at c.ranking-item.result c.loop-ranking.place c.in_ok-place.place c.loop-ranking-test.true c.ranking-item.is c.in_ok-place.ensures
    ∙ c.loop-ranking.invariant

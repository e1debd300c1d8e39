use Rattle.std.proofs.Common.{◌∙◌, ◌++◌, ◌∷◌, [], arith, sym}
use Rattle.std.proofs.lemmas.List.FromFn.{map-range_with_len_more}
use Rattle.xr_tiling.specs.Places.{place_in}
use Rattle.xr_tiling.proofs.places.places.Goals as goal

pub loop-at-preserved : goal.loop-at-preserved
loop-at-preserved c =
    c.in_ok-push.ensures.ok ∙ (λ i. c.loop-at.invariant i ++ c.in_ok-place.ensures i ∷ []) ∙ sym (map-range_with_len_more (place_in c.args.rankings.now) 0 c.loop-at.at c.loop-at.at (omega arith))

use Rattle.std.proofs.Common.{◌∙◌, ◌++◌, ◌∷◌, [], arith, sym}
use Rattle.std.specs.Prelude.{◌==◌}
use Rattle.std.specs.List.{position_or_len}
use Rattle.std.proofs.lemmas.List.FromFn.{map-range_with_len_more}
use Rattle.xr_tiling.proofs.places.order_of.Goals as goal

pub loop-place-preserved : goal.loop-place-preserved
loop-place-preserved c =
    c.in_ok-push.ensures.ok ∙ (λ i. c.loop-place.invariant i ++ c.position_of-position.ensures.position i ∷ [])
    ∙ sym (map-range_with_len_more (λ k. position_or_len (λ p. p == k) c.args.places.now) 0 c.loop-place.place c.loop-place.place (omega arith))

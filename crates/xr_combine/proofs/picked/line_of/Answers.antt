use Rattle.std.proofs.Common.{◌∙◌, ◌+◌, ◌*◌, ◌++◌, ◌∷◌, [], arith, sym}
use Rattle.std.proofs.lemmas.List.FromFn.{map-range_with_len_more}
use Rattle.xr_combine.proofs.picked.line_of.Goals as goal

pub loop-place-preserved : goal.loop-place-preserved
loop-place-preserved c =
    c.in_ok-push.ensures.ok ∙ (λ i. c.loop-place.invariant i ++ c.in_ok-position.ensures i ∷ [])
    ∙ sym (map-range_with_len_more (λ i. i * c.args.step + c.args.start) 0 c.loop-place.place c.loop-place.place (omega arith))

use Rattle.std.proofs.Common.{◌∙◌, ◌++◌, ◌∷◌, [], arith, sym}
use Rattle.std.proofs.lemmas.List.FromFn.{map-range_with_len_more}
use Rattle.xr_combine.specs.Steps.{line_of}
use Rattle.xr_combine.proofs.picked.lines_of.Goals as goal

pub loop-start-preserved : goal.loop-start-preserved
loop-start-preserved c =
    c.in_ok-push.ensures.ok ∙ (λ i. c.loop-start.invariant i ++ c.in_ok-line.ensures i ∷ []) ∙ sym (map-range_with_len_more (line_of c.args.count c.args.step) 0 c.loop-start.start c.loop-start.start (omega arith))

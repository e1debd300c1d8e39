use Rattle.std.proofs.Common.{◌<◌, ◌∙◌, option_map, subst, sym}
use Rattle.cell_strips.proofs.Results.{null_here}
use Rattle.cell_strips.proofs.arrays.missing.Goals as goal

pub returns : goal.returns
returns c =
    c.array.ensures ∙ (null_here c.args.a.now c.in_ok-shape.shape c.parts.result.0.now c.in_ok-truths.truths (option_map (λ m. m.now) c.parts.result.1) c.requires.array (c.in_ok-shape.ensures ∙ c.requires.shape) c.parts.ensures (c.in_ok-truths.ensures.long ∙ c.count.ensures) (λ i lt. c.in_ok-truths.ensures.bytes i (subst (λ n. i < n) (sym c.count.ensures) lt))).is

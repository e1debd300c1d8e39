use Rattle.std.proofs.Common.{[], sym, ◌≡◌, ◌∙◌, length, arith}
use Rattle.xr_types.specs.declared.axis.Label.TheVariants.{Text}
use Rattle.align_join.proofs.Same.{each_by, one_by}
use Rattle.align_join.proofs.label.same_texts.Goals as goal

pub returns-then-not-same_text : goal.returns-then-not-same_text
returns-then-not-same_text c =
    let whole : length c.args.a.now ≡ length c.args.b.now = omega arith in
    sym (one_by Text [] c.args.a.now c.args.b.now c.loop-at.at (omega arith) (omega arith) (sym c.same_text.ensures ∙ c.if-not-same_text.true))

pub returns : goal.returns
returns c =
    let whole : length c.args.a.now ≡ length c.args.b.now = omega arith in
    sym (each_by Text [] c.args.a.now c.args.b.now whole (λ k s. c.loop-at.invariant k (omega arith)))

use Rattle.std.proofs.Common.{refl, ◌∙◌, ap}
use Rattle.std.proofs.lemmas.List.{get_or_default}
use Rattle.row_folds.proofs.Reached.{differs_next}
use Rattle.row_folds.proofs.finish.are_reached.Goals as goal

pub loop-i-preserved : goal.loop-i-preserved
loop-i-preserved g c = λ e.
    differs_next g.A.Extreme.extreme (g.T.Elem.number c.args.none) c.args.rows.now c.loop-i.i c.loop-i.all c.differs-all.result _ refl e c.loop-i.invariant
    (λ t a is. c.differs-all.ensures t (c.extreme.ensures ∙ ap g.A.Extreme.extreme (c.index-rows-i.is ∙ get_or_default c.args.rows.now c.loop-i.i c.index-rows-i.result a c.loop-i-test.true) ∙ is))

use Rattle.std.proofs.Common.{◌∙◌, map, subst, sym}
use Rattle.xr_relations.specs.Aligning.{fitted_set}
use Rattle.xr_concat.specs.Named.{AnswersOver}
use Rattle.xr_concat.proofs.Opened.{sets_framed, sets_open}
use Rattle.xr_concat.proofs.sets.all_over.Goals as goal

pub sets_over-requires-clause-open : goal.sets_over-requires-clause-open
sets_over-requires-clause-open c = let old = c.args.plan.now in sets_open old c.args.sets.now (c.requires.sets (sym (c.are_sets.ensures old) ∙ c.if-are_sets.true))

pub sets_over-requires-clause-frames : goal.sets_over-requires-clause-frames
sets_over-requires-clause-frames c = let old = c.args.plan.now in sets_framed old c.args.sets.now (c.requires.sets (sym (c.are_sets.ensures old) ∙ c.if-are_sets.true))

pub returns-then-are_arrays-clause-answers : goal.returns-then-are_arrays-clause-answers
returns-then-are_arrays-clause-answers c =
    subst (λ ss. AnswersOver c.arrays_over.new.plan c.arrays_over.result (map (fitted_set c.args.joined.now c.args.fill) ss)) (sym c.requires.are)
    (c.arrays_over.ensures.answers (sym (c.are_arrays.ensures c.args.plan.now) ∙ c.if-are_arrays.true))

use Rattle.std.proofs.Common.{◌≢◌, ◌∙◌, Ok, ap, arith, length, subst, sym}
use Rattle.std.specs.Prelude.{option_map}
use Rattle.xr_combination.specs.Combine.{group_combined}
use Rattle.xr_values.specs.Meaning.{meaning}
use Rattle.xr_values.specs.Stands.{dataset_in, IsDatasetIn}
use Rattle.xr_combine.specs.Sets.{sets_in, AnswersShared}
use Rattle.xr_combine.proofs.Grouped.{more_combined, one_combined}
use Rattle.xr_combine.proofs.Kept.{alone_holds, sets_alone, sets_long}
use Rattle.xr_combine.proofs.groups.group_combined.Goals as goal

pub returns-in_ok-clone-in-len1-clause-answers : goal.returns-in_ok-clone-in-len1-clause-answers
returns-in_ok-clone-in-len1-clause-answers g c =
    let old = c.args.plan.now in
    let fill = option_map (λ v. meaning old v.now) c.args.fill in
    let same = c.in_ok-clone-in-len1.ensures.cases in
    (ap (group_combined c.args.how fill) (sets_alone old c.args.sets.now c.set-item.result (omega arith) c.set-item.is) ∙ one_combined c.args.how fill (dataset_in old c.set-item.result.value) ∙ ap (λ d. Ok (dataset_in old d)) (sym same), subst (IsDatasetIn old) (sym same) (alone_holds old c.args.sets.now c.set-item.result (omega arith) c.set-item.is c.requires.inside))

pub returns-in-len2-up-clause-answers : goal.returns-in-len2-up-clause-answers
returns-in-len2-up-clause-answers g c =
    let old = c.args.plan.now in
    let ss = sets_in old c.args.sets.now in
    let long = sets_long old c.args.sets.now in
    let other : length ss ≢ 1 = λ one. omega (arith, one, long, c.in-len2-up.len_at_least) in
    subst (AnswersShared c.several_combined.new.plan c.several_combined.result) (sym (more_combined c.args.how (option_map (λ v. meaning old v.now) c.args.fill) ss other)) c.several_combined.ensures.answers

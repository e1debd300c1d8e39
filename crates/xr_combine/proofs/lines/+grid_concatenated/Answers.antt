use Rattle.std.proofs.Common.{◌∙◌, Err, Ok, ap, subst, sym}
use Rattle.std.specs.Prelude.{option_map}
use Rattle.std.proofs.lemmas.Result.{err_from_is_err_and}
use Rattle.xr_combination.specs.Combine.{grid_concatenated}
use Rattle.xr_joint.proofs.Firsts.{others}
use Rattle.xr_values.specs.Meaning.{meaning}
use Rattle.xr_combine.specs.Sets.{sets_in, AnswersShared, AreSetsIn}
use Rattle.xr_combine.proofs.Failing.{shared_fails}
use Rattle.xr_combine.proofs.Lined.{lines_fail, lines_made, no_dims, no_shape}
use Rattle.xr_combine.proofs.lines.+grid_concatenated.Goals as goal

pub grid_concatenated-requires-clause-inside : goal.grid_concatenated-requires-clause-inside
grid_concatenated-requires-clause-inside g t c = λ κs lives. subst (AreSetsIn c.lines_concatenated.new.plan) (sym c.as_slice-in-len1-up-shape.ensures) c.in_ok-sets-in-len1-up-shape.ensures.answers.1

pub returns-in_ok-first_set-in-empty-clause-answers : goal.returns-in_ok-first_set-in-empty-clause-answers
returns-in_ok-first_set-in-empty-clause-answers g t c =
    let old = c.args.plan.now in
    let first = c.in_ok-first_set-in-empty.ensures in
    (no_dims c.args.how (option_map (λ v. meaning old v.now) c.args.fill) (sets_in old c.args.tiles.now) c.args.dims.now c.args.shape.now c.in-empty.len_below ∙ ap Ok (sym (first.is old)), first.inside old c.requires.inside)

pub returns-in_ok-first_set-in-empty-shape-clause-answers : goal.returns-in_ok-first_set-in-empty-shape-clause-answers
returns-in_ok-first_set-in-empty-shape-clause-answers g t c =
    let old = c.args.plan.now in
    let first = c.in_ok-first_set-in-empty-shape.ensures in
    (no_shape c.args.how (option_map (λ v. meaning old v.now) c.args.fill) (sets_in old c.args.tiles.now) c.args.dims.now c.args.shape.now c.in-empty-shape.len_below ∙ ap Ok (sym (first.is old)), first.inside old c.requires.inside)

pub returns-in_err-sets-in-len1-up-shape-clause-answers : goal.returns-in_err-sets-in-len1-up-shape-clause-answers
returns-in_err-sets-in-len1-up-shape-clause-answers g t c =
    let old = c.args.plan.now in
    let fill = option_map (λ v. meaning old v.now) c.args.fill in
    let e = c.in_err-sets-in-len1-up-shape.field-0.0 in
    let p = err_from_is_err_and c.from_residual-in_err-sets-in-len1-up-shape.result c.from_residual-in_err-sets-in-len1-up-shape.ensures.1 in
    shared_fails c.lines_concatenated.new.plan c.from_residual-in_err-sets-in-len1-up-shape.result e (grid_concatenated c.args.how fill c.args.dims.now c.args.shape.now (sets_in old c.args.tiles.now)) (p.1 ∙ ap Err p.2)
    (lines_fail c.args.how fill c.dim-item.result (sets_in old c.args.tiles.now) c.args.dims.now c.args.shape.now c.in-len1-up.len_at_least c.dim-item.is c.in-len1-up-shape.len_at_least c.in_ok-places_of-in-len1-up-shape.field-0 c.as_slice.result.now
    c.in_ok-places_of-in-len1-up-shape.ensures (c.as_slice.ensures ∙ c.in_ok-lines-in-len1-up-shape.ensures) e c.in_err-sets-in-len1-up-shape.ensures.answers)

pub returns-in_ok-sets-in-len1-up-shape-clause-answers : goal.returns-in_ok-sets-in-len1-up-shape-clause-answers
returns-in_ok-sets-in-len1-up-shape-clause-answers g t c =
    let old = c.args.plan.now in
    let mid = c.lines_concatenated.new.plan in
    let fill = option_map (λ v. meaning old v.now) c.args.fill in
    subst (AnswersShared c.grid_concatenated.new.plan c.grid_concatenated.result)
    ((λ i. grid_concatenated c.args.how (c.requires.fixed.means mid old i) (others c.args.dims.now) (others c.args.shape.now) (sets_in mid (c.as_slice-in-len1-up-shape.ensures i)))
    ∙ sym
    (lines_made c.args.how fill c.dim-item.result (sets_in old c.args.tiles.now) c.args.dims.now c.args.shape.now c.in-len1-up.len_at_least c.dim-item.is c.in-len1-up-shape.len_at_least c.in_ok-places_of-in-len1-up-shape.field-0 c.as_slice.result.now
    c.in_ok-places_of-in-len1-up-shape.ensures (c.as_slice.ensures ∙ c.in_ok-lines-in-len1-up-shape.ensures) (sets_in mid c.in_ok-sets-in-len1-up-shape.sets) c.in_ok-sets-in-len1-up-shape.ensures.answers.0))
    c.grid_concatenated.ensures.answers

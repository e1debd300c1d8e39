use Rattle.std.proofs.Common.{◌≡◌, ◌∙◌, List, Err, ap, map, subst, sym}
use Rattle.std.specs.Prelude.{option_map}
use Rattle.std.proofs.lemmas.Result.{err_from_is_err_and}
use Rattle.xr_combination.specs.Combine.{grid_of}
use Rattle.xr_combination.specs.declared.grid.Grid.{Grid}
use Rattle.xr_defs.specs.Values.{Dataset as TheSet}
use Rattle.xr_joint.proofs.Failing.{fails_of}
use Rattle.xr_values.specs.Answers.{Fails}
use Rattle.xr_values.specs.Meaning.{meaning}
use Rattle.xr_values.specs.Stands.{dataset_in}
use Rattle.xr_values.specs.declared.dataset.Dataset.{Dataset}
use Rattle.xr_combine.specs.Sets.{held, sets_in, AnswersShared}
use Rattle.xr_combine.specs.Steps.{several_combined}
use Rattle.xr_combine.proofs.Failing.{shared_fails}
use Rattle.xr_combine.proofs.Grouped.{several_refused, several_told}
use Rattle.xr_combine.proofs.groups.several_combined.Goals as goal

pub returns-in_err-grid-clause-answers : goal.returns-in_err-grid-clause-answers
returns-in_err-grid-clause-answers g c =
    let old = c.args.plan.now in
    let fill = option_map (λ v. meaning old v.now) c.args.fill in
    let ss = sets_in old c.args.sets.now in
    let e = c.in_err-grid.field-0.0 in
    let p = err_from_is_err_and c.from_residual-in_err-grid.result c.from_residual-in_err-grid.ensures.1 in
    let axes = λ (ds : List Dataset). map (λ (s : TheSet). s.axes) (map (dataset_in old) ds) in
    let same : map (λ s. s.now) c.as_slice.result.now ≡ held c.args.sets.now = ap (map (λ s. s.now)) c.as_slice.ensures ∙ c.in_ok-tiles.ensures in
    shared_fails old c.from_residual-in_err-grid.result e (several_combined c.args.how fill ss) (p.1 ∙ ap Err p.2)
    (several_refused c.args.how fill ss e (subst (λ ds. Fails e (grid_of (axes ds))) same (fails_of (λ (h : Grid). h) e (grid_of (axes (map (λ s. s.now) c.as_slice.result.now))) (c.in_err-grid.ensures old))))

pub returns-clause-answers : goal.returns-clause-answers
returns-clause-answers g c =
    let old = c.args.plan.now in
    let fill = option_map (λ v. meaning old v.now) c.args.fill in
    let ss = sets_in old c.args.sets.now in
    let axes = λ (ds : List Dataset). map (λ (s : TheSet). s.axes) (map (dataset_in old) ds) in
    let same : map (λ s. s.now) c.as_slice.result.now ≡ held c.args.sets.now = ap (map (λ s. s.now)) c.as_slice.ensures ∙ c.in_ok-tiles.ensures in
    subst (AnswersShared c.grid_combined.new.plan c.grid_combined.result) (sym (several_told c.args.how fill ss c.in_ok-grid.grid (ap (λ ds. grid_of (axes ds)) (sym same) ∙ c.in_ok-grid.ensures old))) c.grid_combined.ensures.answers

use Rattle.std.proofs.Common.{◌∙◌, Err, ap, subst, sym}
use Rattle.std.specs.Prelude.{option_map, zip}
use Rattle.std.proofs.lemmas.Result.{err_from_is_err_and}
use Rattle.xr_types.specs.Results.{all_of}
use Rattle.xr_combination.specs.Combine.{check_direction}
use Rattle.xr_combination.specs.Pieces.{no_set}
use Rattle.xr_joint.proofs.Failing.{fails_of}
use Rattle.xr_values.specs.Answers.{Fails}
use Rattle.xr_values.specs.Meaning.{meaning}
use Rattle.xr_values.specs.Stands.{dataset_in, IsDatasetIn}
use Rattle.xr_values.specs.declared.dataset.Dataset.{Dataset}
use Rattle.xr_combine.specs.Sets.{held, sets_in, AreSetsIn}
use Rattle.xr_combine.specs.Steps.{grid_combined, those_at}
use Rattle.xr_combine.proofs.Failing.{shared_fails}
use Rattle.xr_combine.proofs.Grouped.{grid_fails, grid_passes, grid_turns}
use Rattle.xr_combine.proofs.Picking.{picked_hold, those_picked}
use Rattle.xr_combine.proofs.groups.grid_combined.Goals as goal

pub grid_concatenated-requires-clause-inside : goal.grid_concatenated-requires-clause-inside
grid_concatenated-requires-clause-inside g c = λ κs lives.
    let old = c.args.plan.now in
    subst (AreSetsIn old) (sym c.as_slice-4.ensures) (picked_hold (IsDatasetIn old) (held c.args.sets.now) c.as_slice.result.now (held c.in_ok-tiles.tiles) c.in_ok-tiles.ensures c.requires.inside)

pub returns-in_err-set-clause-answers : goal.returns-in_err-set-clause-answers
returns-in_err-set-clause-answers g c =
    let old = c.args.plan.now in
    let fill = option_map (λ v. meaning old v.now) c.args.fill in
    let ss = sets_in old c.args.sets.now in
    let e = c.in_err-set.field-0.0 in
    let p = err_from_is_err_and c.from_residual-in_err-set.result c.from_residual-in_err-set.ensures.1 in
    shared_fails c.grid_concatenated.new.plan c.from_residual-in_err-set.result e (grid_combined c.args.how fill ss c.args.grid.now) (p.1 ∙ ap Err p.2)
    (grid_fails c.args.how fill ss c.args.grid.now c.as_slice-2.result.now c.as_slice-3.result.now (sets_in old c.as_slice-4.result.now) c.as_slice-2.ensures c.as_slice-3.ensures
    (ap (sets_in old) c.as_slice-4.ensures ∙ those_picked (dataset_in old) no_set (held c.args.sets.now) c.as_slice.result.now (held c.in_ok-tiles.tiles) c.in_ok-tiles.ensures ∙ ap (those_at ss) c.as_slice.ensures) e c.in_err-set.ensures.answers)

pub returns-in_err-check_directions-clause-answers : goal.returns-in_err-check_directions-clause-answers
returns-in_err-check_directions-clause-answers g c =
    let old = c.args.plan.now in
    let new = c.grid_concatenated.new.plan in
    let grid = c.args.grid.now in
    let fill = option_map (λ v. meaning old v.now) c.args.fill in
    let ss = sets_in old c.args.sets.now in
    let e = c.in_err-check_directions.field-0.0 in
    let p = err_from_is_err_and c.from_residual-in_err-check_directions.result c.from_residual-in_err-check_directions.ensures.1 in
    let checks = λ (s : Dataset). all_of (check_direction (dataset_in new s)) (zip grid.dims grid.rises) in
    shared_fails new c.from_residual-in_err-check_directions.result e (grid_combined c.args.how fill ss grid) (p.1 ∙ ap Err p.2)
    (grid_turns c.args.how fill ss grid c.as_slice-2.result.now c.as_slice-3.result.now (sets_in old c.as_slice-4.result.now) c.as_slice-2.ensures c.as_slice-3.ensures
    (ap (sets_in old) c.as_slice-4.ensures ∙ those_picked (dataset_in old) no_set (held c.args.sets.now) c.as_slice.result.now (held c.in_ok-tiles.tiles) c.in_ok-tiles.ensures ∙ ap (those_at ss) c.as_slice.ensures)
    (dataset_in new c.in_ok-set.set.value) c.in_ok-set.ensures.answers.0 e
    (subst (λ s. Fails e (checks s)) c.deref.ensures (fails_of (λ u. u) e (checks c.deref.result.now) (c.in_err-check_directions.ensures new))))

pub returns-clause-answers : goal.returns-clause-answers
returns-clause-answers g c =
    let old = c.args.plan.now in
    let new = c.grid_concatenated.new.plan in
    let grid = c.args.grid.now in
    let fill = option_map (λ v. meaning old v.now) c.args.fill in
    let ss = sets_in old c.args.sets.now in
    let checks = λ (s : Dataset). all_of (check_direction (dataset_in new s)) (zip grid.dims grid.rises) in (
      grid_passes c.args.how fill ss grid c.as_slice-2.result.now c.as_slice-3.result.now (sets_in old c.as_slice-4.result.now) c.as_slice-2.ensures c.as_slice-3.ensures
          (ap (sets_in old) c.as_slice-4.ensures ∙ those_picked (dataset_in old) no_set (held c.args.sets.now) c.as_slice.result.now (held c.in_ok-tiles.tiles) c.in_ok-tiles.ensures ∙ ap (those_at ss) c.as_slice.ensures)
          (dataset_in new c.in_ok-set.set.value) c.in_ok-set.ensures.answers.0 tt (ap checks (sym c.deref.ensures) ∙ c.in_ok-check_directions.ensures new),
      c.in_ok-set.ensures.answers.1,
    )

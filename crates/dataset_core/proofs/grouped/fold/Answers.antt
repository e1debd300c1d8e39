use Rattle.std.proofs.Common.{Err, ap, refl, sym, subst, ◌∙◌}
use Rattle.std.proofs.lemmas.Result.{err_from_is_err_and}
use Rattle.xr_runs.specs.Calls.{fold_called}
use Rattle.dataset_core.specs.Answers.{AnswersValue}
use Rattle.xr_defs.specs.Room.{portions}
use Rattle.xr_values.specs.Meaning.{given, meaning}
use Rattle.xr_values.specs.Stands.{array_in, dataset_in}
use Rattle.xr_defs.specs.Room.{of_array, of_set}
use Rattle.xr_arguments.proofs.Inside.{inside_grouped_array, inside_grouped_set}
use Rattle.xr_values.specs.Stands.{IsArrayIn, IsDatasetIn}
use Rattle.dataset_core.proofs.InGroups.{array_fails, array_folded, room_on_groups, room_on_set_groups, set_fails, set_folded}
use Rattle.dataset_core.proofs.grouped.fold.Goals as goal

pub grouped_array-requires : goal.grouped_array-requires
grouped_array-requires c =
    subst (IsArrayIn c.args.plan.now) (sym c.deref.ensures) (inside_grouped_array c.args.plan.now c.args.on.now c.in-GroupedArray.array c.in-GroupedArray.grouping c.in-GroupedArray.is c.requires)

pub returns-in_err-answer-in-GroupedArray-clause-answers : goal.returns-in_err-answer-in-GroupedArray-clause-answers
returns-in_err-answer-in-GroupedArray-clause-answers c =
    let p = err_from_is_err_and c.from_residual.result c.from_residual.ensures.1 in
    subst (λ r. AnswersValue c.grouped_array.new.plan r (fold_called c.args.kind (meaning c.args.plan.now c.args.on.now) (given c.args.plan.now c.args.args.now))) (sym (p.1 ∙ ap Err p.2))
    (array_fails c.args.kind c.args.plan.now c.args.on.now (given c.args.plan.now c.args.args.now) c.in-GroupedArray.array c.in-GroupedArray.grouping c.deref.result.now c.in-GroupedArray.is c.deref.ensures c.in_err-answer-in-GroupedArray.field-0.0 (c.in_err-answer-in-GroupedArray.ensures.answers c.args.plan.now))

pub grouped_set-requires : goal.grouped_set-requires
grouped_set-requires c =
    record { is = subst (IsDatasetIn c.args.plan.now) (sym c.deref-in-GroupedSet.ensures) (inside_grouped_set c.args.plan.now c.args.on.now c.in-GroupedSet.set c.in-GroupedSet.grouping c.in-GroupedSet.is c.requires) }

pub returns-in_err-answer-in-GroupedSet-clause-answers : goal.returns-in_err-answer-in-GroupedSet-clause-answers
returns-in_err-answer-in-GroupedSet-clause-answers c =
    let p = err_from_is_err_and c.from_residual-in_err-answer-in-GroupedSet.result c.from_residual-in_err-answer-in-GroupedSet.ensures.1 in
    subst (λ r. AnswersValue c.grouped_set.new.plan r (fold_called c.args.kind (meaning c.args.plan.now c.args.on.now) (given c.args.plan.now c.args.args.now))) (sym (p.1 ∙ ap Err p.2))
    (set_fails c.args.kind c.args.plan.now c.args.on.now (given c.args.plan.now c.args.args.now) c.in-GroupedSet.set c.in-GroupedSet.grouping c.deref-in-GroupedSet.result.now c.in-GroupedSet.is c.deref-in-GroupedSet.ensures c.in_err-answer-in-GroupedSet.field-0.0 (c.in_err-answer-in-GroupedSet.ensures.answers c.args.plan.now))

pub returns-in_ok-array_value-in-GroupedArray-clause-answers : goal.returns-in_ok-array_value-in-GroupedArray-clause-answers
returns-in_ok-array_value-in-GroupedArray-clause-answers c =
    let new = c.grouped_array.new.plan in
    let told = c.in_ok-answer-in-GroupedArray.ensures.answers c.args.plan.now in (
      array_folded c.args.kind c.args.plan.now c.args.on.now (given c.args.plan.now c.args.args.now) c.in-GroupedArray.array c.in-GroupedArray.grouping c.deref.result.now c.in-GroupedArray.is c.deref.ensures new c.in_ok-answer-in-GroupedArray.answer c.in_ok-array_value-in-GroupedArray.field-0 told.0 (c.in_ok-array_value-in-GroupedArray.ensures.means new),
      c.in_ok-array_value-in-GroupedArray.ensures.inside new told.1,
    )

pub returns-in_ok-array_value-in-GroupedArray-clause-room : goal.returns-in_ok-array_value-in-GroupedArray-clause-room
returns-in_ok-array_value-in-GroupedArray-clause-room c =
    let new = c.grouped_array.new.plan in
    room_on_groups c.args.plan.now new c.args.on.now c.in_ok-array_value-in-GroupedArray.field-0 _ (ap portions (c.in_ok-array_value-in-GroupedArray.ensures.means new)) c.in-GroupedArray.array c.in-GroupedArray.grouping c.deref.result.now c.in-GroupedArray.is c.deref.ensures (c.in_ok-answer-in-GroupedArray.ensures.room (of_array (array_in c.args.plan.now c.deref.result.now)))

pub returns-in_ok-set_value-in-GroupedSet-clause-answers : goal.returns-in_ok-set_value-in-GroupedSet-clause-answers
returns-in_ok-set_value-in-GroupedSet-clause-answers c =
    let new = c.grouped_set.new.plan in
    let told = c.in_ok-answer-in-GroupedSet.ensures.answers c.args.plan.now in (
      set_folded c.args.kind c.args.plan.now c.args.on.now (given c.args.plan.now c.args.args.now) c.in-GroupedSet.set c.in-GroupedSet.grouping c.deref-in-GroupedSet.result.now c.in-GroupedSet.is c.deref-in-GroupedSet.ensures new c.in_ok-answer-in-GroupedSet.answer c.in_ok-set_value-in-GroupedSet.field-0 told.0 (c.in_ok-set_value-in-GroupedSet.ensures.means new),
      c.in_ok-set_value-in-GroupedSet.ensures.inside new told.1,
    )

pub returns-in_ok-set_value-in-GroupedSet-clause-room : goal.returns-in_ok-set_value-in-GroupedSet-clause-room
returns-in_ok-set_value-in-GroupedSet-clause-room c =
    let new = c.grouped_set.new.plan in
    room_on_set_groups c.args.plan.now new c.args.on.now c.in_ok-set_value-in-GroupedSet.field-0 _ (ap portions (c.in_ok-set_value-in-GroupedSet.ensures.means new)) c.in-GroupedSet.set c.in-GroupedSet.grouping c.deref-in-GroupedSet.result.now c.in-GroupedSet.is c.deref-in-GroupedSet.ensures c.in_ok-answer-in-GroupedSet.ensures.room

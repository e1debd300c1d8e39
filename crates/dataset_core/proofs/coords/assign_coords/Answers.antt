use Rattle.std.proofs.Common.{Err, refl, ap, ◌∙◌}
use Rattle.std.proofs.lemmas.Result.{err_from_is_err_and}
use Rattle.xr_values.specs.Meaning.{meaning}
use Rattle.xr_values.specs.Stands.{array_in, dataset_in}
use Rattle.xr_arguments.proofs.Inside.{held_array, held_set}
use Rattle.dataset_core.proofs.Labelling.{coords_given, coords_of_others, follow_fault, other_receiver, set_coords_given, set_follow_fault}
use Rattle.dataset_core.proofs.coords.assign_coords.Goals as goal

pub assign_to_array-requires-clause-inside : goal.assign_to_array-requires-clause-inside
assign_to_array-requires-clause-inside g c = λ κs live. held_array c.args.cx.now.plan c.args.on.now c.in-Array.array c.deref.result.now c.in-Array.is c.deref.ensures c.requires.inside

pub returns-in_err-answer-in-Array-clause-told : goal.returns-in_err-answer-in-Array-clause-told
returns-in_err-answer-in-Array-clause-told g c =
    follow_fault (g.C.Compute.declines c.args.cx.now.compute c.args.cx.now.plan) c.args.cx.now.plan c.args.args.now c.args.on.now c.in-Array.array c.deref.result.now c.in-Array.is c.deref.ensures
    c.in_err-answer-in-Array.field-0.0 c.from_residual.result (let p = err_from_is_err_and c.from_residual.result c.from_residual.ensures.1 in p.1 ∙ ap Err p.2) c.in_err-answer-in-Array.ensures.told

pub returns-in_ok-array_value-in-Array-clause-told : goal.returns-in_ok-array_value-in-Array-clause-told
returns-in_ok-array_value-in-Array-clause-told g c =
    let nodes = c.args.cx.now.plan in
    let answer = c.in_ok-answer-in-Array.answer in
    let told = c.in_ok-answer-in-Array.ensures.told in (
      coords_given (g.C.Compute.declines c.args.cx.now.compute nodes) nodes c.args.args.now c.args.on.now c.in-Array.array c.deref.result.now c.in-Array.is c.deref.ensures (array_in nodes answer) (meaning nodes c.in_ok-array_value-in-Array.field-0) told.0 (c.in_ok-array_value-in-Array.ensures.means nodes),
      c.in_ok-array_value-in-Array.ensures.inside nodes told.1,
    )

pub assign_to_set-requires-clause-inside : goal.assign_to_set-requires-clause-inside
assign_to_set-requires-clause-inside g c = λ κs live. held_set c.args.cx.now.plan c.args.on.now c.in-Set.set c.deref-in-Set.result.now c.in-Set.is c.deref-in-Set.ensures c.requires.inside

pub returns-in_err-answer-in-Set-clause-told : goal.returns-in_err-answer-in-Set-clause-told
returns-in_err-answer-in-Set-clause-told g c =
    set_follow_fault (g.C.Compute.declines c.args.cx.now.compute c.args.cx.now.plan) c.args.cx.now.plan c.args.args.now c.args.on.now c.in-Set.set c.deref-in-Set.result.now c.in-Set.is c.deref-in-Set.ensures
    c.in_err-answer-in-Set.field-0.0 c.from_residual-in_err-answer-in-Set.result (let p = err_from_is_err_and c.from_residual-in_err-answer-in-Set.result c.from_residual-in_err-answer-in-Set.ensures.1 in p.1 ∙ ap Err p.2) c.in_err-answer-in-Set.ensures.told

pub returns-in_ok-set_value-in-Set-clause-told : goal.returns-in_ok-set_value-in-Set-clause-told
returns-in_ok-set_value-in-Set-clause-told g c =
    let nodes = c.args.cx.now.plan in
    let answer = c.in_ok-answer-in-Set.answer in
    let told = c.in_ok-answer-in-Set.ensures.told in (
      set_coords_given (g.C.Compute.declines c.args.cx.now.compute nodes) nodes c.args.args.now c.args.on.now c.in-Set.set c.deref-in-Set.result.now c.in-Set.is c.deref-in-Set.ensures (dataset_in nodes answer) (meaning nodes c.in_ok-set_value-in-Set.field-0) told.0 (c.in_ok-set_value-in-Set.ensures.means nodes),
      c.in_ok-set_value-in-Set.ensures.inside nodes told.1,
    )

pub returns-in_default : goal.returns-in_default
returns-in_default g c = record {
  told = coords_of_others (g.C.Compute.declines c.args.cx.now.compute c.args.cx.now.plan) c.args.cx.now.plan c.args.args.now c.args.on.now c.in_default.not-Array c.in_default.not-Set;
  undeclined = λ none. other_receiver c.args.cx.now.plan c.args.on.now _ _ c.in_default.not-Array c.in_default.not-Set;
  plan = refl;
  keeps = λ nodes n. refl;
}

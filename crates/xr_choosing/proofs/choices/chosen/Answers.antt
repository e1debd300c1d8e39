use Rattle.std.proofs.Common.{Bor, List, map, false, Result, Err, sym, ap, subst, ◌∙◌}
use Rattle.std.proofs.lemmas.Result.{err_from_is_err_and}
use Rattle.xr_types.specs.Names.{shape_over}
use Rattle.xr_types.specs.Results.{Answers}
use Rattle.xr_types.specs.declared.fault.Fault.{Fault}
use Rattle.xr_types.specs.declared.axis.Axis.{Axis}
use Rattle.xr_types.specs.declared.operation.How.TheVariants.{Exact}
use Rattle.xr_defs.specs.Selecting.{is_within}
use Rattle.xr_operations.specs.Alignment.{aligned}
use Rattle.xr_values.specs.declared.data_array.DataArray.{DataArray}
use Rattle.xr_choosing.specs.Choices.{AreFitted}
use Rattle.xr_choosing.proofs.ChoiceAnswers.{answered, answers_fail, are_fitted, axes_fail, kind_fails, no_cells, one_fails, other_fails, too_large}
use Rattle.xr_choosing.proofs.choices.chosen.Goals as goal

abbrev now : Bor DataArray → DataArray
now a = a.now

abbrev joined : List DataArray → Result (List Axis) Fault
joined arrays = aligned Exact false (map (λ (a : DataArray). a.axes) arrays)

pub returns-then-both_missing : goal.returns-then-both_missing
returns-then-both_missing c = λ nodes is first second. no_cells nodes c.args.method c.args.cond.now c.args.x c.args.y is first second (sym (c.both_missing.ensures nodes) ∙ c.if-both_missing.true)

pub returns-in_err-kind : goal.returns-in_err-kind
returns-in_err-kind c = λ nodes is first second.
    answers_fail nodes c.from_residual.result c.in_err-kind.field-0.0 _ (let p = err_from_is_err_and c.from_residual.result c.from_residual.ensures.1 in p.1 ∙ ap Err p.2)
    (kind_fails nodes c.args.method c.args.cond.now c.args.x c.args.y is first second (sym (c.both_missing.ensures nodes) ∙ c.if-both_missing.false) c.in_err-kind.field-0.0 (c.in_err-kind.ensures nodes))

pub returns-in_err-axes : goal.returns-in_err-axes
returns-in_err-axes c = λ nodes is first second.
    answers_fail nodes c.from_residual-in_err-axes.result c.in_err-axes.field-0.0 _ (let p = err_from_is_err_and c.from_residual-in_err-axes.result c.from_residual-in_err-axes.ensures.1 in p.1 ∙ ap Err p.2)
    (axes_fail nodes c.args.method c.args.cond.now c.args.x c.args.y is first second (sym (c.both_missing.ensures nodes) ∙ c.if-both_missing.false) c.in_ok-kind.kind (c.in_ok-kind.ensures nodes) c.in_err-axes.field-0.0
    (subst (λ arrays. Answers (λ (xs : List Axis). xs) (Err c.in_err-axes.field-0.0) (joined arrays)) (ap (map now) c.as_slice.ensures ∙ c.in_ok-operands.ensures) c.in_err-axes.ensures))

pub returns-in_err-check_branch : goal.returns-in_err-check_branch
returns-in_err-check_branch c = λ nodes is first second.
    answers_fail nodes c.from_residual-in_err-check_branch.result c.in_err-check_branch.field-0.0 _ (let p = err_from_is_err_and c.from_residual-in_err-check_branch.result c.from_residual-in_err-check_branch.ensures.1 in p.1 ∙ ap Err p.2)
    (one_fails nodes c.args.method c.args.cond.now c.args.x c.args.y is first second (sym (c.both_missing.ensures nodes) ∙ c.if-both_missing.false) c.in_ok-kind.kind (c.in_ok-kind.ensures nodes) c.in_ok-axes.axes
    (ap joined (sym (ap (map now) c.as_slice.ensures ∙ c.in_ok-operands.ensures)) ∙ c.in_ok-axes.ensures) c.in_err-check_branch.field-0.0 (c.in_err-check_branch.ensures nodes))

pub returns-in_err-check_branch-2 : goal.returns-in_err-check_branch-2
returns-in_err-check_branch-2 c = λ nodes is first second.
    answers_fail nodes c.from_residual-in_err-check_branch-2.result c.in_err-check_branch-2.field-0.0 _ (let p = err_from_is_err_and c.from_residual-in_err-check_branch-2.result c.from_residual-in_err-check_branch-2.ensures.1 in p.1 ∙ ap Err p.2)
    (other_fails nodes c.args.method c.args.cond.now c.args.x c.args.y is first second (sym (c.both_missing.ensures nodes) ∙ c.if-both_missing.false) c.in_ok-kind.kind (c.in_ok-kind.ensures nodes) c.in_ok-axes.axes
    (ap joined (sym (ap (map now) c.as_slice.ensures ∙ c.in_ok-operands.ensures)) ∙ c.in_ok-axes.ensures) c.in_ok-check_branch.field-0 (c.in_ok-check_branch.ensures nodes) c.in_err-check_branch-2.field-0.0 (c.in_err-check_branch-2.ensures nodes))

pub returns-then-not-is_within : goal.returns-then-not-is_within
returns-then-not-is_within c = λ nodes is first second.
    too_large nodes c.args.method c.args.cond.now c.args.x c.args.y is first second (sym (c.both_missing.ensures nodes) ∙ c.if-both_missing.false) c.in_ok-kind.kind (c.in_ok-kind.ensures nodes) c.in_ok-axes.axes
    (ap joined (sym (ap (map now) c.as_slice.ensures ∙ c.in_ok-operands.ensures)) ∙ c.in_ok-axes.ensures) c.in_ok-check_branch.field-0 (c.in_ok-check_branch.ensures nodes) c.in_ok-check_branch-2.field-0 (c.in_ok-check_branch-2.ensures nodes)
    (ap (λ (xs : List Axis). is_within (shape_over xs)) (sym c.as_slice-2.ensures) ∙ sym c.is_within.ensures ∙ c.if-not-is_within.true)

pub returns : goal.returns
returns c = λ nodes is first second.
    let some = sym (c.both_missing.ensures nodes) ∙ c.if-both_missing.false in
    let from = ap joined (sym (ap (map now) c.as_slice.ensures ∙ c.in_ok-operands.ensures)) ∙ c.in_ok-axes.ensures in
    let same = ap (map now) c.as_slice-3.ensures ∙ c.in_ok-operands.ensures in
    let fit = are_fitted nodes c.args.method c.args.cond.now c.args.x c.args.y is first second some c.in_ok-kind.kind (c.in_ok-kind.ensures nodes) c.in_ok-axes.axes from c.in_ok-check_branch.field-0 (c.in_ok-check_branch.ensures nodes) c.in_ok-check_branch-2.field-0 (c.in_ok-check_branch-2.ensures nodes) in
    answered nodes c.args.method c.args.cond.now c.args.x c.args.y is first second some c.in_ok-kind.kind (c.in_ok-kind.ensures nodes) c.in_ok-axes.axes from c.in_ok-check_branch.field-0 (c.in_ok-check_branch.ensures nodes) c.in_ok-check_branch-2.field-0 (c.in_ok-check_branch-2.ensures nodes)
    c.in_ok-made.made (ap (λ (xs : List Axis). is_within (shape_over xs)) (sym c.as_slice-2.ensures) ∙ sym c.is_within.ensures ∙ c.if-not-is_within.false)
    (c.in_ok-made.ensures nodes same (subst (AreFitted nodes c.in_ok-axes.axes) (sym same) fit))

use Rattle.std.proofs.Common.{Bor, map, option_map, Err, sym, ap, subst, ◌∙◌}
use Rattle.std.proofs.lemmas.Result.{err_from_is_err_and}
use Rattle.xr_values.specs.declared.value.Value.{Value}
use Rattle.xr_values.specs.Meaning.{meaning}
use Rattle.xr_values.specs.Stands.{array_in}
use Rattle.xr_formulas.specs.Mades.{AnswersMade}
use Rattle.xr_choosing.proofs.Bound.{method_bound, method_unbound}
use Rattle.xr_choosing.proofs.ChoiceAnswers.{answers_fail}
use Rattle.xr_choosing.proofs.called.method_made.Goals as goal

pub returns-in_err-bound : goal.returns-in_err-bound
returns-in_err-bound c = λ nodes own inside.
    answers_fail nodes c.from_residual.result c.in_err-bound.field-0.0 _ (let p = err_from_is_err_and c.from_residual.result c.from_residual.ensures.1 in p.1 ∙ ap Err p.2)
    (method_unbound nodes (map (option_map (λ (v : Bor Value). meaning nodes v.now))) (array_in nodes c.args.on.now) c.args.args.now c.in_err-bound.field-0.0 (c.in_err-bound.ensures nodes))

pub returns : goal.returns
returns c = λ nodes own inside. subst (AnswersMade nodes c.method_held.result) (sym (method_bound nodes (array_in nodes c.args.on.now) c.args.args.now _ (c.in_ok-bound.ensures nodes))) (c.method_held.ensures nodes own inside)

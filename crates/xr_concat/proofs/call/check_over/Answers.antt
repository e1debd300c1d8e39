use Rattle.std.proofs.Common.{◌∙◌, Err, ap, map, subst, sym}
use Rattle.std.specs.Prelude.{option_map}
use Rattle.std.proofs.lemmas.Result.{err_from_is_err_and}
use Rattle.xr_types.specs.Results.{all_of, Answers}
use Rattle.xr_combination.specs.Concat.{check_kinds, set_names}
use Rattle.xr_combination.specs.Pieces.{check_fill, first_set}
use Rattle.xr_values.specs.Meaning.{meaning}
use Rattle.xr_values.specs.Stands.{dataset_in}
use Rattle.xr_joint.proofs.Failing.{answer_fails}
use Rattle.xr_concat.specs.Steps.{checked_over}
use Rattle.xr_concat.proofs.Told.{at_fills, at_kinds}
use Rattle.xr_concat.proofs.call.check_over.Goals as goal

pub returns : goal.returns
returns c = λ nodes.
    let ss = map (dataset_in nodes) c.args.sets.now in
    let fill = option_map (λ v. meaning nodes v.now) c.args.fill in
    subst (Answers (λ (u : Unit {0}). u) c.check_fills.result) (sym (at_fills c.args.joined.now fill ss (c.in_ok-check_all_kinds.ensures nodes))) (c.check_fills.ensures nodes nodes)

pub returns-in_err-check_all_kinds : goal.returns-in_err-check_all_kinds
returns-in_err-check_all_kinds c = λ nodes.
    let ss = map (dataset_in nodes) c.args.sets.now in
    let fill = option_map (λ v. meaning nodes v.now) c.args.fill in
    let joined = c.args.joined.now in
    answer_fails (λ (u : Unit {0}). u) (λ (u : Unit {0}). u) c.from_residual.result c.in_err-check_all_kinds.field-0.0 (all_of (check_kinds ss) (set_names (first_set ss))) (λ u. all_of (check_fill joined fill) ss) (checked_over joined fill ss)
    (let p = err_from_is_err_and c.from_residual.result c.from_residual.ensures.1 in p.1 ∙ ap Err p.2) (at_kinds joined fill ss) (c.in_err-check_all_kinds.ensures nodes)

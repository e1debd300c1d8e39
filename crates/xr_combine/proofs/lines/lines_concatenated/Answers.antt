use Rattle.std.proofs.Common.{◌∙◌, Err, ap, subst, sym}
use Rattle.std.specs.Prelude.{option_map}
use Rattle.std.proofs.lemmas.Result.{err_from_is_err_and}
use Rattle.xr_combination.specs.Pieces.{each_of}
use Rattle.xr_values.specs.Answers.{Fails}
use Rattle.xr_values.specs.Meaning.{meaning}
use Rattle.xr_combine.specs.Sets.{sets_in, AreSetsIn}
use Rattle.xr_combine.specs.Steps.{line_concatenated}
use Rattle.xr_combine.proofs.Behind.{from_empty}
use Rattle.xr_combine.proofs.Failing.{several_fail}
use Rattle.xr_combine.proofs.lines.lines_concatenated.Goals as goal

pub push_lines-requires-clause-before : goal.push_lines-requires-clause-before
push_lines-requires-clause-before g c = λ κs lives. subst (AreSetsIn c.args.plan.now) (sym c.new-out.ensures) tt

pub returns-in_err-push_lines-clause-answers : goal.returns-in_err-push_lines-clause-answers
returns-in_err-push_lines-clause-answers g c =
    let old = c.args.plan.now in
    let means = each_of (line_concatenated c.args.how (option_map (λ v. meaning old v.now) c.args.fill) c.args.dim.now (sets_in old c.args.tiles.now)) c.args.lines.now in
    let e = c.in_err-push_lines.field-0.0 in
    let p = err_from_is_err_and c.from_residual.result c.from_residual.ensures.1 in
    several_fail c.push_lines.new.plan c.from_residual.result e means (p.1 ∙ ap Err p.2) (subst (Fails e) (from_empty old c.new-out.result means c.new-out.ensures) c.in_err-push_lines.ensures.answers)

pub returns-clause-answers : goal.returns-clause-answers
returns-clause-answers g c =
    let old = c.args.plan.now in
    let means = each_of (line_concatenated c.args.how (option_map (λ v. meaning old v.now) c.args.fill) c.args.dim.now (sets_in old c.args.tiles.now)) c.args.lines.now in
    (sym (from_empty old c.new-out.result means c.new-out.ensures) ∙ c.in_ok-push_lines.ensures.answers.0, c.in_ok-push_lines.ensures.answers.1)

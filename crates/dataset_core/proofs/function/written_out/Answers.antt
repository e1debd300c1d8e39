use Rattle.std.proofs.Common.{Ok, Err, ap, sym, ◌∙◌}
use Rattle.std.proofs.lemmas.Result.{err_from_is_err_and}
use Rattle.xr_building.specs.Written.{array_written}
use Rattle.dataset_core.specs.Answers.{array_told}
use Rattle.dataset_core.specs.Assigned.{array_followed}
use Rattle.dataset_core.proofs.Labelling.{array_fault}
use Rattle.dataset_core.proofs.function.written_out.Goals as goal

pub returns-in_err-array-clause-told : goal.returns-in_err-array-clause-told
returns-in_err-array-clause-told g c =
    let nodes = c.args.cx.now.plan in
    array_fault c.array_written_out.new.cx.plan c.from_residual.result c.in_err-array.field-0.0 (array_written (g.C.Compute.declines c.args.cx.now.compute nodes) nodes c.args.args.now) (let p = err_from_is_err_and c.from_residual.result c.from_residual.ensures.1 in p.1 ∙ ap Err p.2) c.in_err-array.ensures.told

pub returns-clause-told : goal.returns-clause-told
returns-clause-told g c =
    let new = c.array_written_out.new.cx.plan in
    let told = c.in_ok-array.ensures.told in
    (ap array_followed told.0 ∙ ap Ok (sym (c.in_ok-array_value.ensures.means new)), c.in_ok-array_value.ensures.inside new told.1)

pub returns-clause-undeclined : goal.returns-clause-undeclined
returns-clause-undeclined g c = λ none.
    let new = c.array_written_out.new.cx.plan in
    let told = c.in_ok-array.ensures.undeclined none in
    (ap array_told told.0 ∙ ap Ok (sym (c.in_ok-array_value.ensures.means new)), c.in_ok-array_value.ensures.inside new told.1)

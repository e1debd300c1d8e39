use Rattle.std.proofs.Common.{◌∙◌, ap, map, Ok, Err, List, Option, ℕ}
use Rattle.std.proofs.lemmas.Result.{err_from_is_err_and}
use Rattle.xr_types.specs.Results.{◌>>=◌}
use Rattle.xr_operations.specs.Alignment.{indexes, labelled_axis}
use Rattle.align_join.specs.Joined.{checked}
use Rattle.align_join.proofs.Told.{fails, join_told}
use Rattle.align_join.proofs.alignment.joined_axis.Goals as goal

pub returns-in_err-axis : goal.returns-in_err-axis
returns-in_err-axis c =
    let p = err_from_is_err_and c.from_residual.result c.from_residual.ensures.1 in
    fails (λ x. x) (λ x. x) c.from_residual.result c.in_err-axis.field-0.0 (labelled_axis c.args.how c.index-axes-0.result.now (indexes (map (λ x. x.now) c.args.axes.now))) (λ joined. checked c.args.filled joined (map (λ x. x.now) c.args.axes.now) >>= λ v. Ok joined) _ (p.1 ∙ ap Err p.2)
    (join_told (λ x. x.now) c.args.how c.args.filled c.args.axes.now c.index-axes-0.result c.requires.some c.index-axes-0.is) c.in_err-axis.ensures

pub returns-in_err-check : goal.returns-in_err-check
returns-in_err-check c =
    let p = err_from_is_err_and c.from_residual-in_err-check.result c.from_residual-in_err-check.ensures.1 in
    fails (λ u. u) (λ x. x) c.from_residual-in_err-check.result c.in_err-check.field-0.0 (checked c.args.filled c.in_ok-axis.axis (map (λ x. x.now) c.args.axes.now)) (λ v. Ok c.in_ok-axis.axis) _ (p.1 ∙ ap Err p.2)
    (join_told (λ x. x.now) c.args.how c.args.filled c.args.axes.now c.index-axes-0.result c.requires.some c.index-axes-0.is ∙ ap (λ r. r >>= (λ joined. checked c.args.filled joined (map (λ x. x.now) c.args.axes.now) >>= λ v. Ok joined)) c.in_ok-axis.ensures) c.in_err-check.ensures

pub returns : goal.returns
returns c =
    join_told (λ x. x.now) c.args.how c.args.filled c.args.axes.now c.index-axes-0.result c.requires.some c.index-axes-0.is ∙ ap (λ r. r >>= (λ joined. checked c.args.filled joined (map (λ x. x.now) c.args.axes.now) >>= λ v. Ok joined)) c.in_ok-axis.ensures ∙ ap (λ r. r >>= λ v. Ok c.in_ok-axis.axis) c.in_ok-check.ensures

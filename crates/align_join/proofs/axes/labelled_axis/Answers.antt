use Rattle.std.proofs.Common.{◌∙◌, ap, map, sym, Ok, Err}
use Rattle.std.proofs.lemmas.Result.{err_from_is_err_and}
use Rattle.xr_types.specs.Results.{◌>>=◌}
use Rattle.xr_operations.specs.Alignment.{indexes}
use Rattle.align_join.specs.Joined.{indexed, joined_lists}
use Rattle.align_join.proofs.Told.{axis_told, bare_told, fails}
use Rattle.align_join.proofs.axes.labelled_axis.Goals as goal

pub returns-in_err-list-in-Some : goal.returns-in_err-list-in-Some
returns-in_err-list-in-Some c =
    let p = err_from_is_err_and c.from_residual-in_err-list-in-Some.result c.from_residual-in_err-list-in-Some.ensures.1 in
    fails (λ l. l) (λ x. x) c.from_residual-in_err-list-in-Some.result c.in_err-list-in-Some.field-0.0 (joined_lists c.args.how (map (λ l. l.now) c.as_slice.result.now)) (λ list. Ok (indexed c.args.axis.now c.in-Some.first.now.attrs list)) _ (p.1 ∙ ap Err p.2)
    (axis_told c.args.how c.args.axis.now (indexes (map (λ x. x.now) c.args.axes.now)) c.in-Some.first.now c.in-Some.ensures ∙ ap (λ ls. joined_lists c.args.how ls >>= λ list. Ok (indexed c.args.axis.now c.in-Some.first.now.attrs list)) (sym (ap (map (λ l. l.now)) c.as_slice.ensures.value ∙ c.in_ok-lists-in-Some.ensures.lists)))
    c.in_err-list-in-Some.ensures

pub returns-in_ok-deep_copy-in-None : goal.returns-in_ok-deep_copy-in-None
returns-in_ok-deep_copy-in-None c = bare_told c.args.how c.args.axis.now (indexes (map (λ x. x.now) c.args.axes.now)) c.in-None.ensures ∙ ap Ok (sym c.in_ok-deep_copy-in-None.ensures)

pub returns-in_ok-joined-in-Some : goal.returns-in_ok-joined-in-Some
returns-in_ok-joined-in-Some c =
    axis_told c.args.how c.args.axis.now (indexes (map (λ x. x.now) c.args.axes.now)) c.in-Some.first.now c.in-Some.ensures
    ∙ ap (λ ls. joined_lists c.args.how ls >>= λ list. Ok (indexed c.args.axis.now c.in-Some.first.now.attrs list)) (sym (ap (map (λ l. l.now)) c.as_slice.ensures.value ∙ c.in_ok-lists-in-Some.ensures.lists))
    ∙ ap (λ r. r >>= λ list. Ok (indexed c.args.axis.now c.in-Some.first.now.attrs list)) c.in_ok-list-in-Some.ensures ∙ ap Ok (sym c.in_ok-joined-in-Some.ensures)

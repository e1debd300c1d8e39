use Rattle.xr_aligning.proofs.Common.{AllByRecursion, Answers, Axis, Comes, Coming, Err, List, TakesLabels, aligned, ap, axes_of, err_from_is_err_and, labelled_in, map, meaning, option_map, subst, sym, ◌∙◌}
use Rattle.xr_aligning.proofs.Answering.{fills_fail, joins_fail, sizes_fail, some_kept, values_done}
use Rattle.xr_aligning.proofs.Given.{all_ready}
use Rattle.xr_aligning.proofs.call.aligned_by.Goals as goal

pub check_fills-requires : goal.check_fills-requires
check_fills-requires c = subst (AllByRecursion Comes) (sym c.as_slice-coming.ensures) (c.in_ok-coming.ensures.comes c.args.plan.now c.requires)

pub check_sizes-requires : goal.check_sizes-requires
check_sizes-requires c = subst (AllByRecursion Comes) (sym c.as_slice-coming.ensures) (c.in_ok-coming.ensures.comes c.args.plan.now c.requires)

pub push_values-requires : goal.push_values-requires
push_values-requires c =
    let old = c.args.plan.now in
    let coming = c.as_slice-coming.ensures in
    all_ready old c.in_ok-joined.joined c.as_slice-coming.result.now c.args.values.now
    (ap (map (λ (m : Coming). m.on)) coming ∙ c.in_ok-coming.ensures.on) c.requires
    (subst (λ ms. AllByRecursion (TakesLabels c.in_ok-joined.joined) ms) (sym coming) (subst (λ js. AllByRecursion (TakesLabels js) c.in_ok-coming.coming) c.as_slice.ensures c.in_ok-coming.ensures.labels))
    (subst (AllByRecursion Comes) (sym coming) (c.in_ok-coming.ensures.comes old c.requires)) (c.in_ok-joined.ensures.loose old c.requires) (c.in_ok-joined.ensures.kept old c.requires)

pub returns-in_err-joined-clause-answers : goal.returns-in_err-joined-clause-answers
returns-in_err-joined-clause-answers c =
    let old = c.args.plan.now in
    joins_fail old old c.args.how (option_map (λ v. meaning old v.now) c.args.fill) c.args.values.now c.from_residual.result c.in_err-joined.field-0.0
    (let p = err_from_is_err_and c.from_residual.result c.from_residual.ensures.1 in p.1 ∙ ap Err p.2)
    (subst (λ b. Answers (λ (xs : List Axis). xs) (Err c.in_err-joined.field-0.0) (aligned c.args.how b (map axes_of (map (labelled_in old) c.args.values.now)))) (c.is_some.ensures ∙ sym (some_kept (λ v. meaning old v.now) c.args.fill)) (c.in_err-joined.ensures.axes old))

pub returns-in_err-check_fills-clause-answers : goal.returns-in_err-check_fills-clause-answers
returns-in_err-check_fills-clause-answers c =
    let old = c.args.plan.now in
    let coming = c.as_slice-coming.ensures in
    fills_fail old old c.args.how (option_map (λ v. meaning old v.now) c.args.fill) c.args.values.now c.in_ok-joined.joined
    (ap (λ b. aligned c.args.how b (map axes_of (map (labelled_in old) c.args.values.now))) (sym (c.is_some.ensures ∙ sym (some_kept (λ v. meaning old v.now) c.args.fill))) ∙ c.in_ok-joined.ensures.axes old)
    c.as_slice-coming.result.now
    (subst (λ ms. AllByRecursion (TakesLabels c.in_ok-joined.joined) ms) (sym coming) (subst (λ js. AllByRecursion (TakesLabels js) c.in_ok-coming.coming) c.as_slice.ensures c.in_ok-coming.ensures.labels))
    (ap (map (λ (m : Coming). m.on)) coming ∙ c.in_ok-coming.ensures.on)
    c.from_residual-in_err-check_fills.result c.in_err-check_fills.field-0.0
    (let p = err_from_is_err_and c.from_residual-in_err-check_fills.result c.from_residual-in_err-check_fills.ensures.1 in p.1 ∙ ap Err p.2)
    (c.in_err-check_fills.ensures old old)

pub returns-in_err-check_sizes-clause-answers : goal.returns-in_err-check_sizes-clause-answers
returns-in_err-check_sizes-clause-answers c =
    let old = c.args.plan.now in
    let coming = c.as_slice-coming.ensures in
    sizes_fail old old c.args.how (option_map (λ v. meaning old v.now) c.args.fill) c.args.values.now c.in_ok-joined.joined
    (ap (λ b. aligned c.args.how b (map axes_of (map (labelled_in old) c.args.values.now))) (sym (c.is_some.ensures ∙ sym (some_kept (λ v. meaning old v.now) c.args.fill))) ∙ c.in_ok-joined.ensures.axes old)
    c.as_slice-coming.result.now
    (subst (λ ms. AllByRecursion (TakesLabels c.in_ok-joined.joined) ms) (sym coming) (subst (λ js. AllByRecursion (TakesLabels js) c.in_ok-coming.coming) c.as_slice.ensures c.in_ok-coming.ensures.labels))
    (ap (map (λ (m : Coming). m.on)) coming ∙ c.in_ok-coming.ensures.on) (c.in_ok-check_fills.ensures old old)
    c.from_residual-in_err-check_sizes.result c.in_err-check_sizes.field-0.0
    (let p = err_from_is_err_and c.from_residual-in_err-check_sizes.result c.from_residual-in_err-check_sizes.ensures.1 in p.1 ∙ ap Err p.2)
    (c.in_err-check_sizes.ensures old _)

pub returns-clause-answers : goal.returns-clause-answers
returns-clause-answers c =
    let old = c.args.plan.now in
    let coming = c.as_slice-coming.ensures in
    values_done old c.push_values.new.plan c.args.how (option_map (λ v. meaning old v.now) c.args.fill) c.args.values.now c.in_ok-joined.joined
    (ap (λ b. aligned c.args.how b (map axes_of (map (labelled_in old) c.args.values.now))) (sym (c.is_some.ensures ∙ sym (some_kept (λ v. meaning old v.now) c.args.fill))) ∙ c.in_ok-joined.ensures.axes old)
    c.as_slice-coming.result.now
    (subst (λ ms. AllByRecursion (TakesLabels c.in_ok-joined.joined) ms) (sym coming) (subst (λ js. AllByRecursion (TakesLabels js) c.in_ok-coming.coming) c.as_slice.ensures c.in_ok-coming.ensures.labels))
    (ap (map (λ (m : Coming). m.on)) coming ∙ c.in_ok-coming.ensures.on) (c.in_ok-check_fills.ensures old old) (c.in_ok-check_sizes.ensures old _)
    c.fill_cell.result (c.fill_cell.ensures old) c.new-out.result c.push_values.new.out c.new-out.ensures c.in_ok-push_values.ensures.placed

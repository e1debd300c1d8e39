use Rattle.xr_aligning.proofs.Common.{Coming, Err, all_of, ap, at_drop_all, check_fill_by, err_from_is_err_and, meaning, option_map, refl, stands_for, sym, ◌∙◌}
use Rattle.xr_aligning.proofs.Loops.{failed, passed}
use Rattle.xr_aligning.proofs.filling.check_fills.Goals as goal

pub returns-in_err-check_fill : goal.returns-in_err-check_fill
returns-in_err-check_fill c = λ nodes others.
    let told = err_from_is_err_and c.from_residual.result c.from_residual.ensures.1 in
    failed c.args.coming.now c.loop-one.one-index c.one-item.result c.loop-one-test.true c.one-item.is (all_of (λ (m : Coming). check_fill_by m.joined (option_map (λ v. meaning nodes v.now) c.args.fill) (stands_for others m)))
    (λ (m : Coming). check_fill_by m.joined (option_map (λ v. meaning nodes v.now) c.args.fill) (stands_for others m)) (λ m ms. refl) _
    c.from_residual.result c.in_err-check_fill.field-0.0 (told.1 ∙ ap Err told.2) (c.in_err-check_fill.ensures nodes others) (c.loop-one.invariant nodes others)

pub loop-one-preserved : goal.loop-one-preserved
loop-one-preserved c = λ nodes others.
    passed c.args.coming.now c.loop-one.one-index c.one-item.result c.loop-one-test.true c.one-item.is (all_of (λ (m : Coming). check_fill_by m.joined (option_map (λ v. meaning nodes v.now) c.args.fill) (stands_for others m)))
    (λ (m : Coming). check_fill_by m.joined (option_map (λ v. meaning nodes v.now) c.args.fill) (stands_for others m)) (λ m ms. refl) _
    (c.in_ok-check_fill.ensures nodes others) (c.loop-one.invariant nodes others)

pub returns : goal.returns
returns c = λ nodes others.
    sym (c.loop-one.invariant nodes others) ∙ at_drop_all (all_of (λ (m : Coming). check_fill_by m.joined (option_map (λ v. meaning nodes v.now) c.args.fill) (stands_for others m))) c.args.coming.now c.loop-one.one-index c.loop-one-test.false

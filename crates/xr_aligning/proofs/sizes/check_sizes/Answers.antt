use Rattle.std.proofs.Common.{◌∙◌, Err, ap, refl, sym}
use Rattle.std.proofs.lemmas.List.{at_drop_all}
use Rattle.std.proofs.lemmas.Result.{err_from_is_err_and}
use Rattle.xr_types.specs.Results.{all_of}
use Rattle.xr_relations.specs.Aligning as calls
use Rattle.xr_aligning.specs.Coming.{come}
use Rattle.xr_aligning.specs.declared.coming.Coming.{Coming}
use Rattle.xr_aligning.proofs.Loops.{failed, passed}
use Rattle.xr_aligning.proofs.sizes.check_sizes.Goals as goal

pub returns-in_err-check_size : goal.returns-in_err-check_size
returns-in_err-check_size c = λ nodes fill.
    let told = err_from_is_err_and c.from_residual.result c.from_residual.ensures.1 in
    failed c.args.coming.now c.loop-one.one-index c.one-item.result c.loop-one-test.true c.one-item.is (all_of (λ (m : Coming). calls.check_size (come nodes fill m))) (λ (m : Coming). calls.check_size (come nodes fill m)) (λ m ms. refl) _
    c.from_residual.result c.in_err-check_size.field-0.0 (told.1 ∙ ap Err told.2) (c.in_err-check_size.ensures nodes fill) (c.loop-one.invariant nodes fill)

pub loop-one-preserved : goal.loop-one-preserved
loop-one-preserved c = λ nodes fill.
    passed c.args.coming.now c.loop-one.one-index c.one-item.result c.loop-one-test.true c.one-item.is (all_of (λ (m : Coming). calls.check_size (come nodes fill m))) (λ (m : Coming). calls.check_size (come nodes fill m)) (λ m ms. refl) _
    (c.in_ok-check_size.ensures nodes fill) (c.loop-one.invariant nodes fill)

pub returns : goal.returns
returns c = λ nodes fill. sym (c.loop-one.invariant nodes fill) ∙ at_drop_all (all_of (λ (m : Coming). calls.check_size (come nodes fill m))) c.args.coming.now c.loop-one.one-index c.loop-one-test.false

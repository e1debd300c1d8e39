use Rattle.std.proofs.Common.{◌≡◌, ◌∙◌, ap, map, sym, Ok, Err, List}
use Rattle.std.proofs.lemmas.Result.{err_from_is_err_and}
use Rattle.xr_types.specs.declared.axis.Axis.{Axis}
use Rattle.xr_operations.specs.Alignment.{axes_named, joined_or_own}
use Rattle.align_join.proofs.Told.{fails}
use Rattle.align_join.proofs.Each.{after, each_empty, each_next, each_end, each_told}
use Rattle.align_join.proofs.values.joined_each.Goals as goal

pub loop-name-init : goal.loop-name-init
loop-name-init c = each_empty c.args.how c.args.filled (map (λ v. v.now) c.args.values.now) (map (λ n. n.now) c.args.names.now) c.new-joined.result c.new-joined.ensures

pub returns-in_err-axis : goal.returns-in_err-axis
returns-in_err-axis c =
    let p = err_from_is_err_and c.from_residual.result c.from_residual.ensures.1 in
    fails (λ x. x) (λ (xs : List Axis). xs) c.from_residual.result c.in_err-axis.field-0.0 (joined_or_own c.args.how c.args.filled (axes_named c.name-item.result.now (map (λ v. v.now) c.args.values.now)))
    (after c.args.how c.args.filled (map (λ v. v.now) c.args.values.now) (λ n. n.now) c.args.names.now c.loop-name.name-index c.loop-name.joined) _ (p.1 ∙ ap Err p.2)
    (sym c.loop-name.invariant ∙ each_told c.args.how c.args.filled (map (λ v. v.now) c.args.values.now) (λ n. n.now) c.args.names.now c.loop-name.name-index c.loop-name.joined c.name-item.result c.loop-name-test.true c.name-item.is) c.in_err-axis.ensures

pub loop-name-preserved : goal.loop-name-preserved
loop-name-preserved c =
    each_next c.args.how c.args.filled (map (λ v. v.now) c.args.values.now) (λ n. n.now) c.args.names.now c.loop-name.name-index c.loop-name.joined c.name-item.result c.loop-name-test.true c.name-item.is c.in_ok-axis.axis c.push.new.self _ c.in_ok-axis.ensures c.in_ok-push.ensures.ok c.loop-name.invariant

pub returns : goal.returns
returns c = each_end c.args.how c.args.filled (map (λ v. v.now) c.args.values.now) (λ n. n.now) c.args.names.now c.loop-name.name-index c.loop-name.joined _ c.loop-name-test.false c.loop-name.invariant

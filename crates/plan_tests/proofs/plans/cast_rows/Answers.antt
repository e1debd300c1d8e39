use Rattle.std.proofs.Common.{◌≤◌, ◌^◌, ◌∙◌, [], ◌∷◌, ◌++◌, List, ap, length, arith}
use Rattle.xr_arrays.specs.declared.node.Node.{Node}
use Rattle.xr_arrays.specs.declared.node.Node.TheVariants.{Reorder}
use Rattle.plan_tests.proofs.Sources.{few, low, on_source, rows_cast, rows_reorder}
use Rattle.plan_tests.proofs.plans.cast_rows.Goals as goal

pub source-requires-clause-few : goal.source-requires-clause-few
source-requires-clause-few c =
    let small : 6 ≤ 2 ^ 50 = omega arith in
    few c.in_ok-a.a.shape 3 2 c.in_ok-a.ensures.shape small

pub source-requires-clause-rank : goal.source-requires-clause-rank
source-requires-clause-rank c = low c.in_ok-a.a.shape 3 2 c.in_ok-a.ensures.shape

pub push-requires : goal.push-requires
push-requires c = on_source c.in_ok-plan.plan c.in_ok-a.a _ c.in_ok-plan.ensures (rows_reorder c.in_ok-a.a c.from_slice-order.result c.in_ok-a.ensures.shape c.from_slice-order.ensures)

pub push-requires-2 : goal.push-requires-2
push-requires-2 c =
    rows_cast c.push.new.plan c.in_ok-a.a c.from_slice-order.result c.args.kind (c.in_ok-push.ensures ∙ ap (λ (ns : List Node). ns ++ Reorder 0 c.from_slice-order.result ∷ []) c.in_ok-plan.ensures) c.in_ok-a.ensures.shape c.from_slice-order.ensures

use Rattle.std.proofs.Common.{◌≤◌, ◌^◌, ◌++◌, ◌∙◌, List, [], ◌∷◌, ap, arith}
use Rattle.xr_arrays.specs.declared.node.Node.{Node}
use Rattle.xr_arrays.specs.declared.node.Node.TheVariants.{Source}
use Rattle.plan_tests.proofs.Sources.{source_behind, few, low}
use Rattle.plan_tests.proofs.plans.sources.Goals as goal

pub source-requires-clause-few : goal.source-requires-clause-few
source-requires-clause-few c =
    let small : 6 ≤ 2 ^ 50 = omega arith in
    few c.in_ok-a.a.shape 2 3 c.in_ok-a.ensures.shape small

pub source-requires-clause-rank : goal.source-requires-clause-rank
source-requires-clause-rank c = low c.in_ok-a.a.shape 2 3 c.in_ok-a.ensures.shape

pub push-requires : goal.push-requires
push-requires c =
    let small : 2 ≤ 2 ^ 50 = omega arith in
    source_behind c.in_ok-plan.plan c.in_ok-b.b c.in_ok-b.ensures.array (few c.in_ok-b.b.shape 2 1 c.in_ok-b.ensures.shape small) (low c.in_ok-b.b.shape 2 1 c.in_ok-b.ensures.shape)

pub returns : goal.returns
returns c = record {
  left = c.in_ok-a.a;
  right = c.in_ok-b.b;
  are = c.in_ok-push.ensures ∙ ap (λ (ns : List Node). ns ++ Source c.in_ok-b.b ∷ []) c.in_ok-plan.ensures;
  left_kind = c.in_ok-a.ensures.kind;
  left_shape = c.in_ok-a.ensures.shape;
  right_kind = c.in_ok-b.ensures.kind;
  right_shape = c.in_ok-b.ensures.shape;
}

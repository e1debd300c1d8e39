use Rattle.std.proofs.Common.{◌≡◌, ◌+◌, ◌∙◌, ap, arith, ◌++◌, drop, min, ◌^◌, ◌-◌}
use Rattle.xr_types.specs.Points.{size}
use Rattle.plan_core.specs.Strides.{own_strides}
use Rattle.plan_core.proofs.Boxes.{own_more, behind_small}
use Rattle.arrangement.proofs.stride.own_strides.Goals as goal

pub loop-axis-preserved : goal.loop-axis-preserved
loop-axis-preserved c =
    let s = c.args.shape.now in
    let few = behind_small s (c.loop-axis.axis + 1) (2 ^ 50) c.requires.some c.requires.few in
    let e : c.points.result ≡ min (size (drop (c.loop-axis.axis + 1) s)) (2 ^ 64 - 1) = c.points.ensures ∙ ap (λ k. min (size k) (2 ^ 64 - 1)) c.split_at.ensures.back in
    let is : c.points.result ≡ size (drop (c.loop-axis.axis + 1) s) = omega (arith, e, few) in
    ap (λ o. o ++ own_strides (drop (c.loop-axis.axis + 1) s)) c.in_ok-push.ensures.items ∙ own_more s c.loop-axis.strides.items c.loop-axis.axis c.points.result (own_strides s) c.loop-axis-test.true is c.loop-axis.invariant

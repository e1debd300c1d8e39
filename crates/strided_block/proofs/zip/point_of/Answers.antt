use Rattle.std.proofs.Common.{◌≡◌, ◌<◌, ◌+◌, ◌/◌, ◌%◌, ◌++◌, ℕ, List, [], ◌∷◌, min, length, drop, sym, ap, subst, ◌∙◌, arith, length-append}
use Rattle.xr_types.specs.Points.{size}
use Rattle.strided_block.specs.Zips.{point_at}
use Rattle.strided_block.proofs.Splits.{size_part, step_some, point_more, left_below}
use Rattle.strided_block.proofs.zip.point_of.Goals as goal

step_is : (n : ℕ) (back ns : List ℕ) (k at : ℕ) → n ≡ min (size back) 18446744073709551615 → back ≡ drop (k + 1) ns → at < size ns → size ns < 9223372036854775808 → n ≡ size (drop (k + 1) ns)
step_is n back ns k at a b lt small = let p = size_part ns (k + 1) (omega arith) in let e = ap size b in omega arith

pub nonzero_div-left : goal.nonzero_div-left
nonzero_div-left c =
    let e = step_is _ _ c.args.sizes.now c.loop-axis.axis c.args.at c.points-step.ensures c.split_at.ensures.back c.requires.inside c.requires.small in
    subst (λ n. 0 < n) (sym e) (step_some c.args.sizes.now c.loop-axis.axis c.loop-axis.left c.loop-axis-test.true c.loop-axis.invariant.1)

pub nonzero_rem-left : goal.nonzero_rem-left
nonzero_rem-left c =
    let e = step_is _ _ c.args.sizes.now c.loop-axis.axis c.args.at c.points-step.ensures c.split_at.ensures.back c.requires.inside c.requires.small in
    subst (λ n. 0 < n) (sym e) (step_some c.args.sizes.now c.loop-axis.axis c.loop-axis.left c.loop-axis-test.true c.loop-axis.invariant.1)

pub loop-axis-preserved : goal.loop-axis-preserved
loop-axis-preserved c =
    let e = step_is _ _ c.args.sizes.now c.loop-axis.axis c.args.at c.points-step.ensures c.split_at.ensures.back c.requires.inside c.requires.small in
    let ns = c.args.sizes.now in let k = c.loop-axis.axis in let left = c.loop-axis.left in (
      ap (λ p. p ++ point_at (drop (k + 1) ns) (left % c.points-step.result)) c.push.ensures
          ∙ subst (λ n. (c.loop-axis.point ++ (left / n) ∷ []) ++ point_at (drop (k + 1) ns) (left % n) ≡ point_at ns c.args.at) (sym e) (point_more ns k left c.loop-axis-test.true c.loop-axis.invariant.1 c.loop-axis.point (point_at ns c.args.at) c.loop-axis.invariant.0),
      subst (λ n. left % n < size (drop (k + 1) ns)) (sym e) (left_below ns k left c.loop-axis-test.true c.loop-axis.invariant.1),
      ap length c.push.ensures ∙ (omega (arith, length-append c.loop-axis.point ((left / c.points-step.result) ∷ []), c.loop-axis.invariant.2)),
    )

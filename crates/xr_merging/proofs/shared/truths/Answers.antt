use Rattle.std.proofs.Common.{◌∙◌, ◌<◌, All, map, pos, subst, sym, ap}
use Rattle.std.proofs.lemmas.List.Elements.{All-push}
use Rattle.xr_types.specs.declared.kind.DType.TheVariants as kinds
use Rattle.xr_merging.specs.Columns.{cast_number}
use Rattle.xr_merging.proofs.Sharing.{numbers_more}
use Rattle.xr_merging.proofs.shared.truths.Goals as goal

pub loop-at-preserved : goal.loop-at-preserved
loop-at-preserved c = (
  ap (map pos) c.in_ok-push.ensures.ok ∙ numbers_more pos (cast_number kinds.Bool c.args.arrays.now) c.loop-at.out c.loop-at.at c.truth_at.result c.loop-at.invariant.0 c.truth_at.ensures.truth,
  subst (All (λ x. x < 2)) (sym c.in_ok-push.ensures.ok) (All-push (λ x. x < 2) c.loop-at.out c.truth_at.result c.loop-at.invariant.1 c.truth_at.ensures.small),
)

use Rattle.std.proofs.Common.{length, ap, ◌∙◌, arith}
use Rattle.strided_block.specs.Steps.{spot}
use Rattle.strided_block.proofs.Sights.{seen_long, seen_there, seen_cell}
use Rattle.strided_block.proofs.view.View.get.Goals as goal

pub spot_of-at-requires : goal.spot_of-at-requires
spot_of-at-requires g c = omega (arith, ap length c.as_slice.ensures.value, ap length c.as_slice-2.ensures.value, seen_long _ _ _ _ _ c.self.view_is c.self.invariant.1 c.args.point.now c.requires)

pub cell-requires : goal.cell-requires
cell-requires g c = (c.self.invariant.0, seen_there _ _ _ _ _ c.self.view_is c.self.invariant.1 c.args.point.now c.requires _ (c.spot_of-at.ensures ∙ (λ i. spot c.self.inside.start (c.as_slice.ensures.value i) (c.as_slice-2.ensures.value i))))

pub returns : goal.returns
returns g c = seen_cell _ _ _ _ _ c.self.view_is c.self.invariant.1 c.args.point.now c.requires _ (c.spot_of-at.ensures ∙ (λ i. spot c.self.inside.start (c.as_slice.ensures.value i) (c.as_slice-2.ensures.value i))) ∙ c.cell.ensures

use Rattle.std.proofs.Common.{List, ℕ, sym, subst}
use Rattle.xr_types.specs.Points.{IsPoint}
use Rattle.strided_block.specs.Boxes.{plus}
use Rattle.strided_block.proofs.Sounds.{now_in}
use Rattle.strided_block.proofs.win.Win.place_of.Goals as goal

pub place_in-requires-clause-inside : goal.place_in-requires-clause-inside
place_in-requires-clause-inside g c =
    let P : List ℕ × List ℕ × List ℕ → Type 0 = λ t. IsPoint t.0 (plus t.1 t.2) in
    subst P (λ k. (sym c.as_slice.ensures.value k, sym c.as_slice-2.ensures.value k, sym c.as_slice-3.ensures.value k)) (now_in _ _ c.self.view_is c.self.invariant.1 c.args.point.now c.requires)

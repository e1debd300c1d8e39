use Rattle.std.proofs.Common.{◌+◌, ◌++◌, ◌∷◌, ℕ, ℤ, List, [], get_or, flat_map, Option, None, subst, ap, ◌∙◌, append_assoc}
use Rattle.std.specs.List.{range_with_len}
use Rattle.row_folds.proofs.Ways.{range_step}
use Rattle.row_folds.proofs.leaf.with_each.Goals as goal

pub loop-i-preserved : goal.loop-i-preserved
loop-i-preserved g c =
    let f : ℕ → List (ℕ × Option ℤ) = λ i. (i, get_or (g.S.Source.cells c.args.source) (c.args.start + i) None) ∷ [] in
    λ before is.
    subst (g.A.Accumulator.Is c.with_cell-all.result) (append_assoc before (flat_map f (range_with_len 0 c.loop-i.i)) (f c.loop-i.i) ∙ ap (λ cs. before ++ cs) (range_step f c.loop-i.i))
    (c.with_cell-all.ensures (before ++ flat_map f (range_with_len 0 c.loop-i.i)) (c.loop-i.invariant before is))

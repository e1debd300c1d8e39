use Rattle.std.proofs.Common.{◌+◌, ◌++◌, ℕ, ℤ, List, [], ◌∷◌, get_or, flat_map, Option, None}
use Rattle.std.specs.List.{range_with_len}
use Rattle.row_folds.proofs.leaf.with_each.Given as goal

abbrev pub invariant-loop-i : goal.invariant-loop-i
invariant-loop-i g l = (before : List (ℕ × Option ℤ)) → g.A.Accumulator.Is l.fn.one before → g.A.Accumulator.Is l.all (before ++ flat_map (λ i. (i, get_or (g.S.Source.cells l.source) (l.start + i) None) ∷ []) (range_with_len 0 l.i))

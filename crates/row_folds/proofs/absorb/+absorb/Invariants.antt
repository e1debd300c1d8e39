use Rattle.std.proofs.Common.{length, ◌∷◌, drop, take, flat_map}
use Rattle.std.specs.List.{range_with_len}
use Rattle.xr_arrays.specs.FeedPositions.{listed}
use Rattle.xr_arrays.specs.Nodes.{gathered}
use Rattle.row_folds.specs.Rows.{read_from, Absorbs}
use Rattle.row_folds.proofs.Ways.{at_each}
use Rattle.row_folds.proofs.absorb.+absorb.Given as goal

abbrev pub decreases-absorb : goal.decreases-absorb
decreases-absorb g l = length l.feeds.now

abbrev pub invariant-loop-i : goal.invariant-loop-i
invariant-loop-i g l = Absorbs g.A.Accumulator.Is l.fn.rows l.rows l.at (l.i ∷ drop 1 l.sizes) (λ p. gathered l.position l.feeds l.shape p (read_from (g.S.Source.cells l.source) l.start l.shape))

abbrev pub invariant-loop-i-2 : goal.invariant-loop-i-2
invariant-loop-i-2 g l = Absorbs g.A.Accumulator.Is l.fn.rows l.rows l.at l.sizes (λ p. flat_map (at_each l.rest (drop 1 l.shape) (g.S.Source.cells l.source) l.start p) (range_with_len 0 l.i))

abbrev pub invariant-loop-place : goal.invariant-loop-place
invariant-loop-place g l = Absorbs g.A.Accumulator.Is l.fn.rows l.rows l.at (l.place ∷ drop 1 l.sizes) (λ p. gathered l.position l.feeds l.shape p (read_from (g.S.Source.cells l.source) l.start l.shape))

abbrev pub invariant-loop-i-3 : goal.invariant-loop-i-3
invariant-loop-i-3 g l = Absorbs g.A.Accumulator.Is l.initial.rows l.rows l.row (drop 1 l.sizes) (λ p. flat_map (at_each l.rest (drop 1 l.shape) (g.S.Source.cells l.source) l.start p) (take l.i (listed l.positions)))

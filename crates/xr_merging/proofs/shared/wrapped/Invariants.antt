use Rattle.std.proofs.Common.{◌≡◌, map}
use Rattle.std.specs.List.{range_with_len}
use Rattle.xr_types.specs.Kinds.{wrap_to}
use Rattle.xr_merging.specs.Columns.{shared_number}
use Rattle.xr_merging.proofs.shared.wrapped.Given as goal

abbrev pub invariant-loop-at : goal.invariant-loop-at
invariant-loop-at g l = map g.T.Elem.number l.out ≡ map (λ k. wrap_to g.T.Elem.kind (shared_number l.arrays k)) (range_with_len 0 l.at)

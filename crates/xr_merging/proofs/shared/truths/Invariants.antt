use Rattle.std.proofs.Common.{◌≡◌, ◌<◌, map, pos, All}
use Rattle.std.specs.List.{range_with_len}
use Rattle.xr_types.specs.declared.kind.DType.TheVariants as kinds
use Rattle.xr_merging.specs.Columns.{cast_number}
use Rattle.xr_merging.proofs.shared.truths.Given as goal

abbrev pub invariant-loop-at : goal.invariant-loop-at
invariant-loop-at l = (map pos l.out ≡ map (cast_number kinds.Bool l.arrays) (range_with_len 0 l.at)) × All (λ x. x < 2) l.out

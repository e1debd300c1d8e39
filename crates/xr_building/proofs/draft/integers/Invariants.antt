use Rattle.xr_building.proofs.Common.{drop, in_range, list_all, take, ◌≡◌, Int64}
use Rattle.xr_building.proofs.draft.integers.Given as goal

abbrev pub invariant-loop-number : goal.invariant-loop-number
invariant-loop-number l = (l.out ≡ take l.number-index l.numbers) × (list_all (in_range Int64) (drop l.number-index l.numbers) ≡ list_all (in_range Int64) l.numbers)

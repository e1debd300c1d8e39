-- Lines of cells, and the running sums along them.
use Rattle.std.specs.Prelude.{◌≡◌, ◌<◌, ◌+◌, ℕ, ℤ, List, map, take, fold, get_or, slice_set, Option, Some}
use Rattle.std.specs.List.{range_with_len}
use Rattle.xr_types.specs.declared.kind.DType.{DType}
use Rattle.strided_block.specs.Boxes.{zeros}
use Rattle.fold_kernel.specs.Rows.{with_cell}

-- the cells of a line, along its axis
abbrev pub line_cells : (List ℕ → Option ℤ) → List ℕ → ℕ → List (Option ℤ)
line_cells cell shape axis = map (λ j. cell (slice_set (zeros shape) axis j)) (range_with_len 0 (get_or shape axis 0))

-- a sum of a kind, with one more number
abbrev pub with_number : DType → ℤ → Option ℤ → ℤ
with_number kind = with_cell kind (λ n. n)

-- at each position the sum of the cells up to it, after a sum to start with
abbrev pub SumsUp : DType → ℤ → List (Option ℤ) → ℕ → (ℕ → Option ℤ) → Type 0
SumsUp kind start cells n out = (j : ℕ) → j < n → out j ≡ Some (fold (with_number kind) start (take (j + 1) cells))

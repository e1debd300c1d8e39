-- Sums along an axis of cells in row order.
use Rattle.std.specs.Prelude.{◌+◌, ℕ, ℤ, List, map, get_or, Option, None}
use Rattle.std.specs.List.{range_with_len}
use Rattle.xr_types.specs.Points.{place}
use Rattle.xr_arrays.specs.Folds.{sum_of}
use Rattle.xr_arrays.specs.Nodes.{along}
use Rattle.plan_core.specs.Rows.{those}

-- the cells up to a point along an axis
abbrev pub line_to : List ℕ → ℕ → List (Option ℤ) → List ℕ → List (Option ℤ)
line_to s axis cells p = map (λ i. get_or cells (place s (along axis i p)) None) (range_with_len 0 (get_or p axis 0 + 1))

abbrev pub sum_to : List ℕ → ℕ → List (Option ℤ) → List ℕ → ℤ
sum_to s axis cells p = sum_of (those (line_to s axis cells p))

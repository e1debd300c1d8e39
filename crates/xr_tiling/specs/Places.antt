-- The places of datasets that are ranked along some dimensions.
use Rattle.std.specs.Prelude.{◌==◌, ◌&&◌, ℕ, Bool, not, List, length, map, get_or, Result, Ok}
use Rattle.std.specs.List.{list_all, range_with_len, position_or_len}
use Rattle.xr_types.specs.Points.{place, size}
use Rattle.xr_types.specs.Results.{◌>>=◌, unless}
use Rattle.xr_types.specs.declared.axis.LabelList.{LabelList}
use Rattle.xr_types.specs.declared.fault.Fault.{Fault}
use Rattle.xr_types.specs.declared.fault.Fault.TheVariants.{Conflict, LabelKind, NotMonotonic}
use Rattle.xr_defs.specs.Limits.{are_different}
use Rattle.xr_combination.specs.Combine.{all_ascend, are_filled, are_of_one_kind, are_ordered, extent, ranks}
use Rattle.xr_combination.specs.declared.grid.Grid.{Grid}
use Rattle.xr_tiling.specs.declared.ranks.Ranking.{Ranking}

-- some dimension; indexes that aren't empty, each in a direction, of one kind
unfoldable pub check_dims : List (List LabelList) → Result (Unit {0}) Fault
check_dims dims =
    unless (not (length dims == 0) && list_all are_filled dims) Conflict >>= λ u. unless (list_all are_ordered dims) NotMonotonic >>= λ v.
    unless (list_all are_of_one_kind dims) LabelKind

abbrev pub ranking_of : List LabelList → Ranking
ranking_of ls = record { rises = all_ascend ls; extent = extent ls; ranks = ranks ls }

abbrev pub extents_in : List Ranking → List ℕ
extents_in rs = map (λ (r : Ranking). r.extent) rs

abbrev pub rises_in : List Ranking → List Bool
rises_in rs = map (λ (r : Ranking). r.rises) rs

-- the ranks of a dataset
abbrev pub point_in : List Ranking → ℕ → List ℕ
point_in rs i = map (λ (r : Ranking). get_or r.ranks i 0) rs

abbrev pub place_in : List Ranking → ℕ → ℕ
place_in rs i = place (extents_in rs) (point_in rs i)

abbrev pub places_in : List Ranking → ℕ → List ℕ
places_in rs count = map (place_in rs) (range_with_len 0 count)

abbrev pub is_full_in : List Ranking → ℕ → Bool
is_full_in rs count = (count == size (extents_in rs)) && are_different (places_in rs count)

-- each place once
unfoldable pub full_places : List Ranking → ℕ → Result (List ℕ) Fault
full_places rs count = unless (is_full_in rs count) Conflict >>= λ u. Ok (places_in rs count)

-- the dataset of each place
abbrev pub order_of : List ℕ → ℕ → List ℕ
order_of places count = map (λ k. position_or_len (λ p. p == k) places) (range_with_len 0 count)

-- the grid of datasets, so many, whose labels along these dimensions are these
unfoldable pub grid_in : List (List ℕ) → List (List LabelList) → ℕ → Result Grid Fault
grid_in names dims count =
    check_dims dims >>= λ u. full_places (map ranking_of dims) count >>= λ ps.
    Ok (record { dims = names; shape = extents_in (map ranking_of dims); rises = rises_in (map ranking_of dims); order = order_of ps count })

-- The steps in which groups, and the lines of a grid, are put together.
use Rattle.std.specs.Prelude.{◌+◌, ◌*◌, ℕ, List, map, get_or, Option, Result, Ok, zip}
use Rattle.std.specs.List.{range_with_len}
use Rattle.xr_types.specs.Results.{◌>>=◌, all_of}
use Rattle.xr_types.specs.declared.fault.Fault.{Fault}
use Rattle.xr_types.specs.declared.operation.How.{How}
use Rattle.xr_defs.specs.Meanings.{Value}
use Rattle.xr_defs.specs.Values.{Dataset}
use Rattle.xr_combination.specs.Combine.{check_direction, concat_sets, grid_concatenated, grid_of, group_combined, groups}
use Rattle.xr_combination.specs.Pieces.{as_dataset, each_of, no_set}
use Rattle.xr_combination.specs.declared.grid.Grid.{Grid}

-- those at these positions
abbrev pub those_at : List Dataset → List ℕ → List Dataset
those_at ss positions = map (λ i. get_or ss i no_set) positions

-- ---- lines along a dimension

-- so many positions, each a step behind the one before
abbrev pub line_of : ℕ → ℕ → ℕ → List ℕ
line_of count step start = map (λ i. i * step + start) (range_with_len 0 count)

abbrev pub lines_of : ℕ → ℕ → List (List ℕ)
lines_of count step = map (line_of count step) (range_with_len 0 step)

unfoldable pub line_concatenated : How → Option Value → List ℕ → List Dataset → List ℕ → Result Dataset Fault
line_concatenated j fill dim ss positions = concat_sets j fill dim (those_at ss positions)

-- ---- groups

unfoldable pub grid_combined : How → Option Value → List Dataset → Grid → Result Dataset Fault
grid_combined j fill ss g =
    grid_concatenated j fill g.dims g.shape (those_at ss g.order) >>= λ s. all_of (check_direction s) (zip g.dims g.rises) >>= λ v. Ok s

-- those of a group, of which there are several
unfoldable pub several_combined : How → Option Value → List Dataset → Result Dataset Fault
several_combined j fill ss = grid_of (map (λ (s : Dataset). s.axes) ss) >>= λ g. grid_combined j fill ss g

unfoldable pub members_combined : How → Option Value → List Dataset → List ℕ → Result Dataset Fault
members_combined j fill ss positions = group_combined j fill (those_at ss positions)

-- each group by itself
unfoldable pub combined : How → Option Value → List Value → Result (List Dataset) Fault
combined j fill vs = each_of (group_combined j fill) (groups (map as_dataset vs))

-- Lists in row order that stand one after the other, read as one along an axis.
use Rattle.std.specs.Prelude.{◌≡◌, ◌<◌, ◌≤◌, ◌+◌, ◌-◌, ◌*◌, ℕ, suc, List, [], ◌∷◌, ◌++◌, length, take, drop, get_or, slice_set, sum, nat_lt, Option, Some, if◌then◌else◌}
use Rattle.xr_types.specs.Points.{size, place}
use Rattle.xr_arrays.specs.Nodes.{along, most_node_cells}

-- the cells before a list, and so many rows of the axis in each of them
abbrev pub joined_place : List ℕ → ℕ → ℕ → ℕ → ℕ → List ℕ → List ℕ → ℕ → ℕ
joined_place shape axis outer before start [] p i = start
joined_place shape axis outer before start (n ∷ ns) p i =
    if nat_lt i n then start + (before * size (slice_set shape axis n) + place (slice_set shape axis n) (along axis i p))
    else joined_place shape axis outer before (start + outer * (n * size (drop (suc axis) shape))) ns p (i - n)

abbrev pub joined_point : List ℕ → ℕ → List ℕ → List ℕ → Option (List ℕ)
joined_point shape axis counts p = Some (joined_place shape axis (size (take axis shape)) 0 0 counts p (get_or p axis 0) ∷ [])

abbrev pub joined_sizes : List ℕ → ℕ → List ℕ → List ℕ
joined_sizes shape axis counts = slice_set shape axis (sum counts)

-- how many positions they have together, the first list's first
abbrev pub joined_total : List ℕ → ℕ
joined_total [] = 0
joined_total (n ∷ ns) = n + joined_total ns

-- a block of each list
abbrev pub joined_row : {X : Type 0} → ℕ → ℕ → ℕ → ℕ → List ℕ → List X → List X
joined_row row outer o start [] cells = []
joined_row row outer o start (n ∷ ns) cells = take (n * row) (drop (start + o * (n * row)) cells) ++ joined_row row outer o (start + outer * (n * row)) ns cells

-- lists that can be joined, with so many cells together
pub record IsJoining (shape : List ℕ) (axis : ℕ) (counts : List ℕ) (count : ℕ) : Type 0 where
  pub axis_is : axis < length shape
  pub whole : count ≡ size (joined_sizes shape axis counts)
  pub small : count ≤ most_node_cells

-- Arrays that stand one after the other along an axis, by their sizes.
use Rattle.std.specs.Prelude.{◌≡◌, ◌<◌, ◌≤◌, ℕ, List, [], ◌∷◌, length, map, get_or, slice_set, sum}
use Rattle.std.specs.List.{AllByRecursion}
use Rattle.xr_types.specs.Points.{size}
use Rattle.xr_arrays.specs.Nodes.{most_axes, most_node_cells}

abbrev pub first_shape : List (List ℕ) → List ℕ
first_shape [] = []
first_shape (s ∷ ss) = s

-- how many positions they have along it together
abbrev pub extent : ℕ → List (List ℕ) → ℕ
extent axis shapes = sum (map (λ s. get_or s axis 0) shapes)

abbrev pub joined_shape : ℕ → List (List ℕ) → List ℕ
joined_shape axis shapes = slice_set (first_shape shapes) axis (extent axis shapes)

-- the sizes are the same but for the axis
abbrev pub SameBut : ℕ → List ℕ → List ℕ → Type 0
SameBut axis s t = slice_set t axis 0 ≡ slice_set s axis 0

pub record InLine (axis : ℕ) (shapes : List (List ℕ)) : Type 0 where
  pub some : 0 < length shapes
  pub there : axis < length (first_shape shapes)
  pub each : AllByRecursion (SameBut axis (first_shape shapes)) shapes
  pub small : size (joined_shape axis shapes) ≤ most_node_cells
  pub low_rank : length (first_shape shapes) ≤ most_axes

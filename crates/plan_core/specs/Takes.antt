-- Positions taken along one axis of a list in row order.
use Rattle.std.specs.Prelude.{◌≡◌, ◌<◌, ◌≤◌, ◌+◌, ◌*◌, All, ℕ, zero, suc, List, [], ◌++◌, length, take, drop, replicate, flat_map, Option, Some, None, get_or, option_map, slice_set, Bool, true, false}
use Rattle.xr_types.specs.Points.{size}
use Rattle.xr_arrays.specs.Nodes.{along, with_axis, without, IsBelow, most_node_cells}

-- so many cells at a source position, or holes
abbrev pub part : {X : Type 0} → ℕ → List X → X → Option ℕ → List X
part row cells hole None = replicate row hole
part row cells hole (Some q) = take row (drop (q * row) cells)

-- the parts at these positions
abbrev pub parts : {X : Type 0} → ℕ → List (Option ℕ) → X → List X → List X
parts row from hole cells = flat_map (part row cells hole) from

-- f of each of the next so many blocks of one length
abbrev pub each_block : {X : Type 0} → (List X → List X) → ℕ → ℕ → List X → List X
each_block f width zero cells = []
each_block f width (suc n) cells = f (take width cells) ++ each_block f width n (drop width cells)

-- positions that stand one after the other from q on
abbrev pub IsRun : ℕ → List (Option ℕ) → Type 0
IsRun q from = (0 < length from) × ((j : ℕ) → j < length from → get_or from j None ≡ Some (q + j))

-- ---- the points that are shown

-- at positions of an axis, which stays
abbrev pub taken_point : ℕ → List (Option ℕ) → List ℕ → Option (List ℕ)
taken_point axis from p = option_map (λ i. along axis i p) (get_or from (get_or p axis 0) None)

-- at one position of an axis, which goes
abbrev pub picked_point : ℕ → Option ℕ → List ℕ → Option (List ℕ)
picked_point axis source p = option_map (λ i. with_axis axis i p) source

abbrev pub taking_sizes : Bool → List ℕ → ℕ → List (Option ℕ) → List ℕ
taking_sizes true shape axis from = without axis shape
taking_sizes false shape axis from = slice_set shape axis (length from)

abbrev pub taking_point : Bool → ℕ → List (Option ℕ) → List ℕ → Option (List ℕ)
taking_point true axis from p = picked_point axis (get_or from 0 None) p
taking_point false axis from p = taken_point axis from p

-- positions that can be taken, and neither too many cells before nor behind
pub record IsTaking (drops : Bool) (shape : List ℕ) (axis : ℕ) (from : List (Option ℕ)) : Type 0 where
  pub axis_is : axis < length shape
  pub inside : All (IsBelow (get_or shape axis 0)) from
  pub few : size shape ≤ most_node_cells
  pub one : drops ≡ true → length from ≡ 1
  pub small : size (taking_sizes drops shape axis from) ≤ most_node_cells

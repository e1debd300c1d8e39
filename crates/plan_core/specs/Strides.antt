-- Lists in row order read by strides: along each axis the next cell stands so many places on.
use Rattle.std.specs.Prelude.{◌≡◌, ◌<◌, ◌≤◌, ◌+◌, ◌*◌, ◌^◌, ℕ, List, [], ◌∷◌, length, map, drop, get_or, Option, Some}
use Rattle.xr_types.specs.Points.{size, tab, IsPoint}
use Rattle.xr_arrays.specs.Nodes.{IsOrder, moved, most_node_cells}

-- the place of a point's cell, where the first cell stands at `start`
abbrev pub reached : ℕ → List ℕ → List ℕ → ℕ
reached start (i ∷ p) (s ∷ ss) = reached (start + i * s) p ss
reached start p ss = start

-- the sum of the products
abbrev pub dot : List ℕ → List ℕ → ℕ
dot (i ∷ p) (s ∷ ss) = i * s + dot p ss
dot p ss = 0

-- the strides of a list in row order
abbrev pub own_strides : List ℕ → List ℕ
own_strides [] = []
own_strides (n ∷ ns) = size ns ∷ own_strides ns

-- what stands at the points of these sizes
abbrev pub strided : {X : Type 0} → List ℕ → List ℕ → ℕ → X → List X → List X
strided sizes strides start hole cells = tab sizes (λ p. get_or cells (reached start p strides) hole)

-- each point's cell is there
abbrev pub Reaches : List ℕ → List ℕ → ℕ → ℕ → Type 0
Reaches sizes strides start count = (p : List ℕ) → IsPoint sizes p → reached start p strides < count

-- a box along the axes from one on, whose cells lie in a list of this length
pub record IsBox (sizes strides : List ℕ) (axis start count : ℕ) : Type 0 where
  pub lengths : length strides ≡ length sizes
  pub axis_is : axis ≤ length sizes
  pub some : 0 < size (drop axis sizes)
  pub inside : Reaches (drop axis sizes) (drop axis strides) start count
  pub small : count < 2 ^ 63

-- ---- axes in another order

-- strides by which the axes are read in this order
abbrev pub AreMoved : List ℕ → List ℕ → List ℕ → Type 0
AreMoved order own strides = (length strides ≡ length order) × ((p : List ℕ) → length p ≡ length order → dot p strides ≡ dot (moved order p) own)

abbrev pub moved_point : List ℕ → List ℕ → Option (List ℕ)
moved_point order p = Some (moved order p)

abbrev pub moved_sizes : List ℕ → List ℕ → List ℕ
moved_sizes order shape = map (λ k. get_or shape k 0) order

pub record IsMoving (shape order : List ℕ) : Type 0 where
  pub each : IsOrder (length shape) order
  pub axes : length order ≤ 16
  pub few : size shape ≤ most_node_cells
  pub small : size (moved_sizes order shape) ≤ most_node_cells

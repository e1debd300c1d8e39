-- Rows of accumulators, and the cells that they absorb.
use Rattle.std.specs.Prelude.{◌≡◌, ◌<◌, ◌≤◌, ◌+◌, ◌/◌, ◌%◌, ℕ, ℤ, Bool, true, false, not, ◌&&◌, ◌||◌, if◌then◌else◌, List, [], ◌∷◌, ◌++◌, length, Option, Some, None, get_or, ⊤}
use Rattle.xr_types.specs.declared.kind.DType.{DType}
use Rattle.xr_types.specs.Points.{size, place}
use Rattle.xr_arrays.specs.Arrays.{Array}
use Rattle.xr_arrays.specs.declared.node.Feed.{Feed}
use Rattle.xr_arrays.specs.declared.node.Feed.TheVariants as feed
use Rattle.xr_arrays.specs.Nodes.{gathered, kept, AreFed, most_node_cells}

-- a number that is there, or a missing cell
abbrev pub shown : Bool → ℤ → Option ℤ
shown b n = if b then Some n else None

-- the number, or another where there is none
abbrev pub or_number : ℤ → Option ℤ → ℤ
or_number other None = other
or_number other (Some n) = n

-- whether a cell is there
abbrev pub has_some : List (ℕ × Option ℤ) → Bool
has_some [] = false
has_some ((p, None) ∷ cs) = has_some cs
has_some ((p, Some x) ∷ cs) = true

-- whether a cell that is better than the one before, or the first, is taken
abbrev pub is_better : Bool → Bool → Bool → Bool
is_better present some better = present && (not some || better)

-- the point at a place in row order
abbrev pub point_at : List ℕ → ℕ → List ℕ
point_at [] r = []
point_at (n ∷ ns) r = r / size ns ∷ point_at ns (r % size ns)

-- the cell of a point, where the first one of a shape stands at a place
abbrev pub read_from : List (Option ℤ) → ℕ → List ℕ → List ℕ → Option ℤ
read_from cells start s q = get_or cells (start + place s q) None

-- all axes stay
abbrev pub AllKept : List Feed → Type 0
AllKept [] = ⊤
AllKept (feed.Keep ∷ fs) = AllKept fs
AllKept (feed.All ∷ fs) = ⊥
AllKept (feed.By lists ∷ fs) = ⊥

-- the rows of a result, from a place on, of cells that lie from a place on
pub record AreRows (feeds : List Feed) (shape sizes : List ℕ) (at rows start count position : ℕ) : Type 0 where
  pub long : length feeds ≡ length shape
  pub fed : AreFed feeds shape
  pub sizes_are : sizes ≡ kept feeds shape
  pub inside : at + size sizes ≤ rows
  pub few_rows : rows ≤ most_node_cells
  pub some : 0 < size shape
  pub whole : start + size shape ≤ count
  pub few : count ≤ most_node_cells
  pub near : position ≤ most_node_cells

-- the accumulators of these sizes, from a place on, have absorbed cells behind those that they had
pub record Absorbs {A : Type 0} (Is : A → List (ℕ × Option ℤ) → Type 0) (old new : List A) (at : ℕ) (sizes : List ℕ) (fed : List ℕ → List (ℕ × Option ℤ)) : Type 0 where
  pub long : length new ≡ length old
  pub inside : (r : ℕ) (z : A) (before : List (ℕ × Option ℤ)) → r < size sizes → Is (get_or old (at + r) z) before → Is (get_or new (at + r) z) (before ++ fed (point_at sizes r))
  pub below : (k : ℕ) (z : A) → k < at → get_or new k z ≡ get_or old k z
  pub above : (k : ℕ) (z : A) → at + size sizes ≤ k → get_or new k z ≡ get_or old k z

-- a run of accumulators has absorbed a run of cells, each one its own
pub record AbsorbsRow {A : Type 0} (Is : A → List (ℕ × Option ℤ) → Type 0) (old new : List A) (at count position : ℕ) (cells : List (Option ℤ)) (start : ℕ) : Type 0 where
  pub long : length new ≡ length old
  pub inside : (r : ℕ) (z : A) (before : List (ℕ × Option ℤ)) → r < count → Is (get_or old (at + r) z) before → Is (get_or new (at + r) z) (before ++ (position, get_or cells (start + r) None) ∷ [])
  pub below : (k : ℕ) (z : A) → k < at → get_or new k z ≡ get_or old k z
  pub above : (k : ℕ) (z : A) → at + count ≤ k → get_or new k z ≡ get_or old k z

-- the cells that a row of a fold's result comes from
abbrev pub row_cells : List Feed → List ℕ → List ℕ → List (Option ℤ) → ℕ → List (ℕ × Option ℤ)
row_cells feeds shape sizes cells r = gathered 0 feeds shape (point_at sizes r) (read_from cells 0 shape)

-- a fold of an array
pub record IsFolding (feeds : List Feed) (shape sizes : List ℕ) (count : ℕ) : Type 0 where
  pub long : length feeds ≡ length shape
  pub fed : AreFed feeds shape
  pub sizes_are : sizes ≡ kept feeds shape
  pub few_rows : size sizes ≤ most_node_cells
  pub whole : count ≡ size shape
  pub few : size shape ≤ most_node_cells

-- an accumulator for each row of a fold's result
pub record AreFolds {A : Type 0} (Is : A → List (ℕ × Option ℤ) → Type 0) (rows : List A) (feeds : List Feed) (shape sizes : List ℕ) (cells : List (Option ℤ)) : Type 0 where
  pub long : length rows ≡ size sizes
  pub folds : (r : ℕ) (z : A) → r < size sizes → Is (get_or rows r z) (row_cells feeds shape sizes cells r)

-- an array with these cells
abbrev pub array_of : DType → List ℕ → List (Option ℤ) → Array
array_of kind shape cells = record { kind = kind; shape = shape; cells = cells }

-- the size of an axis that stays
abbrev pub kept_one : Feed → ℕ → List ℕ
kept_one feed.Keep n = n ∷ []
kept_one feed.All n = []
kept_one (feed.By lists) n = length lists ∷ []

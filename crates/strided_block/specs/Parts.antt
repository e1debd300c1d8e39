-- The cells of one owner are dealt to two, and those of two come to one. A list has an entry for each cell of a block, None at those that the owner does not have.
use Rattle.std.specs.Prelude.{◌≡◌, ℕ, suc, ◌+◌, ◌/◌, ◌%◌, ◌<◌, ◌≤◌, ◌*◌, Bool, ltb, not, cond, List, [], ◌∷◌, length, get_or, map, take, drop, Option, Some, None, is_some}
use Rattle.xr_types.specs.Points.{IsPoint}
use Rattle.strided_block.specs.Steps.{spot}

module _ {X : Type 0} where
  -- of the cells, numbered from k on, those that q takes
  abbrev pub dealt : (ℕ → Bool) → ℕ → List (Option X) → List (Option X)
  dealt q k [] = []
  dealt q k (c ∷ cs) = cond (q k) c None ∷ dealt q (suc k) cs

  abbrev pub either : Option X → Option X → Option X
  either (Some x) d = Some x
  either None d = d

  -- the cells that either has
  abbrev pub joined : List (Option X) → List (Option X) → List (Option X)
  joined [] ds = ds
  joined (c ∷ cs) [] = c ∷ cs
  joined (c ∷ cs) (d ∷ ds) = either c d ∷ joined cs ds

  -- the cells that are there
  abbrev pub somes : List (Option X) → List X
  somes [] = []
  somes (None ∷ cs) = somes cs
  somes (Some x ∷ cs) = x ∷ somes cs

  -- the owner has the cells from a place on, so many
  abbrev pub IsRun : List (Option X) → ℕ → ℕ → Type 0
  IsRun cs from count = (from + count ≤ length cs) × ((xs : List X) × (take count (drop from cs) ≡ map Some xs))

  -- ds is cs but for the places in P, and has a cell where cs has one
  pub record Changes (cs ds : List (Option X)) (P : ℕ → Type 0) : Type 0 where
    pub long : length ds ≡ length cs
    pub had : (k : ℕ) → is_some (get_or ds k None) ≡ is_some (get_or cs k None)
    pub others : (k : ℕ) → ¬ (P k) → get_or ds k None ≡ get_or cs k None

-- the places from a first one on, so many
abbrev pub InRun : ℕ → ℕ → ℕ → Type 0
InRun at count k = (at ≤ k) × (k < at + count)

-- so many places, each a step from the one before
abbrev pub OnLine : ℕ → ℕ → ℕ → ℕ → Type 0
OnLine first step count k = (j : ℕ) × ((j < count) × (k ≡ first + j * step))

-- the places of the points of a shape, counted in steps
abbrev pub AtPoint : ℕ → List ℕ → List ℕ → ℕ → Type 0
AtPoint start steps shape k = (p : List ℕ) × (IsPoint shape p × (k ≡ spot start steps p))

-- the position of cell number i along an axis of this step and size is below the bound
abbrev pub below : ℕ → ℕ → ℕ → ℕ → Bool
below step size bound i = ltb ((i / step) % size) bound

abbrev pub above : ℕ → ℕ → ℕ → ℕ → Bool
above step size bound i = not (below step size bound i)

-- Runs of cells as they lie in memory, and what a loop over one gathers.
use Rattle.std.specs.Prelude.{◌==◌, ◌+◌, ◌/◌, ℕ, suc, ℤ, ◌+ℤ◌, List, [], ◌∷◌, map, zip, Option, Some, None, option_map, if◌then◌else◌}
use Rattle.xr_types.specs.Kinds.{wrap_to}
use Rattle.xr_types.specs.declared.kind.DType.{DType}
use Rattle.xr_arrays.specs.Folds.{numbered}

-- the cells of a run, of which those are missing whose byte in the mask isn't 0
abbrev pub shown : {T : Type 0} → List T → List ℕ → List (Option T)
shown xs mask = map (λ c. if c.1 == 0 then Some c.0 else None) (zip xs mask)

-- the numbers of a run's cells, at neighbouring positions from this one on
abbrev pub placed : {T : Type 0} → (T → ℤ) → ℕ → List (Option T) → List (ℕ × Option ℤ)
placed number p cells = numbered p (map (option_map number) cells)

-- what is left when f has taken each present cell in turn
abbrev pub gathered : {A T : Type 0} → (A → T → A) → A → List (Option T) → A
gathered f a [] = a
gathered f a (None ∷ cells) = gathered f a cells
gathered f a (Some x ∷ cells) = gathered f (f a x) cells

-- the cells of a run, with another cell in the place of each missing one
abbrev pub filled : {T : Type 0} → T → List (Option T) → List (Option T)
filled other [] = []
filled other (None ∷ cells) = Some other ∷ filled other cells
filled other (Some x ∷ cells) = Some x ∷ filled other cells

-- the first present cell
abbrev pub first_shown : {T : Type 0} → List (Option T) → Option T
first_shown [] = None
first_shown (None ∷ cells) = first_shown cells
first_shown (Some x ∷ cells) = Some x

-- a sum of a kind, with one more cell
abbrev pub with_cell : {T : Type 0} → DType → (T → ℤ) → ℤ → Option T → ℤ
with_cell kind number sum None = sum
with_cell kind number sum (Some x) = wrap_to kind (sum +ℤ number x)

-- how many cells are present
abbrev pub count_shown : {T : Type 0} → List (Option T) → ℕ
count_shown [] = 0
count_shown (None ∷ cells) = count_shown cells
count_shown (Some x ∷ cells) = suc (count_shown cells)

-- how many bytes are 0
abbrev pub zeros : List ℕ → ℕ
zeros [] = 0
zeros (b ∷ bytes) = (if b == 0 then 1 else 0) + zeros bytes

abbrev pub half : ℕ → ℕ
half n = n / 2

-- Cells that are counted in steps: so many places for each position along an axis. Places are counted round 2^64, where a step back is one of 2^64 less.
use Rattle.std.specs.Prelude.{◌≡◌, ◌+◌, ◌-◌, ◌*◌, ◌%◌, ◌^◌, ◌<◌, ◌≤◌, ℕ, suc, ℤ, pos, negsuc, List, [], ◌∷◌, length}
use Rattle.xr_types.specs.Points.{size}
use Rattle.xr_arrays.specs.Nodes.{moved}

-- how far the cell of a point lies from the first one
abbrev pub dot : List ℕ → List ℕ → ℕ
dot [] ss = 0
dot (p ∷ ps) [] = 0
dot (p ∷ ps) (s ∷ ss) = p * s + dot ps ss

-- where the cell of a point lies
abbrev pub spot : ℕ → List ℕ → List ℕ → ℕ
spot start steps ps = (start + dot ps steps) % 2 ^ 64

-- where the cell j of a line lies
abbrev pub spot_on : ℕ → ℕ → ℕ → ℕ
spot_on first step j = (first + j * step) % 2 ^ 64

-- the steps of cells that lie in row order
abbrev pub row_steps : List ℕ → List ℕ
row_steps [] = []
row_steps (n ∷ ns) = (size ns % 2 ^ 64) ∷ row_steps ns

-- ---- every so many positions

-- the position that lies j steps from one
abbrev pub stepped : ℕ → ℤ → ℕ → ℕ
stepped from (pos by) j = from + j * by
stepped from (negsuc by) j = from - j * suc by

-- so many positions, from one on in steps, all lie below the size
abbrev pub StepsWithin : ℕ → ℕ → ℤ → ℕ → Type 0
StepsWithin size from (pos by) count = (j : ℕ) → j < count → from + j * by < size
StepsWithin size from (negsuc by) count = (j : ℕ) → j < count → (j * suc by ≤ from) × (from - j * suc by < size)

-- the step as it is counted round 2^64
abbrev pub IsRound : ℤ → ℕ → Type 0
IsRound (pos by) n = n ≡ by
IsRound (negsuc by) n = n + suc by ≡ 2 ^ 64

-- ---- axes in another order

-- steps by which the axes are read in this order
pub record AreMoved (order own steps : List ℕ) : Type 0 where
  pub long : length steps ≡ length order
  pub sums : (a : ℕ) (p : List ℕ) → length p ≡ length order → (a + dot p steps) % 2 ^ 64 ≡ (a + dot (moved order p) own) % 2 ^ 64

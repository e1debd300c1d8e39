-- Lines of points along an axis, and cells that are made one after another along them.
use Rattle.std.specs.Prelude.{◌≡◌, ℕ, zero, suc, List, [], ◌∷◌, Option, Some, ⊤}

-- all sizes are 1
abbrev pub AreOnes : List ℕ → Type 0
AreOnes [] = ⊤
AreOnes (s ∷ ss) = (s ≡ 1) × AreOnes ss

-- the sizes are n along an axis, and 1 along all others
abbrev pub IsLine : List ℕ → ℕ → ℕ → Type 0
IsLine [] axis n = ⊥
IsLine (s ∷ ss) zero n = (s ≡ n) × AreOnes ss
IsLine (s ∷ ss) (suc axis) n = (s ≡ 1) × IsLine ss axis n

-- what stands before a place of a list: at its beginning the start
abbrev pub prior : {T : Type 0} → T → (ℕ → T) → ℕ → T
prior start cells zero = start
prior start cells (suc j) = cells j

-- all cells are there, and the relation holds of the one before, of those of two views and of the one that is made
pub record Follows {A B T : Type 0} (R : T → A → B → T → Type 0) (before : Option T) (a : Option A) (b : Option B) (r : Option T) : Type 0 where
  pub last : T
  pub x : A
  pub y : B
  pub z : T
  pub earlier : before ≡ Some last
  pub first : a ≡ Some x
  pub second : b ≡ Some y
  pub result : r ≡ Some z
  pub holds : R last x y z

-- A cell that a relation ties to the cells of four views.
use Rattle.std.specs.Prelude.{◌≡◌, ◌/◌, ◌%◌, ℕ, List, [], ◌∷◌, Option, Some}
use Rattle.xr_types.specs.Points.{size}

-- all cells are there, and the relation holds of them
pub record Zips {A B C D T : Type 0} (R : A → B → C → D → T → Type 0) (a : Option A) (b : Option B) (c : Option C) (d : Option D) (r : Option T) : Type 0 where
  pub x : A
  pub y : B
  pub u : C
  pub v : D
  pub z : T
  pub first : a ≡ Some x
  pub second : b ≡ Some y
  pub third : c ≡ Some u
  pub fourth : d ≡ Some v
  pub result : r ≡ Some z
  pub holds : R x y u v z

-- the point at a place in row order
abbrev pub point_at : List ℕ → ℕ → List ℕ
point_at [] i = []
point_at (n ∷ ns) i = (i / size ns) ∷ point_at ns (i % size ns)

-- A cell that a relation ties to one cell, or to two.
use Rattle.std.specs.Prelude.{◌≡◌, Option, Some}

-- both cells are there, and the relation holds of them
pub record Maps {A T : Type 0} (R : A → T → Type 0) (a : Option A) (r : Option T) : Type 0 where
  pub x : A
  pub z : T
  pub first : a ≡ Some x
  pub result : r ≡ Some z
  pub holds : R x z

-- all cells are there, and the relation holds of them
pub record Pairs {A B T : Type 0} (R : A → B → T → Type 0) (a : Option A) (b : Option B) (r : Option T) : Type 0 where
  pub x : A
  pub y : B
  pub z : T
  pub first : a ≡ Some x
  pub second : b ≡ Some y
  pub result : r ≡ Some z
  pub holds : R x y z

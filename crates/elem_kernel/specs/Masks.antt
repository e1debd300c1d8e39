-- How the masks of operands come together, and what they say of cells.
use Rattle.std.specs.Prelude.{◌≡◌, ℕ, ℤ, zero, suc, max, Some, None}
use Rattle.xr_types.specs.declared.kind.DType.TheVariants.{Bool}
use Rattle.xr_arrays.specs.Elements.{elem}
use Rattle.xr_types.specs.declared.operation.OpKind.{OpKind}
use Rattle.strided_block.specs.Typed.{truth, unless_hidden}

-- a cell is hidden where an operand's is
abbrev pub Joins : ℕ → ℕ → ℕ → Type 0
Joins x y z = z ≡ max x y

-- a cell is hidden where the operand's is
abbrev pub Keeps : ℕ → ℕ → Type 0
Keeps x z = z ≡ x

-- the first where a byte is 0, else the second
abbrev pub first_at_zero : {X : Type 0} → ℕ → X → X → X
first_at_zero zero x y = x
first_at_zero (suc b) x y = y

-- z is the first where the byte is 0, else the second
abbrev pub Picks : {X : Type 0} → X → X → ℕ → ℕ → X → Type 0
Picks x y b c z = z ≡ first_at_zero b x y

-- a cell is hidden where the choice is, and where the chosen cell is: c is the choice's truth value, m its mask
abbrev pub ChoiceHides : ℕ → ℕ → ℕ → ℕ → ℕ → Type 0
ChoiceHides c x y m z = z ≡ max m (first_at_zero c y x)

-- the truth value of `isnull` or `notnull` of a cell, by the byte of its mask
abbrev pub TellsMissing : OpKind → ℕ → ℕ → Type 0
TellsMissing op m z = (n : ℤ) → Some (truth z) ≡ elem op Bool (unless_hidden (Some m) (Some n)) None

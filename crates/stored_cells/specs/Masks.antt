-- Masks of cells, some of which hold fill numbers.
use Rattle.std.specs.Prelude.{◌≡◌, ℕ, ℤ, List, length, map, Option, MatchOption, ⊤, if◌then◌else◌}
use Rattle.xr_arrays.specs.Arrays.{hidden}
use Rattle.xr_arrays.specs.Stored.{is_fill, unless_fill}

-- the mask of cells: 1 where a number stands for a missing cell
abbrev pub mark : List ℤ → ℤ → ℕ
mark fills n = if is_fill fills n then 1 else 0

abbrev pub marks : List ℤ → List ℤ → List ℕ
marks fills ns = map (mark fills) ns

-- a mask that hides the numbers which stand for missing cells, or none
pub record Hides (fills ns : List ℤ) (mask : Option (List ℕ)) : Type 0 where
  pub cells : hidden ns mask ≡ map (unless_fill fills) ns
  pub long : MatchOption mask ⊤ (λ m. length m ≡ length ns)

-- Numbers in the range of a kind.
use Rattle.xr_moving.proofs.Common.{DType, InRange, arith, in_range, true, ℤ, ◌≡◌}
use Rattle.std.proofs.Common.{◌≤ℤ◌}
use Rattle.std.specs.Prelude.{int_le}
use Rattle.std.proofs.lemmas.Int.{ints}
use Rattle.std.proofs.lemmas.Bool.{and_parts}
use Rattle.xr_types.specs.Kinds.{high, low}

up_to : (x y : ℤ) → int_le x y ≡ true → x ≤ℤ y
up_to x y is = grind (arith, ints)

pub in_kind : (t : DType) (n : ℤ) → in_range t n ≡ true → InRange t n
in_kind t n is = let both = and_parts (int_le (low t) n) (int_le n (high t)) is in (up_to (low t) n both.0, up_to n (high t) both.1)

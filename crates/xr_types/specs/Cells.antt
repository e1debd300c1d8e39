-- The laws of the types of cells, as the trait's implementations cite them: a number in its kind's range is left as it is.
use Rattle.std.proofs.Common.{◌≡◌, ◌<◌, ◌%◌, ℕ, ℤ, pos, negsuc, ◌≤ℤ◌, arith, refl, unsigned_abs}
use Rattle.std.specs.Int.{int_wrap, int_rem_euclid, w8, w16, w32, w64}
use Rattle.std.proofs.lemmas.Int.{int_wrap_fits, ints}

pub again_char : (x : ℕ) → pos 0 ≤ℤ pos x → pos x ≤ℤ pos 255 → x % 256 ≡ x
again_char x a b = let small : x < 256 = omega (arith, ints) in omega arith

pub again_int8 : (x : ℤ) → negsuc 127 ≤ℤ x → x ≤ℤ pos 127 → int_wrap w8 x ≡ x
again_int8 x a b = int_wrap_fits w8 x (omega (arith, ints))

pub again_int16 : (x : ℤ) → negsuc 32767 ≤ℤ x → x ≤ℤ pos 32767 → int_wrap w16 x ≡ x
again_int16 x a b = int_wrap_fits w16 x (omega (arith, ints))

pub again_int32 : (x : ℤ) → negsuc 2147483647 ≤ℤ x → x ≤ℤ pos 2147483647 → int_wrap w32 x ≡ x
again_int32 x a b = int_wrap_fits w32 x (omega (arith, ints))

pub again_int64 : (x : ℤ) → negsuc 9223372036854775807 ≤ℤ x → x ≤ℤ pos 9223372036854775807 → int_wrap w64 x ≡ x
again_int64 x a b = int_wrap_fits w64 x (omega (arith, ints))

pub again_uint16 : (x : ℕ) → pos 0 ≤ℤ pos x → pos x ≤ℤ pos 65535 → x % 65536 ≡ x
again_uint16 x a b = let small : x < 65536 = omega (arith, ints) in omega arith

pub again_uint32 : (x : ℕ) → pos 0 ≤ℤ pos x → pos x ≤ℤ pos 4294967295 → x % 4294967296 ≡ x
again_uint32 x a b = let small : x < 4294967296 = omega (arith, ints) in omega arith

pub again_uint64 : (x : ℕ) → pos 0 ≤ℤ pos x → pos x ≤ℤ pos 18446744073709551615 → x % 18446744073709551616 ≡ x
again_uint64 x a b = let small : x < 18446744073709551616 = omega (arith, ints) in omega arith

-- a remainder isn't negative
pub rest_is_natural : (m : ℕ) (n : ℤ) → pos (unsigned_abs (int_rem_euclid n (pos m))) ≡ int_rem_euclid n (pos m)
rest_is_natural m (pos n) = refl
rest_is_natural m (negsuc n) = refl

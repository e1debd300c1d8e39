-- Which numbers the kinds have, and the floor quotients of their sizes.
use Rattle.std.proofs.Common.{◌≡◌, ◌/◌, ◌-◌, ◌^◌, ◌<◌, ◌≤◌, ℕ, ℤ, zero, suc, pos, negsuc, ◌≤ℤ◌, ◌<ℤ◌, ◌-ℤ◌, ◌*ℤ◌, refl, sym, ap, ◌∙◌, inl, inr, arith}
use Rattle.std.specs.Prelude.{◌≢◌, true, false, unsigned_abs}
use Rattle.std.proofs.lemmas.Int.{ints}
use Rattle.std.proofs.lemmas.Nat.{pow_below}
use Rattle.std.proofs.lemmas.Bool.{cases_lt}
use lib.Signed.{lt_z}
use Rattle.xr_types.specs.Kinds.{low, high, wrap_to, InRange}
use Rattle.xr_types.specs.declared.kind.DType.{DType}
use Rattle.xr_types.specs.declared.kind.DType.TheVariants.{Bool, Char, Int8, Int16, Int32, Int64, UInt8, UInt16, UInt32, UInt64}
use Rattle.xr_arrays.specs.Elements.{floor_quotient, unless_zero}
use Rattle.elem_kernel.proofs.Bounds.{rest_stays}
use Rattle.elem_kernel.specs.Reciprocals.{IsReciprocal, whole, sinks, size, sunk}

-- the whole by the greatest number
pub whole_short : (t : DType) → high t <ℤ pos 65536 → whole t ≡ 65536
whole_short Bool below = refl
whole_short Char below = refl
whole_short Int8 below = refl
whole_short Int16 below = refl
whole_short Int32 below = absurd (omega (arith, ints))
whole_short Int64 below = absurd (omega (arith, ints))
whole_short UInt8 below = refl
whole_short UInt16 below = refl
whole_short UInt32 below = absurd (omega (arith, ints))
whole_short UInt64 below = absurd (omega (arith, ints))

pub whole_int : (t : DType) → pos 65536 ≤ℤ high t → high t <ℤ pos 4294967296 → whole t ≡ 4294967296
whole_int Bool from below = absurd (omega (arith, ints))
whole_int Char from below = absurd (omega (arith, ints))
whole_int Int8 from below = absurd (omega (arith, ints))
whole_int Int16 from below = absurd (omega (arith, ints))
whole_int Int32 from below = refl
whole_int Int64 from below = absurd (omega (arith, ints))
whole_int UInt8 from below = absurd (omega (arith, ints))
whole_int UInt16 from below = absurd (omega (arith, ints))
whole_int UInt32 from below = refl
whole_int UInt64 from below = absurd (omega (arith, ints))

pub whole_long : (t : DType) → pos 4294967296 ≤ℤ high t → whole t ≡ 18446744073709551616
whole_long Bool from = absurd (omega (arith, ints))
whole_long Char from = absurd (omega (arith, ints))
whole_long Int8 from = absurd (omega (arith, ints))
whole_long Int16 from = absurd (omega (arith, ints))
whole_long Int32 from = absurd (omega (arith, ints))
whole_long Int64 from = refl
whole_long UInt8 from = absurd (omega (arith, ints))
whole_long UInt16 from = absurd (omega (arith, ints))
whole_long UInt32 from = absurd (omega (arith, ints))
whole_long UInt64 from = refl

pub ruleset wholes = (whole_short, whole_int, whole_long)

pub high_whole : (t : DType) → high t <ℤ pos (whole t)
high_whole Bool = omega (arith, ints)
high_whole Char = omega (arith, ints)
high_whole Int8 = omega (arith, ints)
high_whole Int16 = omega (arith, ints)
high_whole Int32 = omega (arith, ints)
high_whole Int64 = omega (arith, ints)
high_whole UInt8 = omega (arith, ints)
high_whole UInt16 = omega (arith, ints)
high_whole UInt32 = omega (arith, ints)
high_whole UInt64 = omega (arith, ints)

-- half of it on each side of 0, where there are negative numbers
pub signed_short : (t : DType) → whole t ≡ 65536 → low t <ℤ pos 0 → (negsuc 32767 ≤ℤ low t) × (high t ≤ℤ pos 32767)
signed_short Bool is less = absurd (omega (arith, ints))
signed_short Char is less = absurd (omega (arith, ints))
signed_short Int8 is less = (omega (arith, ints), omega (arith, ints))
signed_short Int16 is less = (omega (arith, ints), omega (arith, ints))
signed_short Int32 is less = absurd (omega arith)
signed_short Int64 is less = absurd (omega arith)
signed_short UInt8 is less = absurd (omega (arith, ints))
signed_short UInt16 is less = absurd (omega (arith, ints))
signed_short UInt32 is less = absurd (omega (arith, ints))
signed_short UInt64 is less = absurd (omega (arith, ints))

pub signed_int : (t : DType) → whole t ≡ 4294967296 → low t <ℤ pos 0 → (negsuc 2147483647 ≤ℤ low t) × (high t ≤ℤ pos 2147483647)
signed_int Bool is less = absurd (omega (arith, ints))
signed_int Char is less = absurd (omega (arith, ints))
signed_int Int8 is less = absurd (omega arith)
signed_int Int16 is less = absurd (omega arith)
signed_int Int32 is less = (omega (arith, ints), omega (arith, ints))
signed_int Int64 is less = absurd (omega arith)
signed_int UInt8 is less = absurd (omega (arith, ints))
signed_int UInt16 is less = absurd (omega (arith, ints))
signed_int UInt32 is less = absurd (omega (arith, ints))
signed_int UInt64 is less = absurd (omega (arith, ints))

pub signed_long : (t : DType) → whole t ≡ 18446744073709551616 → low t <ℤ pos 0 → (negsuc 9223372036854775807 ≤ℤ low t) × (high t ≤ℤ pos 9223372036854775807)
signed_long Bool is less = absurd (omega (arith, ints))
signed_long Char is less = absurd (omega (arith, ints))
signed_long Int8 is less = absurd (omega arith)
signed_long Int16 is less = absurd (omega arith)
signed_long Int32 is less = absurd (omega arith)
signed_long Int64 is less = (omega (arith, ints), omega (arith, ints))
signed_long UInt8 is less = absurd (omega (arith, ints))
signed_long UInt16 is less = absurd (omega (arith, ints))
signed_long UInt32 is less = absurd (omega (arith, ints))
signed_long UInt64 is less = absurd (omega (arith, ints))

pub ruleset ranges = (high_whole, signed_short, signed_int, signed_long)

pub shift_below : (s k : ℕ) → 2 ^ s < 2 ^ k → s < k
shift_below s k less = elim (cases_lt s k) [
  | inl lt ↦ lt
  | inr le ↦ elim (cases_lt k s) [
    | inl more ↦ let h = pow_below k s more in absurd (omega arith)
    | inr same ↦ let e : s ≡ k = omega arith in let h : 2 ^ s ≡ 2 ^ k = ap (λ n. 2 ^ n) e in absurd (omega arith)
  ]
]

pub shift_16 : (s : ℕ) → 2 ^ s < 65536 → s < 16
shift_16 s less = shift_below s 16 less

pub shift_32 : (s : ℕ) → 2 ^ s < 4294967296 → s < 32
shift_32 s less = shift_below s 32 less

pub shift_64 : (s : ℕ) → 2 ^ s < 18446744073709551616 → s < 64
shift_64 s less = shift_below s 64 less

pub ruleset shifts = (shift_16, shift_32, shift_64)

-- ---- floor quotients

pub sinks_some : (n y : ℤ) → sinks n y ≡ true → n ≢ pos 0
sinks_some (pos zero) y is = λ zeros. cc
sinks_some (pos (suc a)) y is = λ zeros. cc
sinks_some (negsuc a) y is = λ zeros. cc

pub sinks_down : (n y : ℤ) → y <ℤ pos 0 → lt_z (pos 0) n ≡ sinks n y
sinks_down (pos zero) y less = refl
sinks_down (pos (suc a)) (pos b) less = absurd (omega (arith, ints))
sinks_down (pos (suc a)) (negsuc b) less = grind (arith, ints)
sinks_down (negsuc a) (pos b) less = absurd (omega (arith, ints))
sinks_down (negsuc a) (negsuc b) less = refl

pub sinks_up : (n y : ℤ) → pos 0 ≤ℤ y → lt_z n (pos 0) ≡ sinks n y
sinks_up (pos zero) y up = refl
sinks_up (pos (suc a)) (pos b) up = grind (arith, ints)
sinks_up (pos (suc a)) (negsuc b) up = absurd (omega (arith, ints))
sinks_up (negsuc a) (pos b) up = refl
sinks_up (negsuc a) (negsuc b) up = absurd (omega (arith, ints))

pub ruleset sinking = (sinks_down, sinks_up)

one_less : (a : ℕ) → suc a - 1 ≡ a
one_less a = omega arith

-- the floor quotient by its size
pub floor_is : (n y : ℤ) → y ≢ pos 0 → sunk (sinks n y) (size n (sinks n y) / unsigned_abs y) ≡ floor_quotient n y
floor_is n (pos zero) some = absurd (some refl)
floor_is (pos zero) (pos (suc b)) some = refl
floor_is (pos (suc a)) (pos (suc b)) some = refl
floor_is (pos zero) (negsuc b) some = omega (arith, ints)
floor_is (pos (suc a)) (negsuc b) some = ap (λ m. negsuc (m / suc b)) (one_less a)
floor_is (negsuc a) (pos (suc b)) some = ap (λ m. negsuc (m / suc b)) (one_less a)
floor_is (negsuc a) (negsuc b) some = refl

-- a kind's number without its sign is below the whole
pub abs_whole : (t : DType) (n : ℤ) → low t ≤ℤ n → n ≤ℤ high t → unsigned_abs n < whole t
abs_whole Bool (pos a) from to = omega (arith, ints)
abs_whole Bool (negsuc a) from to = omega (arith, ints)
abs_whole Char (pos a) from to = omega (arith, ints)
abs_whole Char (negsuc a) from to = omega (arith, ints)
abs_whole Int8 (pos a) from to = omega (arith, ints)
abs_whole Int8 (negsuc a) from to = omega (arith, ints)
abs_whole Int16 (pos a) from to = omega (arith, ints)
abs_whole Int16 (negsuc a) from to = omega (arith, ints)
abs_whole Int32 (pos a) from to = omega (arith, ints)
abs_whole Int32 (negsuc a) from to = omega (arith, ints)
abs_whole Int64 (pos a) from to = omega (arith, ints)
abs_whole Int64 (negsuc a) from to = omega (arith, ints)
abs_whole UInt8 (pos a) from to = omega (arith, ints)
abs_whole UInt8 (negsuc a) from to = omega (arith, ints)
abs_whole UInt16 (pos a) from to = omega (arith, ints)
abs_whole UInt16 (negsuc a) from to = omega (arith, ints)
abs_whole UInt32 (pos a) from to = omega (arith, ints)
abs_whole UInt32 (negsuc a) from to = omega (arith, ints)
abs_whole UInt64 (pos a) from to = omega (arith, ints)
abs_whole UInt64 (negsuc a) from to = omega (arith, ints)

pub whole_at_most : (t : DType) → whole t ≤ 18446744073709551616
whole_at_most Bool = omega arith
whole_at_most Char = omega arith
whole_at_most Int8 = omega arith
whole_at_most Int16 = omega arith
whole_at_most Int32 = omega arith
whole_at_most Int64 = omega arith
whole_at_most UInt8 = omega arith
whole_at_most UInt16 = omega arith
whole_at_most UInt32 = omega arith
whole_at_most UInt64 = omega arith

pub ruleset absolutes = (abs_whole, whole_at_most)

no_zero : (w d m s : ℕ) → IsReciprocal w d m s → d ≡ 0 → ⊥
no_zero w zero m s is zeros = let h = is.0 in omega arith
no_zero w (suc d) m s is zeros = omega arith

pub divisor_some : (w m s : ℕ) (y : ℤ) → IsReciprocal w (unsigned_abs y) m s → y ≢ pos 0
divisor_some w m s (pos zero) is = λ zeros. no_zero w 0 m s is refl
divisor_some w m s (pos (suc b)) is = λ zeros. cc
divisor_some w m s (negsuc b) is = λ zeros. cc

-- the floor quotient by what a reciprocal gives
pub floor_by : (w m s q : ℕ) (n y r : ℤ) → IsReciprocal w (unsigned_abs y) m s → q ≡ size n (sinks n y) / unsigned_abs y → r ≡ sunk (sinks n y) q → r ≡ floor_quotient n y
floor_by w m s q n y r is eq er = er ∙ ap (sunk (sinks n y)) eq ∙ floor_is n y (divisor_some w m s y is)

pub ruleset floors = (sinks_some, floor_by, divisor_some)

unless_some : (y q : ℤ) → y ≢ pos 0 → q ≡ unless_zero y q
unless_some (pos zero) q some = absurd (some refl)
unless_some (pos (suc b)) q some = refl
unless_some (negsuc b) q some = refl

-- what a kind leaves of a quotient, and of the rest by one of its numbers
pub quotient_some : (t : DType) (y q : ℤ) → y ≢ pos 0 → wrap_to t q ≡ unless_zero y (wrap_to t q)
quotient_some t y q some = unless_some y (wrap_to t q) some

pub rest_some : (t : DType) (x y : ℤ) → InRange t y → y ≢ pos 0 → wrap_to t (x -ℤ y *ℤ floor_quotient x y) ≡ unless_zero y (x -ℤ y *ℤ floor_quotient x y)
rest_some t x y range some = ap (wrap_to t) (unless_some y (x -ℤ y *ℤ floor_quotient x y) some) ∙ rest_stays t x y range

-- What is left of a number lies in its kind's range and is congruent to it, and no other number does.
use Rattle.std.proofs.Common.{◌≡◌, ◌<◌, ◌%◌, ◌/◌, ◌-◌, ℕ, suc, ℤ, pos, negsuc, ◌+ℤ◌, ◌*ℤ◌, inl, inr, arith, ap, refl, ◌∙◌}
use Rattle.std.specs.Int.{int_wrap, int_rem_euclid, cast_signed, w8, w16, w32, w64}
use Rattle.std.proofs.lemmas.Int.{ints}
use Rattle.std.proofs.Math.Facts.{to_z-neg}
use Rattle.std.proofs.Math.IntN.{suc_ℤ, suc_ℤ-*ℤ}
use Rattle.std.proofs.lemmas.Bool.{cases_lt}
use Rattle.xr_types.specs.Kinds.{IsWrapped, wrap_to, low, high, count_of}
use Rattle.xr_types.specs.declared.kind.DType.{DType}
use Rattle.xr_types.specs.declared.kind.DType.TheVariants.{Bool, Char, Int8, Int16, Int32, Int64, UInt8, UInt16, UInt32, UInt64}

-- a number as a remainder and so many times the divisor
pub record Splits (n : ℤ) (m : ℕ) : Type 0 where
  pub rest : ℕ
  pub turns : ℤ
  pub small : rest < m
  pub is_rest : int_rem_euclid n (pos m) ≡ pos rest
  pub whole : n ≡ pos rest +ℤ turns *ℤ pos m

pub splits : (n : ℤ) (m : ℕ) → 0 < m → Splits n m
splits (pos a) m h = record { rest = a % m; turns = pos (a / m); small = omega arith; is_rest = refl; whole = omega (arith, ints) }
splits (negsuc a) m h = record { rest = m - 1 - a % m; turns = negsuc (a / m); small = omega arith; is_rest = refl; whole = omega (arith, ints) }

wrapped_8 : (n : ℤ) (s : Splits n 256) → IsWrapped Int8 n (int_wrap w8 n)
unfolding int_wrap
wrapped_8 n s = elim (cases_lt s.rest 128) [
  | inl lt ↦
      let e : cast_signed w8 s.rest ≡ pos s.rest = omega (arith, ints) in
      rw (s.is_rest, e) (record { in_range = omega (arith, ints); turns = s.turns; congruent = s.whole })
  | inr le ↦
      let k : 256 - suc s.rest < 128 = omega arith in
      let same : s.rest ≡ 256 - suc (256 - suc s.rest) = omega arith in
      let e : cast_signed w8 s.rest ≡ negsuc (256 - suc s.rest) = ap (cast_signed w8) same ∙ to_z-neg w8 (256 - suc s.rest) k in
      let more = suc_ℤ-*ℤ s.turns (pos 256) in
      rw (s.is_rest, e) (record { in_range = omega (arith, ints); turns = suc_ℤ s.turns; congruent = omega (arith, ints, s.whole, more) })
]

wrapped_16 : (n : ℤ) (s : Splits n 65536) → IsWrapped Int16 n (int_wrap w16 n)
unfolding int_wrap
wrapped_16 n s = elim (cases_lt s.rest 32768) [
  | inl lt ↦
      let e : cast_signed w16 s.rest ≡ pos s.rest = omega (arith, ints) in
      rw (s.is_rest, e) (record { in_range = omega (arith, ints); turns = s.turns; congruent = s.whole })
  | inr le ↦
      let k : 65536 - suc s.rest < 32768 = omega arith in
      let same : s.rest ≡ 65536 - suc (65536 - suc s.rest) = omega arith in
      let e : cast_signed w16 s.rest ≡ negsuc (65536 - suc s.rest) = ap (cast_signed w16) same ∙ to_z-neg w16 (65536 - suc s.rest) k in
      let more = suc_ℤ-*ℤ s.turns (pos 65536) in
      rw (s.is_rest, e) (record { in_range = omega (arith, ints); turns = suc_ℤ s.turns; congruent = omega (arith, ints, s.whole, more) })
]

wrapped_32 : (n : ℤ) (s : Splits n 4294967296) → IsWrapped Int32 n (int_wrap w32 n)
unfolding int_wrap
wrapped_32 n s = elim (cases_lt s.rest 2147483648) [
  | inl lt ↦
      let e : cast_signed w32 s.rest ≡ pos s.rest = omega (arith, ints) in
      rw (s.is_rest, e) (record { in_range = omega (arith, ints); turns = s.turns; congruent = s.whole })
  | inr le ↦
      let k : 4294967296 - suc s.rest < 2147483648 = omega arith in
      let same : s.rest ≡ 4294967296 - suc (4294967296 - suc s.rest) = omega arith in
      let e : cast_signed w32 s.rest ≡ negsuc (4294967296 - suc s.rest) = ap (cast_signed w32) same ∙ to_z-neg w32 (4294967296 - suc s.rest) k in
      let more = suc_ℤ-*ℤ s.turns (pos 4294967296) in
      rw (s.is_rest, e) (record { in_range = omega (arith, ints); turns = suc_ℤ s.turns; congruent = omega (arith, ints, s.whole, more) })
]

wrapped_64 : (n : ℤ) (s : Splits n 18446744073709551616) → IsWrapped Int64 n (int_wrap w64 n)
unfolding int_wrap
wrapped_64 n s = elim (cases_lt s.rest 9223372036854775808) [
  | inl lt ↦
      let e : cast_signed w64 s.rest ≡ pos s.rest = omega (arith, ints) in
      rw (s.is_rest, e) (record { in_range = omega (arith, ints); turns = s.turns; congruent = s.whole })
  | inr le ↦
      let k : 18446744073709551616 - suc s.rest < 9223372036854775808 = omega arith in
      let same : s.rest ≡ 18446744073709551616 - suc (18446744073709551616 - suc s.rest) = omega arith in
      let e : cast_signed w64 s.rest ≡ negsuc (18446744073709551616 - suc s.rest) = ap (cast_signed w64) same ∙ to_z-neg w64 (18446744073709551616 - suc s.rest) k in
      let more = suc_ℤ-*ℤ s.turns (pos 18446744073709551616) in
      rw (s.is_rest, e) (record { in_range = omega (arith, ints); turns = suc_ℤ s.turns; congruent = omega (arith, ints, s.whole, more) })
]

-- the remainder itself
wrapped_rest : (t : DType) (n : ℤ) (m : ℕ) (s : Splits n m) → m ≡ count_of t → low t ≡ pos 0 → high t +ℤ pos 1 ≡ pos m → IsWrapped t n (int_rem_euclid n (pos m))
wrapped_rest t n m s e l h = record { in_range = rw (s.is_rest, l) (omega (arith, ints)); turns = s.turns; congruent = rw (s.is_rest, ← e) s.whole }

pub wrapped_is : (t : DType) (n : ℤ) → IsWrapped t n (wrap_to t n)
wrapped_is Bool n = wrapped_rest Bool n 2 (splits n 2 (omega arith)) refl refl refl
wrapped_is Char n = wrapped_rest Char n 256 (splits n 256 (omega arith)) refl refl refl
wrapped_is Int8 n = wrapped_8 n (splits n 256 (omega arith))
wrapped_is Int16 n = wrapped_16 n (splits n 65536 (omega arith))
wrapped_is Int32 n = wrapped_32 n (splits n 4294967296 (omega arith))
wrapped_is Int64 n = wrapped_64 n (splits n 18446744073709551616 (omega arith))
wrapped_is UInt8 n = wrapped_rest UInt8 n 256 (splits n 256 (omega arith)) refl refl refl
wrapped_is UInt16 n = wrapped_rest UInt16 n 65536 (splits n 65536 (omega arith)) refl refl refl
wrapped_is UInt32 n = wrapped_rest UInt32 n 4294967296 (splits n 4294967296 (omega arith)) refl refl refl
wrapped_is UInt64 n = wrapped_rest UInt64 n 18446744073709551616 (splits n 18446744073709551616 (omega arith)) refl refl refl

-- two numbers of a kind that are congruent to one are one
pub wrapped_only : (t : DType) (n m : ℤ) → IsWrapped t n m → m ≡ wrap_to t n
wrapped_only Bool n m h = let w = wrapped_is Bool n in omega (arith, ints, h.congruent, w.congruent, h.in_range, w.in_range)
wrapped_only Char n m h = let w = wrapped_is Char n in omega (arith, ints, h.congruent, w.congruent, h.in_range, w.in_range)
wrapped_only Int8 n m h = let w = wrapped_is Int8 n in omega (arith, ints, h.congruent, w.congruent, h.in_range, w.in_range)
wrapped_only Int16 n m h = let w = wrapped_is Int16 n in omega (arith, ints, h.congruent, w.congruent, h.in_range, w.in_range)
wrapped_only Int32 n m h = let w = wrapped_is Int32 n in omega (arith, ints, h.congruent, w.congruent, h.in_range, w.in_range)
wrapped_only Int64 n m h = let w = wrapped_is Int64 n in omega (arith, ints, h.congruent, w.congruent, h.in_range, w.in_range)
wrapped_only UInt8 n m h = let w = wrapped_is UInt8 n in omega (arith, ints, h.congruent, w.congruent, h.in_range, w.in_range)
wrapped_only UInt16 n m h = let w = wrapped_is UInt16 n in omega (arith, ints, h.congruent, w.congruent, h.in_range, w.in_range)
wrapped_only UInt32 n m h = let w = wrapped_is UInt32 n in omega (arith, ints, h.congruent, w.congruent, h.in_range, w.in_range)
wrapped_only UInt64 n m h = let w = wrapped_is UInt64 n in omega (arith, ints, h.congruent, w.congruent, h.in_range, w.in_range)

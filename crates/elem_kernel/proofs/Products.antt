-- What a kind leaves of a product that was wrapped at 128 bits before.
use Rattle.std.proofs.Common.{◌≡◌, ◌<◌, ◌-◌, suc, ℤ, pos, negsuc, ◌+ℤ◌, ◌*ℤ◌, inl, inr, arith, ap, ◌∙◌}
use Rattle.std.specs.Int.{int_wrap, cast_signed, w128}
use Rattle.std.proofs.lemmas.Int.{ints}
use Rattle.std.proofs.lemmas.Bool.{cases_lt}
use Rattle.std.proofs.Math.Facts.{to_z-neg}
use Rattle.std.proofs.Math.IntN.{suc_ℤ, suc_ℤ-*ℤ}
use Rattle.xr_types.specs.Kinds.{IsWrapped, wrap_to}
use Rattle.xr_types.specs.declared.kind.DType.{DType}
use Rattle.xr_types.specs.declared.kind.DType.TheVariants.{Bool, Char, Int8, Int16, Int32, Int64, UInt8, UInt16, UInt32, UInt64}
use Rattle.xr_types.proofs.Wrapping.{Splits, splits, wrapped_is, wrapped_only}

-- a number and what 128 bits leave of it, which differ by so many times 2^128
record IsNear (n m : ℤ) : Type 0 where
  turns : ℤ
  is : n ≡ m +ℤ turns *ℤ pos 340282366920938463463374607431768211456

near : (n : ℤ) (s : Splits n 340282366920938463463374607431768211456) → IsNear n (int_wrap w128 n)
unfolding int_wrap
near n s = elim (cases_lt s.rest 170141183460469231731687303715884105728) [
  | inl lt ↦
      let e : cast_signed w128 s.rest ≡ pos s.rest = omega (arith, ints) in
      rw (s.is_rest, e) (record { turns = s.turns; is = s.whole })
  | inr le ↦
      let k : 340282366920938463463374607431768211456 - suc s.rest < 170141183460469231731687303715884105728 = omega arith in
      let same : s.rest ≡ 340282366920938463463374607431768211456 - suc (340282366920938463463374607431768211456 - suc s.rest) = omega arith in
      let e : cast_signed w128 s.rest ≡ negsuc (340282366920938463463374607431768211456 - suc s.rest) = ap (cast_signed w128) same ∙ to_z-neg w128 (340282366920938463463374607431768211456 - suc s.rest) k in
      let more = suc_ℤ-*ℤ s.turns (pos 340282366920938463463374607431768211456) in
      rw (s.is_rest, e) (record { turns = suc_ℤ s.turns; is = omega (arith, ints, s.whole, more) })
]

-- each kind has a number of numbers that divides 2^128
still_wrapped : (t : DType) (n m r : ℤ) → IsNear n m → IsWrapped t m r → IsWrapped t n r
still_wrapped Bool n m r e w = record { in_range = w.in_range; turns = w.turns +ℤ e.turns *ℤ pos 170141183460469231731687303715884105728; congruent = omega (arith, ints, e.is, w.congruent) }
still_wrapped Char n m r e w = record { in_range = w.in_range; turns = w.turns +ℤ e.turns *ℤ pos 1329227995784915872903807060280344576; congruent = omega (arith, ints, e.is, w.congruent) }
still_wrapped Int8 n m r e w = record { in_range = w.in_range; turns = w.turns +ℤ e.turns *ℤ pos 1329227995784915872903807060280344576; congruent = omega (arith, ints, e.is, w.congruent) }
still_wrapped Int16 n m r e w = record { in_range = w.in_range; turns = w.turns +ℤ e.turns *ℤ pos 5192296858534827628530496329220096; congruent = omega (arith, ints, e.is, w.congruent) }
still_wrapped Int32 n m r e w = record { in_range = w.in_range; turns = w.turns +ℤ e.turns *ℤ pos 79228162514264337593543950336; congruent = omega (arith, ints, e.is, w.congruent) }
still_wrapped Int64 n m r e w = record { in_range = w.in_range; turns = w.turns +ℤ e.turns *ℤ pos 18446744073709551616; congruent = omega (arith, ints, e.is, w.congruent) }
still_wrapped UInt8 n m r e w = record { in_range = w.in_range; turns = w.turns +ℤ e.turns *ℤ pos 1329227995784915872903807060280344576; congruent = omega (arith, ints, e.is, w.congruent) }
still_wrapped UInt16 n m r e w = record { in_range = w.in_range; turns = w.turns +ℤ e.turns *ℤ pos 5192296858534827628530496329220096; congruent = omega (arith, ints, e.is, w.congruent) }
still_wrapped UInt32 n m r e w = record { in_range = w.in_range; turns = w.turns +ℤ e.turns *ℤ pos 79228162514264337593543950336; congruent = omega (arith, ints, e.is, w.congruent) }
still_wrapped UInt64 n m r e w = record { in_range = w.in_range; turns = w.turns +ℤ e.turns *ℤ pos 18446744073709551616; congruent = omega (arith, ints, e.is, w.congruent) }

pub wrapped_before : (t : DType) (n : ℤ) → wrap_to t (int_wrap w128 n) ≡ wrap_to t n
wrapped_before t n = wrapped_only t n (wrap_to t (int_wrap w128 n)) (still_wrapped t n (int_wrap w128 n) (wrap_to t (int_wrap w128 n)) (near n (splits n 340282366920938463463374607431768211456 (omega arith))) (wrapped_is t (int_wrap w128 n)))

-- What a kind leaves of sums, and the kinds of sums and products.
use Rattle.std.proofs.Common.{◌≡◌, ℤ, pos, negsuc, ◌+ℤ◌, ◌*ℤ◌, ◌≤ℤ◌, true, false, if◌then◌else◌, SFits, to_z, of_z, arith, sym, ap, ◌∙◌}
use Rattle.std.specs.Int.{int_wrap, w64, w128}
use Rattle.std.proofs.lemmas.Int.{ints, to_z-of_z, int_wrap_fits, SFits-int_wrap, int_wrap-add_left, int_wrap-add_right, int_wrap-mul_left, int_wrap-mul_right}
use Rattle.xr_types.specs.Kinds.{InRange, is_unsigned, low, high, wrap_to}
use Rattle.xr_types.specs.declared.kind.DType.{DType}
use Rattle.xr_types.specs.declared.kind.DType.TheVariants.{Bool, Char, Int8, Int16, Int32, Int64, UInt8, UInt16, UInt32, UInt64}
use Rattle.xr_types.proofs.Wrapping.{wrapped_is, wrapped_only}
use Rattle.xr_arrays.specs.Folds.{total_kind}

-- ---- the numbers of each kind

pub low_bound : (t : DType) → negsuc 9223372036854775807 ≤ℤ low t
low_bound Bool = omega (arith, ints)
low_bound Char = omega (arith, ints)
low_bound Int8 = omega (arith, ints)
low_bound Int16 = omega (arith, ints)
low_bound Int32 = omega (arith, ints)
low_bound Int64 = omega (arith, ints)
low_bound UInt8 = omega (arith, ints)
low_bound UInt16 = omega (arith, ints)
low_bound UInt32 = omega (arith, ints)
low_bound UInt64 = omega (arith, ints)

pub high_bound : (t : DType) → high t ≤ℤ pos 18446744073709551615
high_bound Bool = omega (arith, ints)
high_bound Char = omega (arith, ints)
high_bound Int8 = omega (arith, ints)
high_bound Int16 = omega (arith, ints)
high_bound Int32 = omega (arith, ints)
high_bound Int64 = omega (arith, ints)
high_bound UInt8 = omega (arith, ints)
high_bound UInt16 = omega (arith, ints)
high_bound UInt32 = omega (arith, ints)
high_bound UInt64 = omega (arith, ints)

pub ruleset kind_bounds = (low_bound, high_bound)

-- a kind leaves its numbers as they are
pub stays : (t : DType) (n : ℤ) → InRange t n → wrap_to t n ≡ n
stays t n range = sym (wrapped_only t n n (record { in_range = range; turns = pos 0; congruent = omega (arith, ints) }))

-- ---- sums and products, which wrap at 64 bits

-- to wrap a number with a sign before changes nothing
unsigned_again : (n : ℤ) → wrap_to UInt64 (int_wrap w64 n) ≡ wrap_to UInt64 n
unsigned_again n =
    let signed = wrapped_is Int64 n in let again = wrapped_is UInt64 (int_wrap w64 n) in
    wrapped_only UInt64 n (wrap_to UInt64 (int_wrap w64 n)) (record { in_range = again.in_range; turns = again.turns +ℤ signed.turns; congruent = omega (arith, ints, signed.congruent, again.congruent) })

pub total_again : (t : DType) (n : ℤ) → wrap_to (total_kind t) (int_wrap w64 n) ≡ wrap_to (total_kind t) n
total_again t n =
    elim (is_unsigned t) as (λ u. wrap_to (if u then UInt64 else Int64) (int_wrap w64 n) ≡ wrap_to (if u then UInt64 else Int64) n) [ true ↦ unsigned_again n | false ↦ int_wrap_fits w64 (int_wrap w64 n) (SFits-int_wrap w64 n) ]

-- a sum that was wrapped before one more number
unsigned_more : (a x : ℤ) → wrap_to UInt64 (wrap_to UInt64 a +ℤ x) ≡ wrap_to UInt64 (a +ℤ x)
unsigned_more a x =
    let before = wrapped_is UInt64 a in let after = wrapped_is UInt64 (wrap_to UInt64 a +ℤ x) in
    wrapped_only UInt64 (a +ℤ x) (wrap_to UInt64 (wrap_to UInt64 a +ℤ x)) (record { in_range = after.in_range; turns = after.turns +ℤ before.turns; congruent = omega (arith, ints, before.congruent, after.congruent) })

pub total_more : (t : DType) (a x : ℤ) → wrap_to (total_kind t) (wrap_to (total_kind t) a +ℤ x) ≡ wrap_to (total_kind t) (a +ℤ x)
total_more t a x =
    elim (is_unsigned t) as (λ u. let k : DType = if u then UInt64 else Int64 in wrap_to k (wrap_to k a +ℤ x) ≡ wrap_to k (a +ℤ x)) [ true ↦ unsigned_more a x | false ↦ int_wrap-add_left w64 a x ]

pub signed_add : (x y : ℤ) → int_wrap w64 (x +ℤ y) ≡ int_wrap w64 (int_wrap w64 x +ℤ int_wrap w64 y)
signed_add x y = sym (int_wrap-add_left w64 x y) ∙ sym (int_wrap-add_right w64 (int_wrap w64 x) y)

pub signed_multiply : (x y : ℤ) → int_wrap w64 (x *ℤ y) ≡ int_wrap w64 (int_wrap w64 x *ℤ int_wrap w64 y)
signed_multiply x y = sym (int_wrap-mul_left w64 x y) ∙ sym (int_wrap-mul_right w64 (int_wrap w64 x) y)

-- a sum that the code computed in 128 bits, as its kind leaves it
pub summed : {X : Type 0} (of : ℤ → X) (number : X → ℤ) (wraps : ℤ → ℤ) (law : (n : ℤ) → number (of n) ≡ wraps n) (x y a b : ℤ) (r : X) → x ≡ a → y ≡ b → SFits w128 x → SFits w128 y → SFits w128 (x +ℤ y)
    → r ≡ of (to_z w128 (of_z w128 (to_z w128 (of_z w128 x) +ℤ to_z w128 (of_z w128 y)))) → number r ≡ wraps (a +ℤ b)
summed of number wraps law x y a b r ea eb fx fy fr e =
    let inner : to_z w128 (of_z w128 x) +ℤ to_z w128 (of_z w128 y) ≡ x +ℤ y = (λ i. to_z-of_z w128 x fx i +ℤ to_z-of_z w128 y fy i) in
    ap number e ∙ ap (λ n. number (of (to_z w128 (of_z w128 n)))) inner ∙ ap (λ n. number (of n)) (to_z-of_z w128 (x +ℤ y) fr) ∙ law (x +ℤ y) ∙ (λ i. wraps (ea i +ℤ eb i))

-- the sum of a number of one kind and one of another has 128 bits
sum_small : (x y : ℤ) → negsuc 9223372036854775807 ≤ℤ x → x ≤ℤ pos 18446744073709551615 → negsuc 9223372036854775807 ≤ℤ y → y ≤ℤ pos 18446744073709551615 → SFits w128 (x +ℤ y)
sum_small x y a b c d = record { sfits = grind (arith, ints) }

pub sum_fits : (s t : DType) (x y : ℤ) → InRange s x → InRange t y → SFits w128 (x +ℤ y)
sum_fits s t x y a b =
    let from = low_bound s in let to = high_bound s in let first = low_bound t in let last = high_bound t in
    sum_small x y (omega (arith, ints, a.0)) (omega (arith, ints, a.1)) (omega (arith, ints, b.0)) (omega (arith, ints, b.1))

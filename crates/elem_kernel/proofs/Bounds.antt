-- The numbers of each kind lie between the least of the widest signed one and the greatest of the widest one without a sign.
use Rattle.std.proofs.Common.{◌≡◌, ◌%◌, ℤ, pos, negsuc, neg_ℤ, ◌-ℤ◌, ◌*ℤ◌, ◌<ℤ◌, ◌≤ℤ◌, ◌<◌, ℕ, zero, suc, refl, sym, ap, ◌∙◌, arith, to_z, of_z}
use Rattle.std.specs.Int.{int_rem_euclid}
use Rattle.xr_arrays.specs.Elements.{floor_quotient, unless_zero}
use Rattle.std.proofs.lemmas.Int.{ints, to_z-of_z}
use lib.Signed.{lt_z}
use Rattle.std.specs.Prelude.{true, false}
use mir.Val.{SFits}
use mir.Syntax.{w128}
use Rattle.xr_types.specs.Kinds.{low, high, InRange, wrap_to}
use Rattle.xr_types.specs.Cells.{again_char, again_int8, again_int16, again_int32, again_int64, again_uint16, again_uint32, again_uint64}
use Rattle.xr_types.specs.declared.kind.DType.{DType}
use Rattle.xr_types.specs.declared.kind.DType.TheVariants.{Bool, Char, Int8, Int16, Int32, Int64, UInt8, UInt16, UInt32, UInt64}

pub low_bound : (t : DType) → negsuc 9223372036854775807 ≤ℤ low t
low_bound Bool = omega (arith, ints)
low_bound Char = omega (arith, ints)
low_bound Int8 = omega (arith, ints)
low_bound Int16 = omega (arith, ints)
low_bound Int32 = omega (arith, ints)
low_bound Int64 = omega (arith, ints)
low_bound UInt8 = omega (arith, ints)
low_bound UInt16 = omega (arith, ints)
low_bound UInt32 = omega (arith, ints)
low_bound UInt64 = omega (arith, ints)

pub high_bound : (t : DType) → high t ≤ℤ pos 18446744073709551615
high_bound Bool = omega (arith, ints)
high_bound Char = omega (arith, ints)
high_bound Int8 = omega (arith, ints)
high_bound Int16 = omega (arith, ints)
high_bound Int32 = omega (arith, ints)
high_bound Int64 = omega (arith, ints)
high_bound UInt8 = omega (arith, ints)
high_bound UInt16 = omega (arith, ints)
high_bound UInt32 = omega (arith, ints)
high_bound UInt64 = omega (arith, ints)

pub ruleset kind_bounds = (low_bound, high_bound)

-- a kind with negative numbers has none above those of the widest one with a sign
pub signed_high : (t : DType) → low t <ℤ pos 0 → high t ≤ℤ pos 9223372036854775807
signed_high Bool less = absurd (omega (arith, ints))
signed_high Char less = absurd (omega (arith, ints))
signed_high Int8 less = omega (arith, ints)
signed_high Int16 less = omega (arith, ints)
signed_high Int32 less = omega (arith, ints)
signed_high Int64 less = omega (arith, ints)
signed_high UInt8 less = absurd (omega (arith, ints))
signed_high UInt16 less = absurd (omega (arith, ints))
signed_high UInt32 less = absurd (omega (arith, ints))
signed_high UInt64 less = absurd (omega (arith, ints))

pub ruleset kind_signs = (low_bound, high_bound, signed_high)

-- what a kind leaves of a result that the code computed in 128 bits
pub wrapped : {X : Type 0} (of : ℤ → X) (number : X → ℤ) (wraps : ℤ → ℤ) (law : (n : ℤ) → number (of n) ≡ wraps n) (f : ℤ → ℤ → ℤ) (x y a b : ℤ) (r : X) → x ≡ a → y ≡ b → SFits w128 x → SFits w128 y → SFits w128 (f x y)
    → r ≡ of (to_z w128 (of_z w128 (f (to_z w128 (of_z w128 x)) (to_z w128 (of_z w128 y))))) → number r ≡ wraps (f a b)
wrapped of number wraps law f x y a b r ea eb fx fy fr e =
    let inner : f (to_z w128 (of_z w128 x)) (to_z w128 (of_z w128 y)) ≡ f x y = (λ i. f (to_z-of_z w128 x fx i) (to_z-of_z w128 y fy i)) in
    ap number e ∙ ap (λ n. number (of (to_z w128 (of_z w128 n)))) inner ∙ ap (λ n. number (of n)) (to_z-of_z w128 (f x y) fr) ∙ law (f x y) ∙ (λ i. wraps (f (ea i) (eb i)))

-- the rest by a positive divisor, and by a negative one, where both signs are turned
pub floor_rest_up : (x : ℤ) (b : ℕ) → 0 < b → int_rem_euclid x (pos b) ≡ x -ℤ pos b *ℤ floor_quotient x (pos b)
floor_rest_up (pos a) b some = omega (arith, ints)
floor_rest_up (negsuc a) b some = omega (arith, ints)

pub floor_rest_down : (x : ℤ) (b : ℕ) → neg_ℤ (int_rem_euclid (neg_ℤ x) (pos (suc b))) ≡ x -ℤ negsuc b *ℤ floor_quotient x (negsuc b)
floor_rest_down (pos zero) b = omega (arith, ints)
floor_rest_down (pos (suc a)) b = omega (arith, ints)
floor_rest_down (negsuc a) b = omega (arith, ints)

pub rest_turned : (x y : ℤ) → y <ℤ pos 0 → neg_ℤ (int_rem_euclid (neg_ℤ x) (neg_ℤ y)) ≡ x -ℤ y *ℤ floor_quotient x y
rest_turned x (pos b) lt = absurd (omega (arith, ints))
rest_turned x (negsuc b) lt = floor_rest_down x b

differ : true ≡ false → ⊥
differ e = cc

pub negative : (y : ℤ) → lt_z (pos 0) y ≡ false → (y ≡ pos 0 → ⊥) → y <ℤ pos 0
negative (pos zero) e some = absurd (some refl)
negative (pos (suc b)) e some = let h : lt_z (pos 0) (pos (suc b)) ≡ true = grind (arith, ints) in absurd (differ (sym h ∙ e))
negative (negsuc b) e some = omega (arith, ints)

pub ruleset floor_rest = (floor_rest_up, floor_rest_down)

-- the same of one number
pub wrapped_one : {X : Type 0} (of : ℤ → X) (number : X → ℤ) (wraps : ℤ → ℤ) (law : (n : ℤ) → number (of n) ≡ wraps n) (n m : ℤ) (r : X) → SFits w128 n → n ≡ m → r ≡ of (to_z w128 (of_z w128 n)) → number r ≡ wraps m
wrapped_one of number wraps law n m r fits is e = ap number e ∙ ap (λ k. number (of k)) (to_z-of_z w128 n fits) ∙ law n ∙ ap wraps is

-- ---- what a quotient leaves

-- a kind leaves its numbers as they are
pub stays : (t : DType) (n : ℤ) → InRange t n → wrap_to t n ≡ n
stays Bool (pos n) range = let lo = range.0 in let hi = range.1 in let small : n < 2 = omega (arith, ints) in let is : n % 2 ≡ n = omega arith in ap pos is
stays Bool (negsuc n) range = let lo = range.0 in absurd (omega (arith, ints))
stays Char (pos n) range = ap pos (again_char n range.0 range.1)
stays Char (negsuc n) range = let lo = range.0 in absurd (omega (arith, ints))
stays Int8 n range = again_int8 n range.0 range.1
stays Int16 n range = again_int16 n range.0 range.1
stays Int32 n range = again_int32 n range.0 range.1
stays Int64 n range = again_int64 n range.0 range.1
stays UInt8 (pos n) range = ap pos (again_char n range.0 range.1)
stays UInt8 (negsuc n) range = let lo = range.0 in absurd (omega (arith, ints))
stays UInt16 (pos n) range = ap pos (again_uint16 n range.0 range.1)
stays UInt16 (negsuc n) range = let lo = range.0 in absurd (omega (arith, ints))
stays UInt32 (pos n) range = ap pos (again_uint32 n range.0 range.1)
stays UInt32 (negsuc n) range = let lo = range.0 in absurd (omega (arith, ints))
stays UInt64 (pos n) range = ap pos (again_uint64 n range.0 range.1)
stays UInt64 (negsuc n) range = let lo = range.0 in absurd (omega (arith, ints))

pub low_zero : (t : DType) → low t ≤ℤ pos 0
low_zero Bool = omega (arith, ints)
low_zero Char = omega (arith, ints)
low_zero Int8 = omega (arith, ints)
low_zero Int16 = omega (arith, ints)
low_zero Int32 = omega (arith, ints)
low_zero Int64 = omega (arith, ints)
low_zero UInt8 = omega (arith, ints)
low_zero UInt16 = omega (arith, ints)
low_zero UInt32 = omega (arith, ints)
low_zero UInt64 = omega (arith, ints)

pub high_zero : (t : DType) → pos 0 ≤ℤ high t
high_zero Bool = omega (arith, ints)
high_zero Char = omega (arith, ints)
high_zero Int8 = omega (arith, ints)
high_zero Int16 = omega (arith, ints)
high_zero Int32 = omega (arith, ints)
high_zero Int64 = omega (arith, ints)
high_zero UInt8 = omega (arith, ints)
high_zero UInt16 = omega (arith, ints)
high_zero UInt32 = omega (arith, ints)
high_zero UInt64 = omega (arith, ints)

-- the rest by a positive divisor lies from 0 up to it, and by a negative one from it up to 0
rest_up_from : (x : ℤ) (b : ℕ) → pos 0 ≤ℤ (x -ℤ pos (suc b) *ℤ floor_quotient x (pos (suc b)))
rest_up_from (pos a) b = omega (arith, ints)
rest_up_from (negsuc a) b = omega (arith, ints)

rest_up_to : (x : ℤ) (b : ℕ) → (x -ℤ pos (suc b) *ℤ floor_quotient x (pos (suc b))) ≤ℤ pos b
rest_up_to (pos a) b = omega (arith, ints)
rest_up_to (negsuc a) b = omega (arith, ints)

rest_down_from : (x : ℤ) (b : ℕ) → negsuc b ≤ℤ (x -ℤ negsuc b *ℤ floor_quotient x (negsuc b))
rest_down_from (pos zero) b = omega (arith, ints)
rest_down_from (pos (suc a)) b = omega (arith, ints)
rest_down_from (negsuc a) b = omega (arith, ints)

rest_down_to : (x : ℤ) (b : ℕ) → (x -ℤ negsuc b *ℤ floor_quotient x (negsuc b)) ≤ℤ pos 0
rest_down_to (pos zero) b = omega (arith, ints)
rest_down_to (pos (suc a)) b = omega (arith, ints)
rest_down_to (negsuc a) b = omega (arith, ints)

between_up : (t : DType) (r : ℤ) (b : ℕ) → InRange t (pos (suc b)) → pos 0 ≤ℤ r → r ≤ℤ pos b → InRange t r
between_up t r b range lo up = let l = low_zero t in let hi = range.1 in (omega (arith, ints), omega (arith, ints))

between_down : (t : DType) (r : ℤ) (b : ℕ) → InRange t (negsuc b) → negsuc b ≤ℤ r → r ≤ℤ pos 0 → InRange t r
between_down t r b range lo up = let h = high_zero t in let dn = range.0 in (omega (arith, ints), omega (arith, ints))

-- a kind leaves the rest by one of its numbers as it is
pub rest_stays : (t : DType) (x y : ℤ) → InRange t y → wrap_to t (unless_zero y (x -ℤ y *ℤ floor_quotient x y)) ≡ unless_zero y (x -ℤ y *ℤ floor_quotient x y)
rest_stays t x (pos zero) range = stays t (pos 0) (low_zero t, high_zero t)
rest_stays t x (pos (suc b)) range = stays t (x -ℤ pos (suc b) *ℤ floor_quotient x (pos (suc b))) (between_up t _ b range (rest_up_from x b) (rest_up_to x b))
rest_stays t x (negsuc b) range = stays t (x -ℤ negsuc b *ℤ floor_quotient x (negsuc b)) (between_down t _ b range (rest_down_from x b) (rest_down_to x b))

-- what a kind leaves of a quotient that is 0 for a divisor of 0
pub quotient_left : (t : DType) (y q : ℤ) → wrap_to t (unless_zero y q) ≡ unless_zero y (wrap_to t q)
quotient_left t (pos zero) q = stays t (pos 0) (low_zero t, high_zero t)
quotient_left t (pos (suc b)) q = refl
quotient_left t (negsuc b) q = refl

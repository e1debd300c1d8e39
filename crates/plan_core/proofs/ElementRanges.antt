-- An operation on cells of a kind gives a cell of the result's kind.
use Rattle.std.proofs.Common.{◌≡◌, ◌<◌, ◌^◌, ◌%◌, ℕ, zero, suc, ℤ, pos, negsuc, ◌-ℤ◌, ◌*ℤ◌, ◌≤ℤ◌, Bool, true, false, Option, Some, None, unsigned_abs, ap, subst, arith}
use Rattle.std.specs.Prelude.{bit_and, bit_or, bit_xor}
use Rattle.std.specs.Int.{int_wrap, cast_signed, w8, w16, w32, w64}
use Rattle.std.proofs.lemmas.Int.{ints}
use Rattle.std.proofs.lemmas.Nat.{and_le_l, or_lt, xor_lt}
use Rattle.xr_types.specs.Kinds.{InRange, wrap_to}
use Rattle.xr_types.specs.declared.kind.DType.{DType}
use Rattle.xr_types.specs.declared.kind.DType.TheVariants as kinds
use Rattle.xr_types.specs.declared.operation.OpKind.{OpKind}
use Rattle.xr_types.specs.declared.operation.OpKind.TheVariants as ops
use Rattle.xr_types.proofs.Wrapping.{wrapped_is}
use Rattle.xr_arrays.specs.Arrays.{IsCell}
use Rattle.xr_arrays.specs.Elements.{floor_quotient, unless_zero, flag, bits_of, of_bits, bitwise, cast_to, lifted, filled, elem, result_kind, takes_two}
use Rattle.plan_core.proofs.Arrangements.{zero_in}

pub wrap_in : (t : DType) (n : ℤ) → InRange t (wrap_to t n)
wrap_in t n = (wrapped_is t n).in_range

pub flag_in : (b : Bool) → InRange kinds.Bool (flag b)
flag_in true = (omega (arith, ints), omega (arith, ints))
flag_in false = (omega (arith, ints), omega (arith, ints))

lifted_in : (t u : DType) (f : ℤ → ℤ → ℤ) → ((m n : ℤ) → InRange t m → InRange t n → InRange u (f m n)) → (x y : Option ℤ) → IsCell t x → IsCell t y → IsCell u (lifted f x y)
lifted_in t u f h (Some x) (Some y) i j = h x y i j
lifted_in t u f h (Some x) None i j = tt
lifted_in t u f h None y i j = tt

-- ---- quotients and rests

quotient_in : (t : DType) (y q : ℤ) → InRange t (unless_zero y (wrap_to t q))
quotient_in t (pos zero) q = zero_in t
quotient_in t (pos (suc b)) q = wrap_in t q
quotient_in t (negsuc b) q = wrap_in t q

-- the rest by a positive divisor lies from 0 up to it, and by a negative one from it up to 0
rest_up_from : (x : ℤ) (b : ℕ) → pos 0 ≤ℤ (x -ℤ pos (suc b) *ℤ floor_quotient x (pos (suc b)))
rest_up_from (pos a) b = omega (arith, ints)
rest_up_from (negsuc a) b = omega (arith, ints)

rest_up_to : (x : ℤ) (b : ℕ) → (x -ℤ pos (suc b) *ℤ floor_quotient x (pos (suc b))) ≤ℤ pos b
rest_up_to (pos a) b = omega (arith, ints)
rest_up_to (negsuc a) b = omega (arith, ints)

rest_down_from : (x : ℤ) (b : ℕ) → negsuc b ≤ℤ (x -ℤ negsuc b *ℤ floor_quotient x (negsuc b))
rest_down_from (pos zero) b = omega (arith, ints)
rest_down_from (pos (suc a)) b = omega (arith, ints)
rest_down_from (negsuc a) b = omega (arith, ints)

rest_down_to : (x : ℤ) (b : ℕ) → (x -ℤ negsuc b *ℤ floor_quotient x (negsuc b)) ≤ℤ pos 0
rest_down_to (pos zero) b = omega (arith, ints)
rest_down_to (pos (suc a)) b = omega (arith, ints)
rest_down_to (negsuc a) b = omega (arith, ints)

between_up : (t : DType) (r : ℤ) (b : ℕ) → InRange t (pos (suc b)) → pos 0 ≤ℤ r → r ≤ℤ pos b → InRange t r
between_up t r b range lo up = let l = (zero_in t).0 in let hi = range.1 in (omega (arith, ints), omega (arith, ints))

between_down : (t : DType) (r : ℤ) (b : ℕ) → InRange t (negsuc b) → negsuc b ≤ℤ r → r ≤ℤ pos 0 → InRange t r
between_down t r b range lo up = let h = (zero_in t).1 in let dn = range.0 in (omega (arith, ints), omega (arith, ints))

rest_in : (t : DType) (x y : ℤ) → InRange t y → InRange t (unless_zero y (x -ℤ y *ℤ floor_quotient x y))
rest_in t x (pos zero) h = zero_in t
rest_in t x (pos (suc b)) h = between_up t _ b h (rest_up_from x b) (rest_up_to x b)
rest_in t x (negsuc b) h = between_down t _ b h (rest_down_from x b) (rest_down_to x b)

-- ---- bits

-- how many bits a kind's numbers have
abbrev width : DType → ℕ
width kinds.Bool = 1
width kinds.Char = 8
width kinds.Int8 = 8
width kinds.Int16 = 16
width kinds.Int32 = 32
width kinds.Int64 = 64
width kinds.UInt8 = 8
width kinds.UInt16 = 16
width kinds.UInt32 = 32
width kinds.UInt64 = 64

natural_small : (n : ℤ) (b : ℕ) → pos 0 ≤ℤ n → n ≤ℤ pos b → unsigned_abs n < suc b
natural_small (pos n) b lo hi = omega (arith, ints, hi)
natural_small (negsuc n) b lo hi = absurd (omega (arith, ints, lo))

bits_small : (t : DType) (n : ℤ) → InRange t n → bits_of t n < 2 ^ width t
bits_small kinds.Bool n h = natural_small n 1 h.0 h.1
bits_small kinds.Char n h = natural_small n 255 h.0 h.1
bits_small kinds.Int8 n h = omega (arith, ints, h)
bits_small kinds.Int16 n h = omega (arith, ints, h)
bits_small kinds.Int32 n h = omega (arith, ints, h)
bits_small kinds.Int64 n h = omega (arith, ints, h)
bits_small kinds.UInt8 n h = natural_small n 255 h.0 h.1
bits_small kinds.UInt16 n h = natural_small n 65535 h.0 h.1
bits_small kinds.UInt32 n h = natural_small n 4294967295 h.0 h.1
bits_small kinds.UInt64 n h = natural_small n 18446744073709551615 h.0 h.1

signed_8 : (m : ℕ) → m < 2 ^ 8 → int_wrap w8 (pos m) ≡ cast_signed w8 m
unfolding int_wrap
signed_8 m lt = let small : m % 256 ≡ m = omega arith in ap (cast_signed w8) small

signed_16 : (m : ℕ) → m < 2 ^ 16 → int_wrap w16 (pos m) ≡ cast_signed w16 m
unfolding int_wrap
signed_16 m lt = let small : m % 65536 ≡ m = omega arith in ap (cast_signed w16) small

signed_32 : (m : ℕ) → m < 2 ^ 32 → int_wrap w32 (pos m) ≡ cast_signed w32 m
unfolding int_wrap
signed_32 m lt = let small : m % 4294967296 ≡ m = omega arith in ap (cast_signed w32) small

signed_64 : (m : ℕ) → m < 2 ^ 64 → int_wrap w64 (pos m) ≡ cast_signed w64 m
unfolding int_wrap
signed_64 m lt = let small : m % 18446744073709551616 ≡ m = omega arith in ap (cast_signed w64) small

number_in : (t : DType) (m : ℕ) → m < 2 ^ width t → InRange t (of_bits t m)
number_in kinds.Bool m lt = (omega (arith, ints), omega (arith, ints, lt))
number_in kinds.Char m lt = (omega (arith, ints), omega (arith, ints, lt))
number_in kinds.Int8 m lt = subst (InRange kinds.Int8) (signed_8 m lt) (wrap_in kinds.Int8 (pos m))
number_in kinds.Int16 m lt = subst (InRange kinds.Int16) (signed_16 m lt) (wrap_in kinds.Int16 (pos m))
number_in kinds.Int32 m lt = subst (InRange kinds.Int32) (signed_32 m lt) (wrap_in kinds.Int32 (pos m))
number_in kinds.Int64 m lt = subst (InRange kinds.Int64) (signed_64 m lt) (wrap_in kinds.Int64 (pos m))
number_in kinds.UInt8 m lt = (omega (arith, ints), omega (arith, ints, lt))
number_in kinds.UInt16 m lt = (omega (arith, ints), omega (arith, ints, lt))
number_in kinds.UInt32 m lt = (omega (arith, ints), omega (arith, ints, lt))
number_in kinds.UInt64 m lt = (omega (arith, ints), omega (arith, ints, lt))

bitwise_in : (t : DType) (f : ℕ → ℕ → ℕ) → ((a b : ℕ) → a < 2 ^ width t → b < 2 ^ width t → f a b < 2 ^ width t) → (m n : ℤ) → InRange t m → InRange t n → InRange t (bitwise f t m n)
bitwise_in t f closed m n i j = number_in t (f (bits_of t m) (bits_of t n)) (closed (bits_of t m) (bits_of t n) (bits_small t m i) (bits_small t n j))

and_closed : (k a b : ℕ) → a < 2 ^ k → b < 2 ^ k → bit_and a b < 2 ^ k
and_closed k a b i j = let le = and_le_l a b in omega (arith, le, i)

-- ---- operations

filled_in : (t : DType) (x y : Option ℤ) → IsCell t x → IsCell t y → IsCell t (filled x y)
filled_in t (Some x) y i j = i
filled_in t None y i j = j

-- of two operands
pub two_in : (op : OpKind) (t : DType) (x y : Option ℤ) → takes_two op ≡ true → IsCell t x → IsCell t y → IsCell (result_kind op t) (elem op t x y)
two_in ops.Add t x y e i j = lifted_in t t _ (λ m n p q. wrap_in t _) x y i j
two_in ops.Subtract t x y e i j = lifted_in t t _ (λ m n p q. wrap_in t _) x y i j
two_in ops.Multiply t x y e i j = lifted_in t t _ (λ m n p q. wrap_in t _) x y i j
two_in ops.FloorDivide t x y e i j = lifted_in t t _ (λ m n p q. quotient_in t n (floor_quotient m n)) x y i j
two_in ops.Remainder t x y e i j = lifted_in t t _ (λ m n p q. rest_in t m n q) x y i j
two_in ops.Divide t x y e i j = absurd cc
two_in ops.And t x y e i j = lifted_in t t _ (bitwise_in t bit_and (and_closed (width t))) x y i j
two_in ops.Or t x y e i j = lifted_in t t _ (bitwise_in t bit_or (or_lt (width t))) x y i j
two_in ops.Xor t x y e i j = lifted_in t t _ (bitwise_in t bit_xor (xor_lt (width t))) x y i j
two_in ops.Equal t x y e i j = lifted_in t kinds.Bool _ (λ m n p q. flag_in _) x y i j
two_in ops.NotEqual t x y e i j = lifted_in t kinds.Bool _ (λ m n p q. flag_in _) x y i j
two_in ops.Less t x y e i j = lifted_in t kinds.Bool _ (λ m n p q. flag_in _) x y i j
two_in ops.LessEqual t x y e i j = lifted_in t kinds.Bool _ (λ m n p q. flag_in _) x y i j
two_in ops.Greater t x y e i j = lifted_in t kinds.Bool _ (λ m n p q. flag_in _) x y i j
two_in ops.GreaterEqual t x y e i j = lifted_in t kinds.Bool _ (λ m n p q. flag_in _) x y i j
two_in ops.Negate t x y e i j = absurd cc
two_in ops.Invert t x y e i j = absurd cc
two_in ops.IsNull t x y e i j = absurd cc
two_in ops.NotNull t x y e i j = absurd cc
two_in ops.FillNa t x y e i j = filled_in t x y i j
two_in ops.Cast t x y e i j = absurd cc

-- unary minus and `~`
pub negated_in : (t : DType) (x : Option ℤ) → IsCell t (elem ops.Negate t x None)
negated_in t None = tt
negated_in t (Some n) = wrap_in t _

pub inverted_in : (t : DType) (x : Option ℤ) → IsCell t (elem ops.Invert t x None)
inverted_in t None = tt
inverted_in t (Some n) = wrap_in t _

number_cast : (t : DType) (n : ℤ) → InRange t (cast_to t n)
number_cast kinds.Bool n = flag_in _
number_cast kinds.Char n = wrap_in kinds.Char n
number_cast kinds.Int8 n = wrap_in kinds.Int8 n
number_cast kinds.Int16 n = wrap_in kinds.Int16 n
number_cast kinds.Int32 n = wrap_in kinds.Int32 n
number_cast kinds.Int64 n = wrap_in kinds.Int64 n
number_cast kinds.UInt8 n = wrap_in kinds.UInt8 n
number_cast kinds.UInt16 n = wrap_in kinds.UInt16 n
number_cast kinds.UInt32 n = wrap_in kinds.UInt32 n
number_cast kinds.UInt64 n = wrap_in kinds.UInt64 n

pub cast_in : (t : DType) (x : Option ℤ) → IsCell t (elem ops.Cast t x None)
cast_in t None = tt
cast_in t (Some n) = number_cast t n

-- An operation on cells of a kind gives a cell of the kind of its result.
use Rattle.std.proofs.Common.{◌≡◌, ◌<◌, ◌^◌, ◌≤ℤ◌, ◌-ℤ◌, ◌*ℤ◌, neg_ℤ, ◌+ℤ◌, ℕ, zero, suc, ℤ, pos, negsuc, Bool, true, false, not, ◌&&◌, Option, Some, None, int_le, int_lt, bit_and, bit_or, bit_xor, arith, sym, subst}
use Rattle.std.specs.Prelude.{is_some}
use Rattle.std.specs.Int.Bits.{and_lt}
use Rattle.std.proofs.lemmas.Int.{ints}
use Rattle.std.proofs.lemmas.Nat.{or_lt, xor_lt}
use Rattle.xr_types.specs.Kinds.{InRange, wrap_to}
use Rattle.xr_types.specs.declared.kind.DType.{DType}
use Rattle.xr_types.specs.declared.kind.DType.TheVariants as kinds
use Rattle.xr_types.proofs.Wrapping.{wrapped_is}
use Rattle.xr_types.specs.declared.operation.OpKind.{OpKind}
use Rattle.xr_types.specs.declared.operation.OpKind.TheVariants as ops
use Rattle.xr_arrays.specs.Arrays.{IsCell}
use Rattle.xr_arrays.specs.Elements.{floor_quotient, unless_zero, flag, bits_of, of_bits, bitwise, cast_to, lifted, filled, elem, choose, takes_one, takes_two, result_kind, unary_kind, Gives}

-- 0 is a number of each kind
zero_in : (t : DType) → InRange t (pos 0)
zero_in kinds.Bool = (omega (arith, ints), omega (arith, ints))
zero_in kinds.Char = (omega (arith, ints), omega (arith, ints))
zero_in kinds.Int8 = (omega (arith, ints), omega (arith, ints))
zero_in kinds.Int16 = (omega (arith, ints), omega (arith, ints))
zero_in kinds.Int32 = (omega (arith, ints), omega (arith, ints))
zero_in kinds.Int64 = (omega (arith, ints), omega (arith, ints))
zero_in kinds.UInt8 = (omega (arith, ints), omega (arith, ints))
zero_in kinds.UInt16 = (omega (arith, ints), omega (arith, ints))
zero_in kinds.UInt32 = (omega (arith, ints), omega (arith, ints))
zero_in kinds.UInt64 = (omega (arith, ints), omega (arith, ints))

flag_in : (b : Bool) → InRange kinds.Bool (flag b)
flag_in true = (omega (arith, ints), omega (arith, ints))
flag_in false = (omega (arith, ints), omega (arith, ints))

wrap_in : (t : DType) (n : ℤ) → InRange t (wrap_to t n)
wrap_in t n = (wrapped_is t n).in_range

-- ---- quotients and rests

quotient_in : (t : DType) (y n : ℤ) → InRange t n → InRange t (unless_zero y n)
quotient_in t (pos zero) n h = zero_in t
quotient_in t (pos (suc b)) n h = h
quotient_in t (negsuc b) n h = h

-- the rest by a positive divisor lies from 0 up to it, and by a negative one from it up to 0
rest_up_from : (x : ℤ) (b : ℕ) → pos 0 ≤ℤ (x -ℤ pos (suc b) *ℤ floor_quotient x (pos (suc b)))
rest_up_from (pos a) b = omega (arith, ints)
rest_up_from (negsuc a) b = omega (arith, ints)

rest_up_to : (x : ℤ) (b : ℕ) → (x -ℤ pos (suc b) *ℤ floor_quotient x (pos (suc b))) ≤ℤ pos b
rest_up_to (pos a) b = omega (arith, ints)
rest_up_to (negsuc a) b = omega (arith, ints)

rest_down_from : (x : ℤ) (b : ℕ) → negsuc b ≤ℤ (x -ℤ negsuc b *ℤ floor_quotient x (negsuc b))
rest_down_from (pos zero) b = omega (arith, ints)
rest_down_from (pos (suc a)) b = omega (arith, ints)
rest_down_from (negsuc a) b = omega (arith, ints)

rest_down_to : (x : ℤ) (b : ℕ) → (x -ℤ negsuc b *ℤ floor_quotient x (negsuc b)) ≤ℤ pos 0
rest_down_to (pos zero) b = omega (arith, ints)
rest_down_to (pos (suc a)) b = omega (arith, ints)
rest_down_to (negsuc a) b = omega (arith, ints)

between_up : (t : DType) (r : ℤ) (b : ℕ) → InRange t (pos (suc b)) → pos 0 ≤ℤ r → r ≤ℤ pos b → InRange t r
between_up t r b range lo up = let z = (zero_in t).0 in let hi = range.1 in (omega (arith, ints), omega (arith, ints))

between_down : (t : DType) (r : ℤ) (b : ℕ) → InRange t (negsuc b) → negsuc b ≤ℤ r → r ≤ℤ pos 0 → InRange t r
between_down t r b range lo up = let z = (zero_in t).1 in let dn = range.0 in (omega (arith, ints), omega (arith, ints))

rest_in : (t : DType) (x y : ℤ) → InRange t y → InRange t (unless_zero y (x -ℤ y *ℤ floor_quotient x y))
rest_in t x (pos zero) h = zero_in t
rest_in t x (pos (suc b)) h = between_up t _ b h (rest_up_from x b) (rest_up_to x b)
rest_in t x (negsuc b) h = between_down t _ b h (rest_down_from x b) (rest_down_to x b)

-- ---- bits

abbrev bit_count : DType → ℕ
bit_count kinds.Bool = 1
bit_count kinds.Char = 8
bit_count kinds.Int8 = 8
bit_count kinds.Int16 = 16
bit_count kinds.Int32 = 32
bit_count kinds.Int64 = 64
bit_count kinds.UInt8 = 8
bit_count kinds.UInt16 = 16
bit_count kinds.UInt32 = 32
bit_count kinds.UInt64 = 64

few_bits : (t : DType) (n : ℤ) → InRange t n → bits_of t n < 2 ^ bit_count t
few_bits kinds.Bool n h = omega (arith, ints, h.0, h.1)
few_bits kinds.Char n h = omega (arith, ints, h.0, h.1)
few_bits kinds.Int8 n h = omega (arith, ints, h.0, h.1)
few_bits kinds.Int16 n h = omega (arith, ints, h.0, h.1)
few_bits kinds.Int32 n h = omega (arith, ints, h.0, h.1)
few_bits kinds.Int64 n h = omega (arith, ints, h.0, h.1)
few_bits kinds.UInt8 n h = omega (arith, ints, h.0, h.1)
few_bits kinds.UInt16 n h = omega (arith, ints, h.0, h.1)
few_bits kinds.UInt32 n h = omega (arith, ints, h.0, h.1)
few_bits kinds.UInt64 n h = omega (arith, ints, h.0, h.1)

bits_in : (t : DType) (k : ℕ) → k < 2 ^ bit_count t → InRange t (of_bits t k)
bits_in kinds.Bool k h = (omega (arith, ints, h), omega (arith, ints, h))
bits_in kinds.Char k h = (omega (arith, ints, h), omega (arith, ints, h))
bits_in kinds.Int8 k h = (omega (arith, ints, h), omega (arith, ints, h))
bits_in kinds.Int16 k h = (omega (arith, ints, h), omega (arith, ints, h))
bits_in kinds.Int32 k h = (omega (arith, ints, h), omega (arith, ints, h))
bits_in kinds.Int64 k h = (omega (arith, ints, h), omega (arith, ints, h))
bits_in kinds.UInt8 k h = (omega (arith, ints, h), omega (arith, ints, h))
bits_in kinds.UInt16 k h = (omega (arith, ints, h), omega (arith, ints, h))
bits_in kinds.UInt32 k h = (omega (arith, ints, h), omega (arith, ints, h))
bits_in kinds.UInt64 k h = (omega (arith, ints, h), omega (arith, ints, h))

bitwise_in : (f : ℕ → ℕ → ℕ) → ((k a b : ℕ) → a < 2 ^ k → b < 2 ^ k → f a b < 2 ^ k) → (t : DType) (x y : ℤ) → InRange t x → InRange t y → InRange t (bitwise f t x y)
bitwise_in f closed t x y h i = bits_in t (f (bits_of t x) (bits_of t y)) (closed (bit_count t) (bits_of t x) (bits_of t y) (few_bits t x h) (few_bits t y i))

-- ---- cells

lifted_in : (t u : DType) (f : ℤ → ℤ → ℤ) → ((x y : ℤ) → InRange t x → InRange t y → InRange u (f x y)) → (x y : Option ℤ) → IsCell t x → IsCell t y → IsCell u (lifted f x y)
lifted_in t u f closed (Some x) (Some y) h i = closed x y h i
lifted_in t u f closed (Some x) None h i = tt
lifted_in t u f closed None y h i = tt

filled_in : (t : DType) (x y : Option ℤ) → IsCell t x → IsCell t y → IsCell t (filled x y)
filled_in t (Some x) y h i = h
filled_in t None y h i = i

cast_in : (t : DType) (n : ℤ) → InRange t (cast_to t n)
cast_in kinds.Bool n = flag_in (not (int_le n (pos 0) && int_le (pos 0) n))
cast_in kinds.Char n = wrap_in kinds.Char n
cast_in kinds.Int8 n = wrap_in kinds.Int8 n
cast_in kinds.Int16 n = wrap_in kinds.Int16 n
cast_in kinds.Int32 n = wrap_in kinds.Int32 n
cast_in kinds.Int64 n = wrap_in kinds.Int64 n
cast_in kinds.UInt8 n = wrap_in kinds.UInt8 n
cast_in kinds.UInt16 n = wrap_in kinds.UInt16 n
cast_in kinds.UInt32 n = wrap_in kinds.UInt32 n
cast_in kinds.UInt64 n = wrap_in kinds.UInt64 n

compared_in : (t : DType) (test : ℤ → ℤ → Bool) (x y : Option ℤ) → IsCell t x → IsCell t y → IsCell kinds.Bool (lifted (λ m n. flag (test m n)) x y)
compared_in t test x y h i = lifted_in t kinds.Bool (λ m n. flag (test m n)) (λ m n g j. flag_in (test m n)) x y h i

wrapped_in : (t : DType) (f : ℤ → ℤ → ℤ) (x y : Option ℤ) → IsCell t x → IsCell t y → IsCell t (lifted (λ m n. wrap_to t (f m n)) x y)
wrapped_in t f x y h i = lifted_in t t (λ m n. wrap_to t (f m n)) (λ m n g j. wrap_in t (f m n)) x y h i

-- of two operands of a kind
pub elem_of_two : (op : OpKind) (t : DType) (x y : Option ℤ) → takes_two op ≡ true → IsCell t x → IsCell t y → IsCell (result_kind op t) (elem op t x y)
elem_of_two ops.Add t x y two h i = wrapped_in t ◌+ℤ◌ x y h i
elem_of_two ops.Subtract t x y two h i = wrapped_in t ◌-ℤ◌ x y h i
elem_of_two ops.Multiply t x y two h i = wrapped_in t ◌*ℤ◌ x y h i
elem_of_two ops.FloorDivide t x y two h i = lifted_in t t (λ m n. unless_zero n (wrap_to t (floor_quotient m n))) (λ m n g j. quotient_in t n _ (wrap_in t (floor_quotient m n))) x y h i
elem_of_two ops.Remainder t x y two h i = lifted_in t t (λ m n. unless_zero n (m -ℤ n *ℤ floor_quotient m n)) (λ m n g j. rest_in t m n j) x y h i
elem_of_two ops.Divide t x y two h i = tt
elem_of_two ops.And t x y two h i = lifted_in t t (bitwise bit_and t) (bitwise_in bit_and and_lt t) x y h i
elem_of_two ops.Or t x y two h i = lifted_in t t (bitwise bit_or t) (bitwise_in bit_or or_lt t) x y h i
elem_of_two ops.Xor t x y two h i = lifted_in t t (bitwise bit_xor t) (bitwise_in bit_xor xor_lt t) x y h i
elem_of_two ops.Equal t x y two h i = compared_in t (λ m n. int_le m n && int_le n m) x y h i
elem_of_two ops.NotEqual t x y two h i = compared_in t (λ m n. not (int_le m n && int_le n m)) x y h i
elem_of_two ops.Less t x y two h i = compared_in t int_lt x y h i
elem_of_two ops.LessEqual t x y two h i = compared_in t int_le x y h i
elem_of_two ops.Greater t x y two h i = compared_in t (λ m n. int_lt n m) x y h i
elem_of_two ops.GreaterEqual t x y two h i = compared_in t (λ m n. int_le n m) x y h i
elem_of_two ops.Negate t x y two h i = absurd cc
elem_of_two ops.Invert t x y two h i = absurd cc
elem_of_two ops.IsNull t x y two h i = absurd cc
elem_of_two ops.NotNull t x y two h i = absurd cc
elem_of_two ops.FillNa t x y two h i = filled_in t x y h i
elem_of_two ops.Cast t x y two h i = absurd cc

-- of one operand
pub elem_of_one : (op : OpKind) (kind t : DType) (x : Option ℤ) → takes_one op ≡ true → Gives op kind t → IsCell kind (elem op (unary_kind op kind t) x None)
elem_of_one ops.Add kind t x one is = absurd cc
elem_of_one ops.Subtract kind t x one is = absurd cc
elem_of_one ops.Multiply kind t x one is = absurd cc
elem_of_one ops.FloorDivide kind t x one is = absurd cc
elem_of_one ops.Remainder kind t x one is = absurd cc
elem_of_one ops.Divide kind t x one is = tt
elem_of_one ops.And kind t x one is = absurd cc
elem_of_one ops.Or kind t x one is = absurd cc
elem_of_one ops.Xor kind t x one is = absurd cc
elem_of_one ops.Equal kind t x one is = absurd cc
elem_of_one ops.NotEqual kind t x one is = absurd cc
elem_of_one ops.Less kind t x one is = absurd cc
elem_of_one ops.LessEqual kind t x one is = absurd cc
elem_of_one ops.Greater kind t x one is = absurd cc
elem_of_one ops.GreaterEqual kind t x one is = absurd cc
elem_of_one ops.Negate kind t None one is = tt
elem_of_one ops.Negate kind t (Some x) one is = subst (λ u. InRange u (wrap_to t (neg_ℤ x))) (sym is) (wrap_in t (neg_ℤ x))
elem_of_one ops.Invert kind t None one is = tt
elem_of_one ops.Invert kind t (Some x) one is = subst (λ u. InRange u (wrap_to t (negsuc 0 -ℤ x))) (sym is) (wrap_in t (negsuc 0 -ℤ x))
elem_of_one ops.IsNull kind t x one is = subst (λ u. InRange u (flag (not (is_some x)))) (sym is) (flag_in (not (is_some x)))
elem_of_one ops.NotNull kind t x one is = subst (λ u. InRange u (flag (is_some x))) (sym is) (flag_in (is_some x))
elem_of_one ops.FillNa kind t x one is = absurd cc
elem_of_one ops.Cast kind t None one is = tt
elem_of_one ops.Cast kind t (Some x) one is = cast_in kind x

pub choose_of_two : (t : DType) (c x y : Option ℤ) → IsCell t x → IsCell t y → IsCell t (choose c x y)
choose_of_two t None x y h i = tt
choose_of_two t (Some (pos zero)) x y h i = i
choose_of_two t (Some (pos (suc n))) x y h i = h
choose_of_two t (Some (negsuc n)) x y h i = h

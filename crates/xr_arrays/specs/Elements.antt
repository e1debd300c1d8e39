-- Operations on cells, each a number of a kind or missing, and on arrays cell by cell.
-- NumPy, "Universal functions (ufunc)" and "numpy.floor_divide", "numpy.remainder", "numpy.bitwise_and"; xarray, "isnull", "notnull", "fillna", "where", "astype".
use Rattle.std.specs.Prelude.{◌≡◌, ◌≢◌, if◌then◌else◌, ◌&&◌, ◌/◌, ℕ, zero, suc, Bool, true, false, not, ℤ, pos, negsuc, ◌+ℤ◌, ◌-ℤ◌, ◌*ℤ◌, neg_ℤ, Option, Some, None, option_map, is_some, ⊤, int_lt, int_le, bit_and, bit_or, bit_xor, unsigned_abs}
use Rattle.std.specs.Int.{cast_signed, cast_unsigned, w8, w16, w32, w64}
use Rattle.xr_types.specs.Kinds.{wrap_to}
use Rattle.xr_types.specs.declared.kind.DType.{DType}
use Rattle.xr_types.specs.declared.kind.DType.TheVariants as kinds
use Rattle.xr_arrays.specs.Arrays.{Array, at, made}
use Rattle.xr_types.specs.declared.operation.OpKind.{OpKind}
use Rattle.xr_types.specs.declared.operation.OpKind.TheVariants as ops

-- ---- numbers

-- the greatest whole number that isn't above x / y, for a y other than 0
abbrev pub floor_quotient : ℤ → ℤ → ℤ
floor_quotient (pos a) (pos b) = pos (a / b)
floor_quotient (pos zero) (negsuc b) = pos 0
floor_quotient (pos (suc a)) (negsuc b) = negsuc (a / suc b)
floor_quotient (negsuc a) (pos b) = negsuc (a / b)
floor_quotient (negsuc a) (negsuc b) = pos (suc a / suc b)

-- the value for a divisor other than 0, and 0 for a divisor of 0
abbrev pub unless_zero : ℤ → ℤ → ℤ
unless_zero (pos zero) n = pos 0
unless_zero (pos (suc b)) n = n
unless_zero (negsuc b) n = n

-- a test as a truth value
abbrev pub flag : Bool → ℤ
flag true = pos 1
flag false = pos 0

-- the bits of a number in two's complement at the width of its kind
abbrev pub bits_of : DType → ℤ → ℕ
bits_of kinds.Bool n = unsigned_abs n
bits_of kinds.Char n = unsigned_abs n
bits_of kinds.Int8 n = cast_unsigned w8 n
bits_of kinds.Int16 n = cast_unsigned w16 n
bits_of kinds.Int32 n = cast_unsigned w32 n
bits_of kinds.Int64 n = cast_unsigned w64 n
bits_of kinds.UInt8 n = unsigned_abs n
bits_of kinds.UInt16 n = unsigned_abs n
bits_of kinds.UInt32 n = unsigned_abs n
bits_of kinds.UInt64 n = unsigned_abs n

-- the number of a kind with these bits
abbrev pub of_bits : DType → ℕ → ℤ
of_bits kinds.Bool n = pos n
of_bits kinds.Char n = pos n
of_bits kinds.Int8 n = cast_signed w8 n
of_bits kinds.Int16 n = cast_signed w16 n
of_bits kinds.Int32 n = cast_signed w32 n
of_bits kinds.Int64 n = cast_signed w64 n
of_bits kinds.UInt8 n = pos n
of_bits kinds.UInt16 n = pos n
of_bits kinds.UInt32 n = pos n
of_bits kinds.UInt64 n = pos n

abbrev pub bitwise : (ℕ → ℕ → ℕ) → DType → ℤ → ℤ → ℤ
bitwise f t x y = of_bits t (f (bits_of t x) (bits_of t y))

-- what a kind leaves of a number; a truth value is whether it isn't 0
abbrev pub cast_to : DType → ℤ → ℤ
cast_to kinds.Bool n = flag (not (int_le n (pos 0) && int_le (pos 0) n))
cast_to kinds.Char n = wrap_to kinds.Char n
cast_to kinds.Int8 n = wrap_to kinds.Int8 n
cast_to kinds.Int16 n = wrap_to kinds.Int16 n
cast_to kinds.Int32 n = wrap_to kinds.Int32 n
cast_to kinds.Int64 n = wrap_to kinds.Int64 n
cast_to kinds.UInt8 n = wrap_to kinds.UInt8 n
cast_to kinds.UInt16 n = wrap_to kinds.UInt16 n
cast_to kinds.UInt32 n = wrap_to kinds.UInt32 n
cast_to kinds.UInt64 n = wrap_to kinds.UInt64 n

-- ---- cells

-- missing where an operand is missing
abbrev pub lifted : (ℤ → ℤ → ℤ) → Option ℤ → Option ℤ → Option ℤ
lifted f (Some x) (Some y) = Some (f x y)
lifted f (Some x) None = None
lifted f None y = None

-- x, or y where x is missing
abbrev pub filled : Option ℤ → Option ℤ → Option ℤ
filled (Some x) y = Some x
filled None y = y

-- the operation on cells of kind t; an operation of one operand doesn't look at y; for a cast t is the kind to which it casts; `/` has no value
abbrev pub elem : OpKind → DType → Option ℤ → Option ℤ → Option ℤ
elem ops.Add t x y = lifted (λ m n. wrap_to t (m +ℤ n)) x y
elem ops.Subtract t x y = lifted (λ m n. wrap_to t (m -ℤ n)) x y
elem ops.Multiply t x y = lifted (λ m n. wrap_to t (m *ℤ n)) x y
elem ops.FloorDivide t x y = lifted (λ m n. unless_zero n (wrap_to t (floor_quotient m n))) x y
elem ops.Remainder t x y = lifted (λ m n. unless_zero n (m -ℤ n *ℤ floor_quotient m n)) x y
elem ops.Divide t x y = None
elem ops.And t x y = lifted (bitwise bit_and t) x y
elem ops.Or t x y = lifted (bitwise bit_or t) x y
elem ops.Xor t x y = lifted (bitwise bit_xor t) x y
elem ops.Equal t x y = lifted (λ m n. flag (int_le m n && int_le n m)) x y
elem ops.NotEqual t x y = lifted (λ m n. flag (not (int_le m n && int_le n m))) x y
elem ops.Less t x y = lifted (λ m n. flag (int_lt m n)) x y
elem ops.LessEqual t x y = lifted (λ m n. flag (int_le m n)) x y
elem ops.Greater t x y = lifted (λ m n. flag (int_lt n m)) x y
elem ops.GreaterEqual t x y = lifted (λ m n. flag (int_le n m)) x y
elem ops.Negate t x y = option_map (λ m. wrap_to t (neg_ℤ m)) x
elem ops.Invert t x y = option_map (λ m. wrap_to t (negsuc 0 -ℤ m)) x
elem ops.IsNull t x y = Some (flag (not (is_some x)))
elem ops.NotNull t x y = Some (flag (is_some x))
elem ops.FillNa t x y = filled x y
elem ops.Cast t x y = option_map (cast_to t) x

-- x where the truth value c is 1, y where it is 0
abbrev pub choose : Option ℤ → Option ℤ → Option ℤ → Option ℤ
choose None x y = None
choose (Some (pos zero)) x y = y
choose (Some (pos (suc n))) x y = x
choose (Some (negsuc n)) x y = x

-- ---- arrays

-- the kind by which an operation of one operand goes: a cast by that to which it casts, and others by that of their operand
abbrev pub unary_kind : OpKind → DType → DType → DType
unary_kind ops.Cast kind t = kind
unary_kind op kind t = t

-- an operation on each cell of one array; the result's kind is given
abbrev pub unary_of : OpKind → DType → Array → Array
unary_of op kind a = made kind a.shape (λ p. elem op (unary_kind op kind a.kind) (at a p) None)

-- an operation on the cells of two arrays of one shape and kind
abbrev pub binary_of : OpKind → DType → Array → Array → Array
binary_of op kind a b = made kind a.shape (λ p. elem op a.kind (at a p) (at b p))

abbrev pub choose_of : Array → Array → Array → Array
choose_of c a b = made a.kind a.shape (λ p. choose (at c p) (at a p) (at b p))

-- ---- operations by their operands

abbrev pub is_comparison : OpKind → Bool
is_comparison ops.Equal = true
is_comparison ops.NotEqual = true
is_comparison ops.Less = true
is_comparison ops.LessEqual = true
is_comparison ops.Greater = true
is_comparison ops.GreaterEqual = true
is_comparison op = false

-- the operations of numbers that aren't truth values
abbrev pub is_arithmetic : OpKind → Bool
is_arithmetic ops.Add = true
is_arithmetic ops.Subtract = true
is_arithmetic ops.Multiply = true
is_arithmetic ops.FloorDivide = true
is_arithmetic ops.Remainder = true
is_arithmetic ops.Negate = true
is_arithmetic op = false

abbrev pub takes_one : OpKind → Bool
takes_one ops.Negate = true
takes_one ops.Invert = true
takes_one ops.IsNull = true
takes_one ops.NotNull = true
takes_one ops.Cast = true
takes_one op = false

abbrev pub takes_two : OpKind → Bool
takes_two ops.Divide = false
takes_two op = not (takes_one op)

-- the kind of the result of an operation of two operands of a kind
abbrev pub result_kind : OpKind → DType → DType
result_kind op t = if is_comparison op then kinds.Bool else t

-- an operation of one operand that gives this kind of cells of kind t
abbrev pub Gives : OpKind → DType → DType → Type 0
Gives ops.Cast kind t = ⊤
Gives ops.IsNull kind t = kind ≡ kinds.Bool
Gives ops.NotNull kind t = kind ≡ kinds.Bool
Gives op kind t = kind ≡ t

-- arithmetic isn't on truth values
abbrev pub Suits : OpKind → DType → Type 0
Suits op t = is_arithmetic op ≡ true → t ≢ kinds.Bool

-- The kinds of cells: their ranges, what a kind leaves of a number, and promotion.
-- NumPy, "Data types" and "Data type promotion in NumPy".
use Rattle.std.specs.Prelude.{◌≡◌, ◌==◌, ◌&&◌, ℕ, ℤ, pos, negsuc, ◌+ℤ◌, ◌*ℤ◌, ◌≤ℤ◌, int_le, Bool, true, false, List, Option, Some, None, codes, max, nat_le, if◌then◌else◌}
use Rattle.std.specs.Int.{int_wrap, int_rem_euclid, w8, w16, w32, w64}
use Rattle.xr_types.specs.declared.kind.DType.{DType}
use Rattle.xr_types.specs.declared.kind.DType.TheVariants as kinds
use Rattle.xr_types.specs.declared.kind.DType.TheVariants.{Char, Int8, Int16, Int32, Int64, UInt8, UInt16, UInt32, UInt64}

-- the least number of a kind
abbrev pub low : DType → ℤ
low kinds.Bool = pos 0
low Char = pos 0
low Int8 = negsuc 127
low Int16 = negsuc 32767
low Int32 = negsuc 2147483647
low Int64 = negsuc 9223372036854775807
low UInt8 = pos 0
low UInt16 = pos 0
low UInt32 = pos 0
low UInt64 = pos 0

-- the greatest number of a kind
abbrev pub high : DType → ℤ
high kinds.Bool = pos 1
high Char = pos 255
high Int8 = pos 127
high Int16 = pos 32767
high Int32 = pos 2147483647
high Int64 = pos 9223372036854775807
high UInt8 = pos 255
high UInt16 = pos 65535
high UInt32 = pos 4294967295
high UInt64 = pos 18446744073709551615

-- a number of the kind
abbrev pub InRange : DType → ℤ → Type 0
InRange t n = (low t ≤ℤ n) × (n ≤ℤ high t)

-- whether a number is one of the kind
abbrev pub in_range : DType → ℤ → Bool
in_range t n = int_le (low t) n && int_le n (high t)

-- how many numbers a kind has
abbrev pub count_of : DType → ℕ
count_of kinds.Bool = 2
count_of Char = 256
count_of Int8 = 256
count_of Int16 = 65536
count_of Int32 = 4294967296
count_of Int64 = 18446744073709551616
count_of UInt8 = 256
count_of UInt16 = 65536
count_of UInt32 = 4294967296
count_of UInt64 = 18446744073709551616

-- m is a number of the kind, and congruent to n modulo the count of the kind's numbers
pub record IsWrapped (t : DType) (n m : ℤ) : Type 0 where
  pub in_range : InRange t m
  pub turns : ℤ
  pub congruent : n ≡ m +ℤ turns *ℤ pos (count_of t)

-- the number of a kind that is left of a number, as the width's bits are left of its bits
abbrev pub wrap_to : DType → ℤ → ℤ
wrap_to kinds.Bool n = int_rem_euclid n (pos 2)
wrap_to Char n = int_rem_euclid n (pos 256)
wrap_to Int8 n = int_wrap w8 n
wrap_to Int16 n = int_wrap w16 n
wrap_to Int32 n = int_wrap w32 n
wrap_to Int64 n = int_wrap w64 n
wrap_to UInt8 n = int_rem_euclid n (pos 256)
wrap_to UInt16 n = int_rem_euclid n (pos 65536)
wrap_to UInt32 n = int_rem_euclid n (pos 4294967296)
wrap_to UInt64 n = int_rem_euclid n (pos 18446744073709551616)

-- ---- the kind of an operation on two kinds

-- kinds of whole numbers without a sign
abbrev pub is_unsigned : DType → Bool
is_unsigned UInt8 = true
is_unsigned UInt16 = true
is_unsigned UInt32 = true
is_unsigned UInt64 = true
is_unsigned Int8 = false
is_unsigned Int16 = false
is_unsigned Int32 = false
is_unsigned Int64 = false
is_unsigned kinds.Bool = false
is_unsigned Char = false

-- how many bits a signed kind needs to hold all numbers of a kind, and none for a truth value and a byte of text
abbrev pub signed_bits : DType → ℕ
signed_bits Int8 = 8
signed_bits Int16 = 16
signed_bits Int32 = 32
signed_bits Int64 = 64
signed_bits UInt8 = 16
signed_bits UInt16 = 32
signed_bits UInt32 = 64
signed_bits UInt64 = 128
signed_bits kinds.Bool = 0
signed_bits Char = 0

-- the signed kind of so many bits, where there is one
abbrev pub signed_kind : ℕ → Option DType
signed_kind n = if n == 8 then Some Int8 else if n == 16 then Some Int16 else if n == 32 then Some Int32 else if n == 64 then Some Int64 else None

-- the one of two kinds of one sign that has more bits
abbrev pub wider : DType → DType → DType
wider t u = if nat_le (signed_bits t) (signed_bits u) then u else t

-- two kinds of integers of one sign give the wider one, and others the least signed kind that holds the numbers of both, where
-- there is one
abbrev pub by_signs : Bool → Bool → DType → DType → Option DType
by_signs true true t u = Some (wider t u)
by_signs false false t u = Some (wider t u)
by_signs true false t u = signed_kind (max (signed_bits t) (signed_bits u))
by_signs false true t u = signed_kind (max (signed_bits t) (signed_bits u))

abbrev pub promoted_integers : DType → DType → Option DType
promoted_integers t u = by_signs (is_unsigned t) (is_unsigned u) t u

-- bytes of text go with themselves alone; truth values take the other kind
abbrev pub promoted : DType → DType → Option DType
promoted Char Char = Some Char
promoted Char u = None
promoted t Char = None
promoted kinds.Bool u = Some u
promoted t kinds.Bool = Some t
promoted t u = promoted_integers t u

abbrev pub kind_name : DType → List ℕ
kind_name kinds.Bool = codes "bool"
kind_name Char = codes "char"
kind_name Int8 = codes "int8"
kind_name Int16 = codes "int16"
kind_name Int32 = codes "int32"
kind_name Int64 = codes "int64"
kind_name UInt8 = codes "uint8"
kind_name UInt16 = codes "uint16"
kind_name UInt32 = codes "uint32"
kind_name UInt64 = codes "uint64"

-- The whole numbers that a variable's bytes spell: big-endian, and two's complement where the type has a sign
-- (Unidata, "The NetCDF Classic Format Specification").
use Rattle.std.specs.Prelude.{◌*◌, ◌/◌, ℕ, ℤ, pos, ◌+ℤ◌, Bool, true, false, List, length, map, take, drop, fold}
use Rattle.std.specs.List.{range_with_len}
use Rattle.std.specs.Int.{w8, w16, w32, w64, from_be_bytes, cast_signed}
use Rattle.xr_types.specs.declared.attr.NcType.{NcType}
use Rattle.xr_types.specs.declared.attr.NcType.TheVariants.{Byte, Char, Short, Int, Float, Double, UByte, UShort, UInt, Int64, UInt64}
use Rattle.xr_types.specs.declared.kind.DType.{DType}
use Rattle.xr_types.specs.declared.kind.DType.TheVariants as kinds
use Rattle.xr_types.specs.Widths.{width}

-- a type of whole numbers
abbrev pub is_whole : NcType → Bool
is_whole Byte = true
is_whole Char = true
is_whole Short = true
is_whole Int = true
is_whole Float = false
is_whole Double = false
is_whole UByte = true
is_whole UShort = true
is_whole UInt = true
is_whole Int64 = true
is_whole UInt64 = true

-- the kind of cells that hold a type's numbers; types that aren't of whole numbers have none, and it says nothing of them
abbrev pub cells_kind : NcType → DType
cells_kind Byte = kinds.Int8
cells_kind Char = kinds.Char
cells_kind Short = kinds.Int16
cells_kind Int = kinds.Int32
cells_kind Float = kinds.Int32
cells_kind Double = kinds.Int32
cells_kind UByte = kinds.UInt8
cells_kind UShort = kinds.UInt16
cells_kind UInt = kinds.UInt32
cells_kind Int64 = kinds.Int64
cells_kind UInt64 = kinds.UInt64

-- the number that a value's bytes spell
abbrev pub number_in : NcType → List ℕ → ℤ
number_in Byte bytes = cast_signed w8 (from_be_bytes w8 bytes)
number_in Char bytes = pos (from_be_bytes w8 bytes)
number_in Short bytes = cast_signed w16 (from_be_bytes w16 bytes)
number_in Int bytes = cast_signed w32 (from_be_bytes w32 bytes)
number_in Float bytes = cast_signed w32 (from_be_bytes w32 bytes)
number_in Double bytes = cast_signed w32 (from_be_bytes w32 bytes)
number_in UByte bytes = pos (from_be_bytes w8 bytes)
number_in UShort bytes = pos (from_be_bytes w16 bytes)
number_in UInt bytes = pos (from_be_bytes w32 bytes)
number_in Int64 bytes = cast_signed w64 (from_be_bytes w64 bytes)
number_in UInt64 bytes = pos (from_be_bytes w64 bytes)

-- the bytes of the value at a place
abbrev pub value_at : NcType → List ℕ → ℕ → List ℕ
value_at kind raw i = take (width kind) (drop (i * width kind) raw)

-- the numbers of all values
abbrev pub numbers_of : NcType → List ℕ → List ℤ
numbers_of kind raw = map (λ i. number_in kind (value_at kind raw i)) (range_with_len 0 (length raw / width kind))

abbrev pub sum_of : List ℤ → ℤ
sum_of ns = fold (λ total n. total +ℤ n) (pos 0) ns

-- How many bytes a value of a type takes (Unidata, "The NetCDF Classic Format Specification").
use Rattle.std.specs.Prelude.{ℕ}
use Rattle.xr_types.specs.declared.attr.NcType.{NcType}
use Rattle.xr_types.specs.declared.attr.NcType.TheVariants.{Byte, Char, Short, Int, Float, Double, UByte, UShort, UInt, Int64, UInt64}

-- bytes of a value
abbrev pub width : NcType → ℕ
width Byte = 1
width Char = 1
width Short = 2
width Int = 4
width Float = 4
width Double = 8
width UByte = 1
width UShort = 2
width UInt = 4
width Int64 = 8
width UInt64 = 8

-- Types of whole numbers.
use Rattle.std.proofs.Common.{◌≡◌, true, refl}
use Rattle.xr_types.specs.declared.attr.NcType.{NcType}
use Rattle.xr_types.specs.declared.attr.NcType.TheVariants.{Byte, Char, Short, Int, Float, Double, UByte, UShort, UInt, Int64, UInt64}
use Rattle.xr_arrays.specs.Numbers.{is_whole}
use Rattle.xr_defs.specs.Decoding.{is_integer}

-- whole numbers that are no texts
pub integer_is_whole : (kind : NcType) → is_integer kind ≡ true → is_whole kind ≡ true
integer_is_whole Byte e = refl
integer_is_whole Char e = refl
integer_is_whole Short e = refl
integer_is_whole Int e = refl
integer_is_whole Float e = absurd cc
integer_is_whole Double e = absurd cc
integer_is_whole UByte e = refl
integer_is_whole UShort e = refl
integer_is_whole UInt e = refl
integer_is_whole Int64 e = refl
integer_is_whole UInt64 e = refl

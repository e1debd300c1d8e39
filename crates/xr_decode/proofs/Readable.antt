-- What a readable variable's values are.
use Rattle.std.proofs.Common.{◌≡◌, ◌*◌, ℕ, true, List, [], ◌∷◌, length, refl, ap, ◌∙◌, arith}
use Rattle.std.specs.Prelude.{All}
use Rattle.std.specs.List.{Contains}
use Rattle.std.proofs.lemmas.List.Elements.{All-contains}
use Rattle.xr_types.specs.declared.attr.NcType.{NcType}
use Rattle.xr_types.specs.declared.attr.NcType.TheVariants.{Byte, Char, Short, Int, Float, Double, UByte, UShort, UInt, Int64, UInt64}
use Rattle.xr_files.specs.declared.file.CdfVar.{CdfVar}
use Rattle.xr_files.specs.declared.file.CdfFile.{CdfFile}
use Rattle.xr_types.specs.Points.{size}
use Rattle.xr_types.specs.Widths.{width}
use Rattle.xr_defs.specs.Decoding.{is_char, is_integer, var_shape}
use Rattle.xr_arrays.specs.Numbers.{is_whole}
use Rattle.xr_decode.specs.Readable.{IsReadableVar}

-- whole numbers that are no texts
pub integer_is_whole : (kind : NcType) → is_integer kind ≡ true → is_whole kind ≡ true
integer_is_whole Byte e = refl
integer_is_whole Char e = refl
integer_is_whole Short e = refl
integer_is_whole Int e = refl
integer_is_whole Float e = absurd cc
integer_is_whole Double e = absurd cc
integer_is_whole UByte e = refl
integer_is_whole UShort e = refl
integer_is_whole UInt e = refl
integer_is_whole Int64 e = refl
integer_is_whole UInt64 e = refl

one_byte : (kind : NcType) → is_char kind ≡ true → (is_whole kind ≡ true) × (width kind ≡ 1)
one_byte Byte e = absurd cc
one_byte Char e = (refl, refl)
one_byte Short e = absurd cc
one_byte Int e = absurd cc
one_byte Float e = absurd cc
one_byte Double e = absurd cc
one_byte UByte e = absurd cc
one_byte UShort e = absurd cc
one_byte UInt e = absurd cc
one_byte Int64 e = absurd cc
one_byte UInt64 e = absurd cc

-- a text has a byte for each cell
pub char_values : (f : CdfFile) (v : CdfVar) → IsReadableVar f v → is_char v.kind ≡ true → length v.raw ≡ size (var_shape f v)
char_values f v r e =
    let one = one_byte v.kind e in
    r.whole one.0 ∙ ap (λ w. size (var_shape f v) * w) one.1 ∙ omega arith

pub two_sizes : (n w : ℕ) → size (n ∷ w ∷ []) ≡ n * w
two_sizes n w = let e : w * 1 ≡ w = omega arith in ap (λ k. n * k) e

pub one_of_all : (f : CdfFile) (vs : List CdfVar) (v : CdfVar) → All (IsReadableVar f) vs → Contains vs v → IsReadableVar f v
one_of_all f vs v all one = All-contains (IsReadableVar f) vs v all one

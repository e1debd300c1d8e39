-- How many numbers bytes spell, and which kinds they have.
use Rattle.std.proofs.Common.{◌≡◌, ◌*◌, ◌/◌, ℕ, ℤ, true, List, length, Option, Some, None, ap, ◌∙◌, arith}
use Rattle.std.specs.Prelude.{MatchOption}
use Rattle.std.proofs.lemmas.List.{length-map}
use Rattle.std.proofs.lemmas.List.FromFn.{length-map-range_with_len}
use Rattle.xr_types.specs.declared.attr.NcType.{NcType}
use Rattle.xr_types.specs.declared.attr.NcType.TheVariants.{Byte, Char, Short, Int, Float, Double, UByte, UShort, UInt, Int64, UInt64}
use Rattle.xr_types.specs.declared.kind.DType.TheVariants as kinds
use Rattle.xr_arrays.specs.declared.typed.Cells.{Cells}
use Rattle.xr_arrays.specs.declared.typed.Cells.TheVariants as cells
use Rattle.xr_arrays.specs.Arrays.{Array, kind_of, InKind}
use Rattle.xr_types.specs.Points.{size}
use Rattle.xr_arrays.specs.Stored.{unless_fill, stored_array, IsStored}
use Rattle.xr_types.specs.Widths.{width}
use Rattle.xr_arrays.specs.Numbers.{is_whole, cells_kind, number_in, value_at, numbers_of}
use Rattle.stored_cells.specs.Masks.{Hides}

pub share_by : (kind : NcType) (n s : ℕ) → is_whole kind ≡ true → n ≡ s * width kind → n / width kind ≡ s
share_by Byte n s e is = omega arith
share_by Char n s e is = omega arith
share_by Short n s e is = omega arith
share_by Int n s e is = omega arith
share_by Float n s e is = absurd cc
share_by Double n s e is = absurd cc
share_by UByte n s e is = omega arith
share_by UShort n s e is = omega arith
share_by UInt n s e is = omega arith
share_by Int64 n s e is = omega arith
share_by UInt64 n s e is = omega arith

-- as many numbers as values
pub numbers-length : (kind : NcType) (raw : List ℕ) (s : ℕ) → is_whole kind ≡ true → length raw ≡ s * width kind → length (numbers_of kind raw) ≡ s
numbers-length kind raw s e is = length-map-range_with_len (λ i. number_in kind (value_at kind raw i)) 0 (length raw / width kind) ∙ share_by kind (length raw) s e is

-- as many cells as points
pub whole_stored : (a : Array) (kind : NcType) (raw : List ℕ) (fills : List ℤ) → a ≡ stored_array a.shape kind raw fills → IsStored a.shape kind raw → length a.cells ≡ size a.shape
whole_stored a kind raw fills is stored =
    ap (λ (b : Array). length b.cells) is ∙ length-map (numbers_of kind raw) (unless_fill fills) ∙ numbers-length kind raw (size a.shape) stored.whole stored.long

pub mask_fits : (fills ns all : List ℤ) (mask : Option (List ℕ)) (s : ℕ) → Hides fills ns mask → length ns ≡ s → length all ≡ s → MatchOption mask (length all ≡ s) (λ m. length m ≡ s)
mask_fits fills ns all None s h long same = same
mask_fits fills ns all (Some m) s h long same = h.long ∙ long

not_bool : (kind : NcType) → kinds.Bool ≡ cells_kind kind → ⊥
not_bool Byte e = cc
not_bool Char e = cc
not_bool Short e = cc
not_bool Int e = cc
not_bool Float e = cc
not_bool Double e = cc
not_bool UByte e = cc
not_bool UShort e = cc
not_bool UInt e = cc
not_bool Int64 e = cc
not_bool UInt64 e = cc

-- numbers of a type are no truth values, so that they are in the range of their kind
pub kept_in_kind : (kind : NcType) (cs : Cells) → kind_of cs ≡ cells_kind kind → InKind cs
kept_in_kind kind (cells.Bool v) e = absurd (not_bool kind e)
kept_in_kind kind (cells.Char v) e = tt
kept_in_kind kind (cells.Int8 v) e = tt
kept_in_kind kind (cells.Int16 v) e = tt
kept_in_kind kind (cells.Int32 v) e = tt
kept_in_kind kind (cells.Int64 v) e = tt
kept_in_kind kind (cells.UInt8 v) e = tt
kept_in_kind kind (cells.UInt16 v) e = tt
kept_in_kind kind (cells.UInt32 v) e = tt
kept_in_kind kind (cells.UInt64 v) e = tt

-- The cells of an array as a slice of their type.
use Rattle.std.proofs.Common.{◌≡◌, ◌<◌, ℕ, ℤ, pos, get_or, arith, List, [], ◌∷◌, map, length, Option, refl, sym, ap, subst, ◌∙◌}
use Rattle.std.specs.List.{All}
use Rattle.xr_types.specs.declared.kind.DType.{DType}
use Rattle.xr_types.specs.declared.attr.NcType.{NcType}
use Rattle.xr_types.specs.Points.{size}
use Rattle.xr_arrays.specs.declared.typed.Cells.{Cells}
use Rattle.xr_arrays.specs.Arrays.{Array, hidden, kind_of, wide, IsArray, IsCell}
use Rattle.xr_arrays.specs.Numbers.{cells_kind}
use Rattle.xr_arrays.specs.Stored.{stored_array, stored_cells}
use Rattle.plan_core.proofs.Arrangements.{AreParts}
use Rattle.row_folds.specs.Rows.{array_of}

pub same_numbers : (xs : List ℤ) → map (λ x. x) xs ≡ xs
same_numbers [] = refl
same_numbers (x ∷ xs) = ap (λ t. x ∷ t) (same_numbers xs)

pub record SliceIs (a : Array) (kind : DType) (shape : List ℕ) (cells : List (Option ℤ)) : Type 0 where
  pub range : All (IsCell kind) cells
  pub is : array_of kind shape cells ≡ a

pub slice_is : (a : Array) (x y : Cells) (m : Option (List ℕ)) (shape : List ℕ) (ns : List ℤ) → IsArray a → AreParts a x m → x ≡ y → ns ≡ wide y → a.shape ≡ shape → SliceIs a (kind_of y) shape (hidden ns m)
slice_is a x y m shape ns array parts is_y is_ns is_shape =
    let kind : a.kind ≡ kind_of y = parts.kind ∙ ap kind_of is_y in
    let cells : a.cells ≡ hidden ns m = parts.cells ∙ ap (λ v. hidden v m) (ap wide is_y ∙ sym is_ns) in
    record {
      range = subst (λ xs. All (IsCell (kind_of y)) xs) cells (subst (λ k. All (IsCell k) a.cells) kind array.range);
      is = (λ i. array_of (sym kind i) (sym is_shape i) (sym cells i));
    }

-- numbers of a file, by their type
pub stored_is : (kind k : NcType) (shape raw : List ℕ) (fills : List ℤ) → kind ≡ k → IsArray (stored_array shape kind raw fills) → SliceIs (stored_array shape kind raw fills) (cells_kind k) shape (stored_cells k raw fills)
stored_is kind k shape raw fills e array =
    record {
      range = subst (λ t. All (IsCell (cells_kind t)) (stored_cells t raw fills)) e array.range;
      is = (λ i. stored_array shape (sym e i) raw fills);
    }

pub stored_whole : (kind k : NcType) (shape raw : List ℕ) (fills : List ℤ) → kind ≡ k → IsArray (stored_array shape kind raw fills) → size shape ≡ length (stored_cells k raw fills)
stored_whole kind k shape raw fills e array = sym array.whole ∙ ap (λ t. length (stored_cells t raw fills)) e

only : (fills : List ℤ) → 0 < length fills → length fills < 2 → get_or fills 0 (pos 0) ∷ [] ≡ fills
only [] some few = absurd (omega arith)
only (x ∷ []) some few = refl
only (x ∷ y ∷ rest) some few = absurd (omega arith)

-- an array in which one number stands for missing cells
pub one_fill : (a : Array) (kind : NcType) (shape raw bytes : List ℕ) (fills : List ℤ) → a ≡ stored_array a.shape kind raw fills → a.shape ≡ shape → bytes ≡ raw → 0 < length fills → length fills < 2 → stored_array shape kind bytes (get_or fills 0 (pos 0) ∷ []) ≡ a
one_fill a kind shape raw bytes fills is is_shape is_bytes some few = (λ i. stored_array (sym is_shape i) kind (is_bytes i) (only fills some few i)) ∙ sym is

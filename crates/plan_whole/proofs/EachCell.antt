-- Cells that are those of an array.
use Rattle.std.proofs.Common.{◌≡◌, ℕ, ℤ, List, length, Option, sym, ap, subst, ◌∙◌}
use Rattle.std.specs.List.{All}
use Rattle.xr_types.specs.declared.kind.DType.{DType}
use Rattle.xr_types.specs.Points.{size}
use Rattle.xr_arrays.specs.Arrays.{Array, IsArray, IsCell}

abbrev array : DType → List ℕ → List (Option ℤ) → Array
array kind shape cells = record { kind = kind; shape = shape; cells = cells }

-- cells that are those of an array
pub record AreThose (b : Array) (kind : DType) (shape : List ℕ) (cells : List (Option ℤ)) : Type 0 where
  pub whole : length cells ≡ size shape
  pub range : All (IsCell kind) cells
  pub is : array kind shape cells ≡ b

pub are_those : (b : Array) (kind : DType) (shape : List ℕ) (cells : List (Option ℤ)) → IsArray b → kind ≡ b.kind → shape ≡ b.shape → cells ≡ b.cells → AreThose b kind shape cells
are_those b kind shape cells is is_kind is_shape is_cells =
    record {
      whole = ap length is_cells ∙ is.whole ∙ ap size (sym is_shape);
      range = subst (λ t. All (IsCell t) cells) (sym is_kind) (subst (All (IsCell b.kind)) (sym is_cells) is.range);
      is = ap (λ t. array t shape cells) is_kind ∙ ap (λ (t : List ℕ). array b.kind t cells) is_shape ∙ ap (array b.kind b.shape) is_cells;
    }

-- Cells that a function of each point gives.
use Rattle.xr_formulas.proofs.Common.{All-tab, AreCells, Array, Bool, Changes, DType, IsCell, IsPoint, List, None, OpKind, Option, Some, arith, at, elem, elem_of_one, false, is_some, length, masked_after, most_cells, most_dimensions, place, place_below, refl, size, tab, tab-length, takes_one, true, unary_kind, unary_of, ℕ, ℤ, ◌<◌, ◌≡◌, ◌≤◌}
use Rattle.xr_types.specs.declared.operation.OpKind.TheVariants as ops

-- a function of each point gives an array's cells, where it gives cells of the kind and none that is missing unless it is masked
pub cells_made : (shape : List ℕ) (kind : DType) (masked : Bool) (f : List ℕ → Option ℤ) → length shape ≤ most_dimensions → size shape ≤ most_cells
    → ((p : List ℕ) → IsPoint shape p → IsCell kind (f p)) → (masked ≡ false → (p : List ℕ) → IsPoint shape p → is_some (f p) ≡ true) → AreCells shape kind masked (tab shape f)
cells_made shape kind masked f low few range seen = record {
  whole = tab-length shape f;
  range = All-tab (IsCell kind) shape f range;
  seen = λ plain. All-tab (λ c. is_some c ≡ true) shape f (seen plain);
  low_rank = low;
  few = few;
}

-- the cell at a point is one of the array's
module _ (shape : List ℕ) (kind : DType) (masked : Bool) (cells : List (Option ℤ)) (is : AreCells shape kind masked cells) where
  inside : (p : List ℕ) → IsPoint shape p → place shape p < length cells
  inside p here = let below = place_below shape p here in let whole = is.whole in omega (arith, below, whole)

  pub cell_in : (p : List ℕ) → IsPoint shape p → IsCell kind (at (record { kind = kind; shape = shape; cells = cells }) p)
  cell_in p here = is.range (place shape p) None (inside p here)

  pub cell_seen : masked ≡ false → (p : List ℕ) → IsPoint shape p → is_some (at (record { kind = kind; shape = shape; cells = cells }) p) ≡ true
  cell_seen plain p here = is.seen plain (place shape p) None (inside p here)

-- ---- operations of one operand

one_seen : (op : OpKind) (t : DType) (x : Option ℤ) (own : Bool) → takes_one op ≡ true → masked_after op own ≡ false → (own ≡ false → is_some x ≡ true) → is_some (elem op t x None) ≡ true
one_seen ops.IsNull t x own one plain seen = refl
one_seen ops.NotNull t x own one plain seen = refl
one_seen op t None own one plain seen = seen plain
one_seen op t (Some n) own one plain seen = cc

module _ (op : OpKind) (kind t : DType) (masked : Bool) (shape : List ℕ) (cells : List (Option ℤ)) (is : AreCells shape t masked cells) (does : Changes op kind t) where
  abbrev own : Array
  own = record { kind = t; shape = shape; cells = cells }

  pub changed_cells : AreCells shape kind (masked_after op masked) (unary_of op kind own).cells
  changed_cells =
      cells_made shape kind (masked_after op masked) (λ p. elem op (unary_kind op kind t) (at own p) None) is.low_rank is.few (λ p here. elem_of_one op kind t (at own p) does.one does.gives)
      (λ plain p here. one_seen op (unary_kind op kind t) (at own p) masked does.one plain (λ whole. cell_seen shape t masked cells is whole p here))

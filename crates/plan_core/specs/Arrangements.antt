-- How the cells of one array stand in another: each shows the cell at a point of the first, or a hole, which a fill fills.
use Rattle.std.specs.Prelude.{◌≡◌, ℕ, ℤ, pos, Bool, true, false, List, replicate, Option, Some, None, is_some, IfSome, unsigned_abs, get_or}
use Rattle.xr_types.specs.Kinds.{wrap_to}
use Rattle.xr_types.specs.declared.kind.DType.TheVariants as kinds
use Rattle.xr_types.specs.Points.{size, tab, place, IsPoint}
use Rattle.xr_arrays.specs.Arrays.{Array, at, made}
use Rattle.xr_arrays.specs.declared.typed.Cells.{Cells}
use Rattle.xr_arrays.specs.declared.typed.Cells.TheVariants.{Bool as Truths, Char, Int8, Int16, Int32, Int64, UInt8, UInt16, UInt32, UInt64}

-- ---- arrays

abbrev pub cell_from : Array → Option ℤ → Option (List ℕ) → Option ℤ
cell_from a fill None = fill
cell_from a fill (Some q) = at a q

-- the array of these sizes that shows at each point what `point` gives for it
abbrev pub rearranged : Array → List ℕ → (List ℕ → Option (List ℕ)) → Option ℤ → Array
rearranged a to point fill = made a.kind to (λ p. cell_from a fill (point p))

-- the points that are shown are there
abbrev pub LieInside : List ℕ → List ℕ → (List ℕ → Option (List ℕ)) → Type 0
LieInside from to point = (p : List ℕ) → IsPoint to p → IfSome (point p) (IsPoint from)

-- there is no hole
abbrev pub ShowsAll : List ℕ → (List ℕ → Option (List ℕ)) → Type 0
ShowsAll to point = (p : List ℕ) → IsPoint to p → is_some (point p) ≡ true

-- ---- lists of cells in row order

abbrev pub shown : {X : Type 0} → List ℕ → List X → X → Option (List ℕ) → X
shown from cells hole None = hole
shown from cells hole (Some q) = get_or cells (place from q) hole

abbrev pub arranged : {X : Type 0} → List ℕ → List ℕ → (List ℕ → Option (List ℕ)) → X → List X → List X
arranged from to point hole cells = tab to (λ p. shown from cells hole (point p))

-- the number in a hole, where a mask may hide it
abbrev pub filling : Option ℤ → ℤ
filling None = pos 0
filling (Some n) = n

abbrev pub arranged_cells : List ℕ → List ℕ → (List ℕ → Option (List ℕ)) → ℤ → Cells → Cells
arranged_cells from to point n (Truths v) = Truths (arranged from to point (unsigned_abs (wrap_to kinds.Char n)) v)
arranged_cells from to point n (Char v) = Char (arranged from to point (unsigned_abs (wrap_to kinds.Char n)) v)
arranged_cells from to point n (Int8 v) = Int8 (arranged from to point (wrap_to kinds.Int8 n) v)
arranged_cells from to point n (Int16 v) = Int16 (arranged from to point (wrap_to kinds.Int16 n) v)
arranged_cells from to point n (Int32 v) = Int32 (arranged from to point (wrap_to kinds.Int32 n) v)
arranged_cells from to point n (Int64 v) = Int64 (arranged from to point (wrap_to kinds.Int64 n) v)
arranged_cells from to point n (UInt8 v) = UInt8 (arranged from to point (unsigned_abs (wrap_to kinds.Char n)) v)
arranged_cells from to point n (UInt16 v) = UInt16 (arranged from to point (unsigned_abs (wrap_to kinds.UInt16 n)) v)
arranged_cells from to point n (UInt32 v) = UInt32 (arranged from to point (unsigned_abs (wrap_to kinds.UInt32 n)) v)
arranged_cells from to point n (UInt64 v) = UInt64 (arranged from to point (unsigned_abs (wrap_to kinds.UInt64 n)) v)

-- the byte of the mask in a hole
abbrev pub gap : Option ℤ → ℕ
gap None = 1
gap (Some n) = 0

-- the mask, where there was one or there is a hole that nothing fills
abbrev pub arranged_mask : List ℕ → List ℕ → (List ℕ → Option (List ℕ)) → Option (List ℕ) → Option ℤ → Bool → Option (List ℕ)
arranged_mask from to point (Some m) fill holes = Some (arranged from to point (gap fill) m)
arranged_mask from to point None (Some n) holes = None
arranged_mask from to point None None true = Some (arranged from to point 1 (replicate (size from) 0))
arranged_mask from to point None None false = None

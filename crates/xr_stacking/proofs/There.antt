-- Arrays of which no cell is missing.
use Rattle.std.proofs.Common.{◌≡◌, ℕ, ℤ, Bool, true, false, List, [], ◌∷◌, length, All, Option, Some, None, is_some, refl, sym, subst, arith}
use Rattle.std.specs.Prelude.{IfSome}
use Rattle.std.specs.List.{AllByRecursion}
use Rattle.std.proofs.lemmas.List.Elements.{All-append, All-cons, All-head, All-nil, All-tail}
use Rattle.xr_types.specs.Points.{place, size, IsPoint}
use Rattle.xr_types.specs.declared.kind.DType.{DType}
use Rattle.xr_types.specs.declared.operation.OpKind.TheVariants as ops
use Rattle.xr_arrays.specs.Arrays.{Array, at}
use Rattle.xr_arrays.specs.Elements.{elem}
use Rattle.xr_arrays.specs.Nodes.{concatenated, first_array, reordered, value, AllFit, Continues, IsOrder}
use Rattle.xr_arrays.specs.declared.node.Node.{Node}
use Rattle.plan_core.specs.Arrangements.{cell_from, rearranged, LieInside, ShowsAll}
use Rattle.plan_core.specs.Concats.{row_of}
use Rattle.plan_core.specs.Joins.{joined_point, joined_sizes}
use Rattle.plan_core.specs.Strides.{moved_point, moved_sizes}
use Rattle.plan_core.specs.Widens.{widened_point}
use Rattle.plan_core.proofs.Concats.{cells_of, concat_is, counts_of, part_is, IsPart}
use Rattle.plan_core.proofs.Moves.{moving_inside}
use Rattle.plan_core.proofs.Tabs.{place_below, tab-length, All-tab}
use Rattle.plan_core.proofs.Valued.{value_is_array}
use Rattle.plan_core.proofs.Widens.{widening_inside}
use Rattle.xr_combination.specs.Pieces.{as_kind}
use Rattle.xr_combining.specs.Placing.{wide, CanJoin}
use Rattle.xr_stacking.specs.Parts.{brought, order_of, AreThere, HasAll, IsPart as IsOne}
use Rattle.xr_stacking.specs.declared.parts.Part.{Part}

abbrev IsThere : Option ℤ → Type 0
IsThere c = is_some c ≡ true

-- a cell for each point, none of which is missing
pub record IsFull (a : Array) : Type 0 where
  pub whole : length a.cells ≡ size a.shape
  pub all : AreThere a.cells

there_at : (a : Array) (q : List ℕ) → IsFull a → IsPoint a.shape q → IsThere (at a q)
there_at a q full inside = let below = place_below a.shape q inside in let long = full.whole in full.all (place a.shape q) None (omega arith)

rearranged_full : (a : Array) (to : List ℕ) (point : List ℕ → Option (List ℕ)) → IsFull a → LieInside a.shape to point → ShowsAll to point → IsFull (rearranged a to point None)
rearranged_full a to point full inside shows = record {
  whole = tab-length to (λ p. cell_from a None (point p));
  all = All-tab IsThere to (λ p. cell_from a None (point p)) (λ p here. by (point p) (inside p here) (shows p here));
}
  where
    by : (o : Option (List ℕ)) → IfSome o (IsPoint a.shape) → is_some o ≡ true → IsThere (cell_from a None o)
    by None lies shown = absurd cc
    by (Some q) lies shown = there_at a q full lies

reordered_full : (a : Array) (order : List ℕ) → IsOrder (length a.shape) order → IsFull a → IsFull (reordered a order)
reordered_full a order is full = rearranged_full a (moved_sizes order a.shape) (moved_point order) full (moving_inside a.shape order is) (λ p here. refl)

cast_there : (t : DType) (c : Option ℤ) → IsThere c → IsThere (elem ops.Cast t c None)
cast_there t None is = absurd cc
cast_there t (Some n) is = refl

cast_full : (t : DType) (a : Array) → IsFull a → IsFull (as_kind t a)
cast_full t a full = record { whole = tab-length a.shape _; all = All-tab IsThere a.shape _ (λ p here. cast_there t (at a p) (there_at a p full here)) }

wide_full : (front : Bool) (a : Array) → IsFull a → IsFull (wide front a)
wide_full true a full = rearranged_full a (1 ∷ a.shape) (widened_point 0) full (widening_inside a.shape 0 1 (omega arith)) (λ p here. refl)
wide_full false a full = full

pub brought_full : (nodes : List Node) (kind : DType) (dims : List (List ℕ)) (front : Bool) (p : Part) → AllFit [] nodes → IsOne nodes p → IsOrder (length p.shape) (order_of dims p) → HasAll nodes p → IsFull (brought nodes kind dims front p)
brought_full nodes kind dims front p fit is order all =
    let a = value nodes p.node in
    let made = value_is_array nodes p.node fit is.inside in
    wide_full front (as_kind kind (reordered a (order_of dims p)))
    (cast_full kind (reordered a (order_of dims p))
    (reordered_full a (order_of dims p) (subst (λ (s : List ℕ). IsOrder (length s) (order_of dims p)) (sym is.shape) order) (record { whole = made.whole; all = all })))

-- ---- one after the other

cells_there : (bs : List Array) → AllByRecursion IsFull bs → AreThere (cells_of bs)
cells_there [] all = All-nil IsThere
cells_there (b ∷ bs) all = All-append IsThere b.cells (cells_of bs) all.0.all (cells_there bs all.1)

parts_are : (axis : ℕ) (a : Array) (bs : List Array) → AllByRecursion IsFull bs → All (Continues axis a) bs → All (IsPart a.shape axis) bs
parts_are axis a [] all each = All-nil (IsPart a.shape axis)
parts_are axis a (b ∷ bs) all each =
    All-cons (IsPart a.shape axis) b bs (part_is axis a b (All-head (Continues axis a) b bs each) all.0.whole) (parts_are axis a bs all.1 (All-tail (Continues axis a) b bs each))

pub concatenated_there : (axis : ℕ) (bs : List Array) → AllByRecursion IsFull bs → CanJoin axis bs → AreThere (concatenated bs axis).cells
concatenated_there axis bs all can =
    let a = first_array bs in
    let cells = cells_of bs in
    let made = concat_is bs axis can.there (parts_are axis a bs all can.each) can.small in
    let long : length cells ≡ size (length cells ∷ []) = omega arith in
    subst (λ (b : Array). AreThere b.cells) made.is
    (rearranged_full (row_of a.kind cells) (joined_sizes a.shape axis (counts_of axis bs)) (joined_point a.shape axis (counts_of axis bs)) (record { whole = long; all = cells_there bs all }) made.inside (λ p here. refl)).all

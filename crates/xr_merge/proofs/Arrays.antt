-- What is made of arrays is one.
use Rattle.std.proofs.Common.{◌≡◌, ◌∙◌, ℕ, ℤ, Bool, true, false, List, [], ◌∷◌, map, All, Option, Some, None, Result, Ok, Err, refl, sym, ap, subst}
use Rattle.std.specs.List.{AllByRecursion}
use Rattle.std.proofs.lemmas.List.Elements.{All-nil, All-cons}
use Rattle.xr_types.specs.Results.{◌>>=◌, unless}
use Rattle.xr_types.specs.declared.axis.Axis.{Axis}
use Rattle.xr_types.specs.declared.fault.Fault.{Fault}
use Rattle.xr_types.specs.declared.fault.Fault.TheVariants.{Conflict}
use Rattle.xr_types.specs.declared.kind.DType.{DType}
use Rattle.xr_arrays.specs.Arrays.{Array, at, IsArray, IsCell}
use Rattle.xr_arrays.specs.Nodes.{value, AllFit}
use Rattle.xr_arrays.specs.declared.node.Node.{Node}
use Rattle.plan_core.proofs.ElementRanges.{cast_in}
use Rattle.plan_core.proofs.Valued.{at_in, made_is, value_is_array}
use Rattle.xr_combination.specs.Concat.{first_array, in_kind}
use Rattle.xr_combination.specs.Merge.{agree, are_all_masked, cells_at, merged_or_own, merged_pieces, shared_array, shared_cell}
use Rattle.xr_combination.specs.Pieces.{Piece, all_attrs, all_same, as_kind, common_kind_of, first_piece, in_first_order}
use Rattle.xr_combination.specs.declared.compat.Compat.{Compat}
use Rattle.xr_combination.specs.declared.compat.Compat.TheVariants.{NoConflicts, Equals, Override}
use Rattle.xr_forming.specs.Held.{IsHeld}
use Rattle.xr_merging.specs.Members.{piece_in}
use Rattle.xr_values.specs.declared.variable.Variable.{Variable}

abbrev pub HoldsArray : Piece → Type 0
HoldsArray p = IsArray p.array

-- ---- cells that are shared

cast_is : (t : DType) (a : Array) → IsArray (as_kind t a)
cast_is t a = made_is t _ _ (λ p here. cast_in t (at a p))

one_of : (t : DType) (c d : Option ℤ) → IsCell t c → IsCell t d → IsCell t (elim c [ None ↦ d | Some n ↦ Some n ])
one_of t None d first rest = rest
one_of t (Some n) d first rest = first

shared_in : (t : DType) (xs : List Array) (p : List ℕ) → IsCell t (shared_cell (cells_at (map (as_kind t) xs) p))
shared_in t [] p = tt
shared_in t (a ∷ xs) p = by (at (as_kind t a) p) (at_in (as_kind t a) (cast_is t a) p) (shared_in t xs p)
  where
    by : (c : Option ℤ) → IsCell t c → IsCell t (shared_cell (cells_at (map (as_kind t) xs) p)) → IsCell t (shared_cell (c ∷ cells_at (map (as_kind t) xs) p))
    by None first rest = rest
    by (Some n) first rest = first

shared_is : (t : DType) (xs : List Array) → IsArray (shared_array t (map (as_kind t) xs))
shared_is t xs = made_is t _ _ (λ p here. shared_in t xs p)

-- ---- pieces

pub first_is : (ps : List Piece) → AllByRecursion HoldsArray ps → IsArray (first_piece ps).array
first_is [] all = record { whole = refl; range = All-cons (IsCell (first_piece []).array.kind) None [] tt (All-nil (IsCell (first_piece []).array.kind)) }
first_is (p ∷ ps) all = all.0

abbrev with_all : List Piece → Piece
with_all ps = record (first_piece ps) { attrs = all_attrs ps }

abbrev shared_piece : DType → List Piece → Piece
shared_piece t ps = record { dims = (first_piece ps).dims; array = shared_array t (in_kind t ps); masked = are_all_masked ps; attrs = all_attrs ps }

pieces_is : (compat : Compat) (ps : List Piece) (p : Piece) → AllByRecursion HoldsArray ps → merged_pieces compat ps ≡ Ok p → IsArray p.array
unfolding merged_pieces
pieces_is NoConflicts ps p all is = by (unless (agree (in_first_order ps)) Conflict) (common_kind_of ps) is
  where
    by : (u : Result (Unit {0}) Fault) (r : Result DType Fault)
        → (u >>= λ v. r >>= λ t. Ok (shared_piece t ps)) ≡ Ok p → IsArray p.array
    by (Ok v) (Ok t) e = let same : shared_piece t ps ≡ p = cc in subst HoldsArray same (shared_is t (in_first_order ps))
    by (Ok v) (Err f) e = absurd cc
    by (Err f) r e = absurd cc
pieces_is Equals ps p all is = by (unless (all_same (in_first_order ps)) Conflict) is
  where
    by : (u : Result (Unit {0}) Fault) → (u >>= λ v. Ok (with_all ps)) ≡ Ok p → IsArray p.array
    by (Ok v) e = let same : with_all ps ≡ p = cc in subst HoldsArray same (first_is ps all)
    by (Err f) e = absurd cc
pieces_is Override ps p all is = let same : with_all ps ≡ p = cc in subst HoldsArray same (first_is ps all)

pub own_is : (compat : Compat) (ps : List Piece) (p : Piece) → AllByRecursion HoldsArray ps → merged_or_own compat ps ≡ Ok p → IsArray p.array
unfolding merged_or_own
own_is compat [] p all is = pieces_is compat [] p all is
own_is compat (q ∷ []) p all is = let same : q ≡ p = cc in subst HoldsArray same all.0
own_is compat (q ∷ r ∷ ps) p all is = pieces_is compat (q ∷ r ∷ ps) p all is

values_are : (nodes : List Node) (axes : List Axis) (vs : List Variable) → AllFit [] nodes → AllByRecursion (IsHeld nodes axes) vs → AllByRecursion HoldsArray (map (piece_in nodes) vs)
values_are nodes axes [] fit all = tt
values_are nodes axes (v ∷ vs) fit all = (value_is_array nodes v.node fit all.0.node.placed, values_are nodes axes vs fit all.1)

pub merged_is_array : (nodes : List Node) (axes : List Axis) (compat : Compat) (vs : List Variable) (p : Piece) → AllFit [] nodes → AllByRecursion (IsHeld nodes axes) vs → merged_or_own compat (map (piece_in nodes) vs) ≡ Ok p → IsArray p.array
merged_is_array nodes axes compat vs p fit all is = own_is compat (map (piece_in nodes) vs) p (values_are nodes axes vs fit all) is

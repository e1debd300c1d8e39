-- One of several, step by step.
use Rattle.std.proofs.Common.{◌≡◌, ◌∙◌, ℕ, Bool, true, false, cond, List, map, flat_map, Result, Ok, Err, sym, ap}
use Rattle.std.proofs.lemmas.Bool.{cond-false, cond-true}
use Rattle.xr_types.specs.Results.{◌>>=◌, unless}
use Rattle.xr_types.specs.declared.axis.Axis.{Axis}
use Rattle.xr_types.specs.declared.fault.Fault.{Fault}
use Rattle.xr_types.specs.declared.fault.Fault.TheVariants.{Conflict}
use Rattle.xr_types.specs.declared.kind.DType.{DType}
use Rattle.xr_arrays.specs.Arrays.{Array}
use Rattle.xr_combination.specs.Concat.{coord_pieces, piece_coord}
use Rattle.xr_combination.specs.Merge.{agree, are_all_masked, contents_merged, coord_merged, have_cells, merged_or_own, merged_pieces, shared_array}
use Rattle.xr_combination.specs.Pieces.{Piece, all_attrs, all_same, as_kind, common_kind_of, coords_called, first_piece, in_first_order}
use Rattle.xr_combination.specs.declared.compat.Compat.{Compat}
use Rattle.xr_combination.specs.declared.compat.Compat.TheVariants.{NoConflicts, Equals}
use Rattle.xr_defs.specs.Values.{Dataset}
use Rattle.xr_defs.specs.declared.value.Coord.{Coord}

-- ---- coordinates

abbrev of_pieces : Compat → List Axis → List ℕ → List Piece → Result Coord Fault
of_pieces compat axes name ps = merged_or_own compat ps >>= λ p. Ok (piece_coord axes name p)

abbrev of_coords : Compat → List Axis → List ℕ → List Coord → Result Coord Fault
of_coords compat axes name cs = cond (have_cells cs) (of_pieces compat axes name (flat_map coord_pieces cs)) (contents_merged compat cs)

all_cells : (compat : Compat) (axes : List Axis) (ss : List Dataset) (name : List ℕ) (cs : List Coord) (ps : List Piece) → cs ≡ coords_called name ss → true ≡ have_cells cs → ps ≡ flat_map coord_pieces cs → coord_merged compat axes ss name ≡ of_pieces compat axes name ps
unfolding coord_merged
all_cells compat axes ss name cs ps is all same =
    ap (of_coords compat axes name) (sym is) ∙ cond-true (have_cells cs) (of_pieces compat axes name (flat_map coord_pieces cs)) (contents_merged compat cs) (sym all) ∙ ap (of_pieces compat axes name) (sym same)

pub with_cells : (compat : Compat) (axes : List Axis) (ss : List Dataset) (name : List ℕ) (cs : List Coord) (ps : List Piece) (p : Piece) (c : Coord) → c ≡ piece_coord axes name p → cs ≡ coords_called name ss → true ≡ have_cells cs → ps ≡ flat_map coord_pieces cs
    → merged_or_own compat ps ≡ Ok p → coord_merged compat axes ss name ≡ Ok c
with_cells compat axes ss name cs ps p c gives is all same merged =
    all_cells compat axes ss name cs ps is all same ∙ ap (λ r. r >>= λ q. Ok (piece_coord axes name q)) merged ∙ ap Ok (sym gives)

pub unmerged : (compat : Compat) (axes : List Axis) (ss : List Dataset) (name : List ℕ) (cs : List Coord) (ps : List Piece) (e : Fault) → cs ≡ coords_called name ss → true ≡ have_cells cs → ps ≡ flat_map coord_pieces cs
    → merged_or_own compat ps ≡ Err e → coord_merged compat axes ss name ≡ Err e
unmerged compat axes ss name cs ps e is all same fault = all_cells compat axes ss name cs ps is all same ∙ ap (λ r. r >>= λ q. Ok (piece_coord axes name q)) fault

pub without_cells : (compat : Compat) (axes : List Axis) (ss : List Dataset) (name : List ℕ) (cs : List Coord) → cs ≡ coords_called name ss → false ≡ have_cells cs → coord_merged compat axes ss name ≡ contents_merged compat cs
unfolding coord_merged
without_cells compat axes ss name cs is some =
    ap (of_coords compat axes name) (sym is) ∙ cond-false (have_cells cs) (of_pieces compat axes name (flat_map coord_pieces cs)) (contents_merged compat cs) (sym some)

-- ---- cells that don't differ

abbrev pub shared_piece : List Piece → List Array → DType → Piece
shared_piece ps arrays t = record { dims = (first_piece ps).dims; array = shared_array t (map (as_kind t) arrays); masked = are_all_masked ps; attrs = all_attrs ps }

abbrev agreed : List Piece → List Array → Bool → Result Piece Fault
agreed ps arrays b = unless b Conflict >>= λ u. common_kind_of ps >>= λ t. Ok (shared_piece ps arrays t)

abbrev equalled : List Piece → Bool → Result Piece Fault
equalled ps b = unless b Conflict >>= λ u. Ok (record (first_piece ps) { attrs = all_attrs ps })

pub conflicting : (ps : List Piece) (arrays : List Array) → arrays ≡ in_first_order ps → false ≡ agree arrays → merged_pieces NoConflicts ps ≡ Err Conflict
unfolding merged_pieces unless
conflicting ps arrays is differ = ap (λ (xs : List Array). agreed ps xs (agree xs)) (sym is) ∙ ap (agreed ps arrays) (sym differ)

of_one_kind : (ps : List Piece) (arrays : List Array) → arrays ≡ in_first_order ps → true ≡ agree arrays → merged_pieces NoConflicts ps ≡ (common_kind_of ps >>= λ t. Ok (shared_piece ps arrays t))
unfolding merged_pieces unless
of_one_kind ps arrays is same = ap (λ (xs : List Array). agreed ps xs (agree xs)) (sym is) ∙ ap (agreed ps arrays) (sym same)

pub agreeing : (ps : List Piece) (arrays : List Array) (t : DType) → arrays ≡ in_first_order ps → true ≡ agree arrays → common_kind_of ps ≡ Ok t → merged_pieces NoConflicts ps ≡ Ok (shared_piece ps arrays t)
agreeing ps arrays t is same kind = of_one_kind ps arrays is same ∙ ap (λ r. r >>= λ u. Ok (shared_piece ps arrays u)) kind

pub unlike_kinds : (ps : List Piece) (arrays : List Array) (e : Fault) → arrays ≡ in_first_order ps → true ≡ agree arrays → common_kind_of ps ≡ Err e → merged_pieces NoConflicts ps ≡ Err e
unlike_kinds ps arrays e is same fault = of_one_kind ps arrays is same ∙ ap (λ r. r >>= λ u. Ok (shared_piece ps arrays u)) fault

pub unequal : (ps : List Piece) (arrays : List Array) → arrays ≡ in_first_order ps → false ≡ all_same arrays → merged_pieces Equals ps ≡ Err Conflict
unfolding merged_pieces unless
unequal ps arrays is differ = ap (λ (xs : List Array). equalled ps (all_same xs)) (sym is) ∙ ap (equalled ps) (sym differ)

pub equal : (ps : List Piece) (arrays : List Array) → arrays ≡ in_first_order ps → true ≡ all_same arrays → merged_pieces Equals ps ≡ Ok (record (first_piece ps) { attrs = all_attrs ps })
unfolding merged_pieces unless
equal ps arrays is same = ap (λ (xs : List Array). equalled ps (all_same xs)) (sym is) ∙ ap (equalled ps) (sym same)

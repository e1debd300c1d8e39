-- What is made of coordinates holds what a coordinate may hold.
use Rattle.std.proofs.Common.{◌≡◌, ◌∙◌, ℕ, Bool, true, false, cond, List, [], ◌∷◌, ◌++◌, map, flat_map, Option, Some, None, Result, Ok, Err, refl, sym, ap, subst}
use Rattle.std.specs.Prelude.{find}
use Rattle.std.specs.Str.{bytes_eq}
use Rattle.std.specs.List.{AllByRecursion}
use Rattle.xr_types.specs.Names.{shape_over}
use Rattle.xr_types.specs.Results.{◌>>=◌, unless}
use Rattle.xr_types.specs.declared.axis.Axis.{Axis}
use Rattle.xr_types.specs.declared.fault.Fault.{Fault}
use Rattle.xr_types.specs.declared.fault.Fault.TheVariants.{Conflict}
use Rattle.xr_arrays.specs.Arrays.{IsArray}
use Rattle.xr_combination.specs.Concat.{coord_pieces, piece_coord}
use Rattle.xr_combination.specs.Merge.{contents_merged, coord_merged, first_coord, have_cells, may_stand, merged_or_own}
use Rattle.xr_combination.specs.Pieces.{Piece, coords_called, each_of}
use Rattle.xr_combination.specs.declared.compat.Compat.{Compat}
use Rattle.xr_defs.specs.Carrying.{joined_coord}
use Rattle.xr_defs.specs.Values as of
use Rattle.xr_defs.specs.WellFormed.{IsContent, IsCoordinate}
use Rattle.xr_defs.specs.declared.value.Content.{Content}
use Rattle.xr_defs.specs.declared.value.Content.TheVariants as contents
use Rattle.xr_defs.specs.declared.value.Coord.{Coord}
use Rattle.xr_merge.proofs.Arrays.{own_is, HoldsArray}
use Rattle.xr_joint.proofs.Firsts.{found_holds}
use Rattle.xr_joint.specs.Joint.{IsSound, IsSoundContent}
use Rattle.xr_joint.specs.Sound.{HasCoordinates}

sound_content : (shape : List ℕ) (c : Content) → IsContent shape c → IsSoundContent shape c
sound_content shape (contents.Cells a masked) is = record { whole = is.1.whole ∙ ap Rattle.xr_types.specs.Points.size (sym is.0); range = is.1.range }
sound_content shape (contents.Text text) is = is
sound_content shape (contents.Time coding t) is = is

-- ---- those of a name

abbrev is_called : List ℕ → Coord → Bool
is_called name c = bytes_eq c.name name

all_sound : (axes : List Axis) (cs : List Coord) → AllByRecursion (IsCoordinate axes) cs → AllByRecursion IsSound cs
all_sound axes [] all = tt
all_sound axes (c ∷ cs) all = (sound_content (shape_over c.axes) c.content all.0.content, all_sound axes cs all.1)

called_sound : (name : List ℕ) (ss : List of.Dataset) → AllByRecursion HasCoordinates ss → AllByRecursion IsSound (coords_called name ss)
called_sound name [] all = tt
called_sound name (s ∷ ss) all = by (find (is_called name) s.coords) (λ c is. found_holds IsSound (is_called name) s.coords c (all_sound s.axes s.coords all.0) is) (called_sound name ss all.1)
  where
    by : (o : Option Coord) → ((c : Coord) → o ≡ Some c → IsSound c) → AllByRecursion IsSound (coords_called name ss) → AllByRecursion IsSound (elim o [ None ↦ coords_called name ss | Some c ↦ c ∷ coords_called name ss ])
    by None holds rest = rest
    by (Some c) holds rest = (holds c refl, rest)

-- ---- one of them

one_piece : (c : Coord) (content : Content) (ps : List Piece) → IsSoundContent (shape_over c.axes) content → AllByRecursion HoldsArray ps → AllByRecursion HoldsArray (coord_pieces (record c { content = content }) ++ ps)
one_piece c (contents.Cells a masked) ps is rest = (is, rest)
one_piece c (contents.Text text) ps is rest = rest
one_piece c (contents.Time coding t) ps is rest = rest

pieces_hold : (cs : List Coord) → AllByRecursion IsSound cs → AllByRecursion HoldsArray (flat_map coord_pieces cs)
pieces_hold [] all = tt
pieces_hold (c ∷ cs) all = one_piece c c.content (flat_map coord_pieces cs) all.0 (pieces_hold cs all.1)

first_sound : (cs : List Coord) → AllByRecursion IsSound cs → IsSound (first_coord cs)
first_sound [] all = Rattle.xr_merge.proofs.Arrays.first_is [] tt
first_sound (c ∷ cs) all = all.0

contents_sound : (compat : Compat) (cs : List Coord) (c : Coord) → AllByRecursion IsSound cs → contents_merged compat cs ≡ Ok c → IsSound c
unfolding contents_merged
contents_sound compat cs c all is = by (unless (may_stand compat cs) Conflict) is
  where
    by : (u : Result (Unit {0}) Fault) → (u >>= λ v. Ok (joined_coord cs (first_coord cs))) ≡ Ok c → IsSound c
    by (Ok v) e = let same : joined_coord cs (first_coord cs) ≡ c = cc in subst IsSound same (first_sound cs all)
    by (Err f) e = absurd cc

coord_sound : (compat : Compat) (axes : List Axis) (ss : List of.Dataset) (name : List ℕ) (c : Coord) → AllByRecursion HasCoordinates ss → coord_merged compat axes ss name ≡ Ok c → IsSound c
unfolding coord_merged
coord_sound compat axes ss name c all is = by (have_cells (coords_called name ss)) is
  where
    sound : AllByRecursion IsSound (coords_called name ss)
    sound = called_sound name ss all

    of_cells : (r : Result Piece Fault) → merged_or_own compat (flat_map coord_pieces (coords_called name ss)) ≡ r → (r >>= λ p. Ok (piece_coord axes name p)) ≡ Ok c → IsSound c
    of_cells (Ok p) made e = let same : piece_coord axes name p ≡ c = cc in subst IsSound same (own_is compat (flat_map coord_pieces (coords_called name ss)) p (pieces_hold (coords_called name ss) sound) made)
    of_cells (Err f) made e = absurd cc

    by : (b : Bool) → cond b (merged_or_own compat (flat_map coord_pieces (coords_called name ss)) >>= λ p. Ok (piece_coord axes name p)) (contents_merged compat (coords_called name ss)) ≡ Ok c → IsSound c
    by true e = of_cells (merged_or_own compat (flat_map coord_pieces (coords_called name ss))) refl e
    by false e = contents_sound compat (coords_called name ss) c sound e

pub coords_sound : (compat : Compat) (axes : List Axis) (ss : List of.Dataset) (names : List (List ℕ)) (cs : List Coord) → AllByRecursion HasCoordinates ss → each_of (coord_merged compat axes ss) names ≡ Ok cs → AllByRecursion IsSound cs
unfolding each_of
coords_sound compat axes ss [] cs all is = let same : [] ≡ cs = cc in subst (AllByRecursion IsSound) same tt
coords_sound compat axes ss (n ∷ ns) cs all is = by (coord_merged compat axes ss n) refl (each_of (coord_merged compat axes ss) ns) refl is (λ ds more. coords_sound compat axes ss ns ds all more)
  where
    by : (r : Result Coord Fault) → coord_merged compat axes ss n ≡ r → (rs : Result (List Coord) Fault) → each_of (coord_merged compat axes ss) ns ≡ rs → (r >>= λ d. rs >>= λ ds. Ok (d ∷ ds)) ≡ Ok cs
        → ((ds : List Coord) → each_of (coord_merged compat axes ss) ns ≡ Ok ds → AllByRecursion IsSound ds) → AllByRecursion IsSound cs
    by (Ok d) one (Ok ds) more e rest = let same : d ∷ ds ≡ cs = cc in subst (AllByRecursion IsSound) same (coord_sound compat axes ss n d all one, rest ds more)
    by (Ok d) one (Err f) more e rest = absurd cc
    by (Err f) one rs more e rest = absurd cc

-- The coordinates that stand for those of all hold what a coordinate may hold.
use Rattle.std.proofs.Common.{◌≡◌, ◌∙◌, ◌++◌, ℕ, Bool, true, false, List, [], ◌∷◌, map, flat_map, All, Option, Some, None, refl, sym, ap}
use Rattle.std.specs.Prelude.{if◌then◌else◌}
use Rattle.std.specs.List.{list_all, AllByRecursion}
use Rattle.std.proofs.lemmas.List.Elements.{All-nil, All-cons}
use Rattle.xr_types.specs.Names.{among, axis_names, shape_over}
use Rattle.xr_types.specs.Points.{size}
use Rattle.xr_types.specs.declared.axis.Axis.{Axis}
use Rattle.xr_types.specs.declared.kind.DType.{DType}
use Rattle.xr_arrays.specs.Arrays.{Array, at, IsArray, IsCell}
use Rattle.xr_arrays.specs.Nodes as nodes
use Rattle.plan_core.proofs.ElementRanges.{cast_in}
use Rattle.plan_core.proofs.Valued.{concat_is, made_is}
use Rattle.xr_combination.specs.Concat.{coord_concatenated, coord_kept, coord_of_all, coord_pieces, first_array, have_dims_in_order, piece_concatenated, piece_coord}
use Rattle.xr_combination.specs.Pieces.{Piece, as_kind, coords_called, first_piece, first_set, in_first_order, promoted_all}
use Rattle.xr_defs.specs.Carrying.{is_agreed, joined_coord}
use Rattle.xr_defs.specs.Values as of
use Rattle.xr_defs.specs.WellFormed.{IsContent, IsCoordinate}
use Rattle.xr_defs.specs.declared.value.Content.{Content}
use Rattle.xr_defs.specs.declared.value.Content.TheVariants as contents
use Rattle.xr_defs.specs.declared.value.Coord.{Coord}
use Rattle.xr_joint.specs.Joint.{IsSound, IsSoundContent}

-- ---- cells of one kind

cast_is : (t : DType) (a : Array) → IsArray (as_kind t a)
cast_is t a = made_is t _ _ (λ p here. cast_in t (at a p))

all_cast : (t : DType) (xs : List Array) → All IsArray (map (as_kind t) xs)
all_cast t [] = All-nil IsArray
all_cast t (a ∷ xs) = All-cons IsArray (as_kind t a) (map (as_kind t) xs) (cast_is t a) (all_cast t xs)

all_of_kind : (t : DType) (xs : List Array) → All (λ (b : Array). b.kind ≡ t) (map (as_kind t) xs)
all_of_kind t [] = All-nil (λ (b : Array). b.kind ≡ t)
all_of_kind t (a ∷ xs) = All-cons (λ (b : Array). b.kind ≡ t) (as_kind t a) (map (as_kind t) xs) refl (all_of_kind t xs)

end_to_end : (t : DType) (xs : List Array) (axis : ℕ) → IsArray (nodes.concatenated (map (as_kind t) xs) axis)
end_to_end t [] axis = concat_is [] axis (All-nil IsArray) (All-nil (λ (b : Array). b.kind ≡ (nodes.first_array []).kind))
end_to_end t (a ∷ xs) axis = concat_is (map (as_kind t) (a ∷ xs)) axis (all_cast t (a ∷ xs)) (all_of_kind t (a ∷ xs))

first_is : (t : DType) (xs : List Array) → IsArray (first_array (map (as_kind t) xs))
first_is t [] = record { whole = refl; range = All-cons (IsCell (first_piece []).array.kind) None [] tt (All-nil (IsCell (first_piece []).array.kind)) }
first_is t (a ∷ xs) = cast_is t a

picked_is : (b : Bool) (p q : Piece) → IsArray p.array → IsArray q.array → IsArray (if b then p else q).array
picked_is true p q first second = first
picked_is false p q first second = second

joined_is : (dim : List ℕ) (t : DType) (ps : List Piece) → IsArray (piece_concatenated false dim t ps).array
joined_is dim t ps = picked_is (among (first_piece ps).dims dim) _ _ (end_to_end t (in_first_order ps) _) (first_is t (in_first_order ps))

-- ---- coordinates

sound_content : (shape : List ℕ) (c : Content) → IsContent shape c → IsSoundContent shape c
sound_content shape (contents.Cells a masked) is = record { whole = is.1.whole ∙ ap size (sym is.0); range = is.1.range }
sound_content shape (contents.Text text) is = is
sound_content shape (contents.Time coding t) is = is

abbrev AreSound : List Coord → Type 0
AreSound cs = AllByRecursion IsSound cs

picked_sound : (b : Bool) (cs ds : List Coord) → AreSound cs → AreSound ds → AreSound (if b then cs else ds)
picked_sound true cs ds first second = first
picked_sound false cs ds first second = second

both_sound : (cs ds : List Coord) → AreSound cs → AreSound ds → AreSound (cs ++ ds)
both_sound [] ds first second = second
both_sound (c ∷ cs) ds first second = (first.0, both_sound cs ds first.1 second)

module _ (dim : List ℕ) (axes : List Axis) where
  concatenated_sound : (c : Coord) (cs : List Coord) → AreSound (coord_concatenated dim axes c cs)
  concatenated_sound c cs = picked_sound (list_all (have_dims_in_order c) cs) _ [] (by (promoted_all (map (λ (p : Piece). p.array.kind) ps))) tt
    where
      ps : List Piece
      ps = flat_map coord_pieces cs

      by : (o : Option DType) → AreSound (elim o [ None ↦ [] | Some t ↦ piece_coord axes c.name (piece_concatenated false dim t ps) ∷ [] ])
      by None = tt
      by (Some t) = (joined_is dim t ps, tt)

  kept_sound : (c : Coord) (cs : List Coord) → IsSound c → AreSound (coord_kept c cs)
  kept_sound c cs is = picked_sound (is_agreed cs c) (joined_coord cs c ∷ []) [] (is, tt) tt

  one_sound : (ss : List of.Dataset) (c : Coord) → IsSound c → AreSound (coord_of_all dim axes ss c)
  one_sound ss c is =
      picked_sound _ [] _ tt (picked_sound (among (axis_names c.axes) dim) (coord_concatenated dim axes c (coords_called c.name ss)) (coord_kept c (coords_called c.name ss)) (concatenated_sound c (coords_called c.name ss)) (kept_sound c (coords_called c.name ss) is))

  each_sound : (ss : List of.Dataset) (own : List Axis) (cs : List Coord) → AllByRecursion (IsCoordinate own) cs → AreSound (flat_map (coord_of_all dim axes ss) cs)
  each_sound ss own [] all = tt
  each_sound ss own (c ∷ cs) all =
      both_sound (coord_of_all dim axes ss c) (flat_map (coord_of_all dim axes ss) cs) (one_sound ss c (sound_content (shape_over c.axes) c.content all.0.content)) (each_sound ss own cs all.1)

  pub coords_sound : (ss : List of.Dataset) → AllByRecursion (λ (s : of.Dataset). AllByRecursion (IsCoordinate s.axes) s.coords) ss → AreSound (flat_map (coord_of_all dim axes ss) (first_set ss).coords)
  coords_sound [] all = tt
  coords_sound (s ∷ ss) all = each_sound (s ∷ ss) s.axes s.coords all.0

-- The grid, step by step as the program makes it.
use Rattle.std.proofs.Common.{◌≡◌, ◌∙◌, ◌&&◌, ℕ, Bool, List, [], ◌∷◌, length, map, get_or, Result, Ok, Err, refl, sym, ap}
use Rattle.std.specs.Prelude.{◌==◌, not}
use Rattle.std.specs.List.{list_all, range_with_len}
use Rattle.xr_types.specs.Points.{place, size}
use Rattle.xr_types.specs.Results.{◌>>=◌, unless}
use Rattle.xr_types.specs.declared.axis.Axis.{Axis}
use Rattle.xr_types.specs.declared.axis.LabelList.{LabelList}
use Rattle.xr_types.specs.declared.fault.Fault.{Fault}
use Rattle.xr_types.specs.declared.fault.Fault.TheVariants.{Conflict, LabelKind, NotMonotonic}
use Rattle.xr_defs.specs.Limits.{are_different}
use Rattle.xr_combination.specs.Combine.{all_ascend, are_filled, are_of_one_kind, are_ordered, check_grid, extent, extents, grid_dimensions, grid_of, is_full, lists_along, place_of_tile, places, ranks}
use Rattle.xr_combination.specs.declared.grid.Grid.{Grid}
use Rattle.xr_tiling.specs.Places.{check_dims, extents_in, full_places, grid_in, is_full_in, order_of, place_in, places_in, point_in, ranking_of, rises_in}
use Rattle.xr_arrays.specs.declared.node.Node.{Node}
use Rattle.xr_defs.specs.Values as of
use Rattle.xr_values.specs.Stands.{dataset_in}
use Rattle.xr_values.specs.declared.dataset.Dataset.{Dataset}

-- ---- rankings of the labels along each dimension

extents_are : (dims : List (List LabelList)) → extents_in (map ranking_of dims) ≡ extents dims
extents_are [] = refl
extents_are (ls ∷ dims) = λ i. extent ls ∷ extents_are dims i

rises_are : (dims : List (List LabelList)) → rises_in (map ranking_of dims) ≡ map all_ascend dims
rises_are [] = refl
rises_are (ls ∷ dims) = λ i. all_ascend ls ∷ rises_are dims i

point_is : (dims : List (List LabelList)) (k : ℕ) → point_in (map ranking_of dims) k ≡ map (λ ls. get_or (ranks ls) k 0) dims
point_is [] k = refl
point_is (ls ∷ dims) k = λ i. get_or (ranks ls) k 0 ∷ point_is dims k i

place_is : (dims : List (List LabelList)) (k : ℕ) → place_in (map ranking_of dims) k ≡ place_of_tile dims k
place_is dims k = λ i. place (extents_are dims i) (point_is dims k i)

places_are : (dims : List (List LabelList)) (count : ℕ) → places_in (map ranking_of dims) count ≡ places dims count
places_are dims count = λ i. map (λ k. place_is dims k i) (range_with_len 0 count)

full_is : (dims : List (List LabelList)) (count : ℕ) → is_full_in (map ranking_of dims) count ≡ is_full dims count
full_is dims count = λ i. (count == size (extents_are dims i)) && are_different (places_are dims count i)

-- ---- the grid

-- the first three checks, and then whether the grid is full
checked_in_turn : {A : Type 0} (a b c : Result (Unit {0}) Fault) (r : Result A Fault) → (a >>= λ u. b >>= λ v. c >>= λ w. r) ≡ ((a >>= λ u. b >>= λ v. c) >>= λ w. r)
checked_in_turn (Ok u) (Ok v) (Ok w) r = refl
checked_in_turn (Ok u) (Ok v) (Err e) r = refl
checked_in_turn (Ok u) (Err e) c r = refl
checked_in_turn (Err e) b c r = refl

check_told : (ds : List (List LabelList)) (count : ℕ) → check_grid ds count ≡ (check_dims ds >>= λ w. unless (is_full ds count) Conflict)
unfolding check_grid check_dims
check_told ds count =
    checked_in_turn (unless (not (length ds == 0) && list_all are_filled ds) Conflict) (unless (list_all are_ordered ds) NotMonotonic) (unless (list_all are_of_one_kind ds) LabelKind) (unless (is_full ds count) Conflict)

-- the places of a full grid
full_told : (ds : List (List LabelList)) (count : ℕ) → full_places (map ranking_of ds) count ≡ (unless (is_full ds count) Conflict >>= λ u. Ok (places ds count))
unfolding full_places
full_told ds count = λ i. unless (full_is ds count i) Conflict >>= λ u. Ok (places_are ds count i)

in_turn : {A B C : Type 0} (a : Result A Fault) (b : Result (Unit {0}) Fault) (ps : B) (f : B → C) → ((a >>= λ w. b) >>= λ u. Ok (f ps)) ≡ (a >>= λ w. (b >>= λ u. Ok ps) >>= λ qs. Ok (f qs))
in_turn (Ok x) (Ok u) ps f = refl
in_turn (Ok x) (Err e) ps f = refl
in_turn (Err e) b ps f = refl

module _ (names : List (List ℕ)) (ds : List (List LabelList)) (count : ℕ) where
  abbrev made : List ℕ → List Bool → List ℕ → Grid
  made shape rises ps = record { dims = names; shape = shape; rises = rises; order = order_of ps count }

  grid_told : (check_grid ds count >>= λ u. Ok (made (extents ds) (map all_ascend ds) (places ds count))) ≡ grid_in names ds count
  unfolding grid_in
  grid_told =
      ap (λ r. r >>= λ u. Ok (made (extents ds) (map all_ascend ds) (places ds count))) (check_told ds count)
      ∙ in_turn (check_dims ds) (unless (is_full ds count) Conflict) (places ds count) (made (extents ds) (map all_ascend ds))
      ∙ (λ i. check_dims ds >>= λ u. sym (full_told ds count) i >>= λ ps. Ok (made (sym (extents_are ds) i) (sym (rises_are ds) i) ps))

module _ (sets : List (List Axis)) where
  grid_over : grid_of sets ≡ grid_in (grid_dimensions sets) (map (lists_along sets) (grid_dimensions sets)) (length sets)
  unfolding grid_of
  grid_over = grid_told (grid_dimensions sets) (map (lists_along sets) (grid_dimensions sets)) (length sets)

  pub grid_is : (names : List (List ℕ)) (ds : List (List LabelList)) (count : ℕ) → names ≡ grid_dimensions sets → ds ≡ map (lists_along sets) names → count ≡ length sets → grid_in names ds count ≡ grid_of sets
  grid_is names ds count names_are ds_are count_is =
      (λ i. grid_in (names_are i) ((ds_are ∙ ap (map (lists_along sets)) names_are) i) (count_is i)) ∙ sym grid_over

-- ---- the axes of datasets of the program

pub axes_are : (nodes : List Node) (ss : List Dataset) → map (λ (s : of.Dataset). s.axes) (map (dataset_in nodes) ss) ≡ map (λ (s : Dataset). s.axes) ss
axes_are nodes [] = refl
axes_are nodes (s ∷ ss) = λ i. s.axes ∷ axes_are nodes ss i

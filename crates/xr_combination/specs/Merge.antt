-- merge(LIST, compat="no_conflicts", join="outer", fill_value?): the variables and coordinates of several values in one dataset
-- (xarray user guide, "Combining data", "Merge"; `xarray.merge`).
use Rattle.std.specs.Prelude.{◌==◌, ◌&&◌, ◌||◌, ℕ, ℤ, Bool, true, false, not, codes, List, [], ◌∷◌, length, map, filter, flat_map, Option, None, is_some, Result, Ok, if◌then◌else◌}
use Rattle.std.specs.Ordering.{int_eq}
use Rattle.std.specs.List.{list_all, list_any}
use Rattle.xr_types.specs.Names.{among, axis_names}
use Rattle.xr_types.specs.Points.{tab}
use Rattle.xr_types.specs.Results.{◌>>=◌, unless, all_of}
use Rattle.xr_types.specs.declared.axis.Axis.{Axis}
use Rattle.xr_types.specs.declared.fault.Fault.{Fault}
use Rattle.xr_types.specs.declared.fault.Fault.TheVariants.{Conflict, DuplicateName}
use Rattle.xr_types.specs.declared.kind.DType.{DType}
use Rattle.xr_types.specs.declared.operation.How.{How}
use Rattle.xr_arrays.specs.Arrays.{Array, at, made}
use Rattle.xr_arrays.specs.Elements.{filled}
use Rattle.xr_defs.specs.Building.{argument, bound, option, required}
use Rattle.xr_defs.specs.Carrying.{joined_attrs, joined_coord, same_content}
use Rattle.xr_defs.specs.Meanings as of
use Rattle.xr_defs.specs.Meanings.{Given, Value}
use Rattle.xr_defs.specs.Parts.{without_idle}
use Rattle.xr_defs.specs.Selecting.{check_set}
use Rattle.xr_defs.specs.Values.{Dataset, Variable, present}
use Rattle.xr_defs.specs.WellFormed.{names_of}
use Rattle.xr_defs.specs.declared.value.Coord.{Coord}
use Rattle.xr_operations.specs.Alignment.{aligned, names_once}
use Rattle.xr_relations.specs.Aligning.{fill_cell, fill_given, fitted_set, has_coord, has_index, is_reserved}
use Rattle.xr_combination.specs.declared.compat.Compat.{Compat}
use Rattle.xr_combination.specs.declared.compat.Compat.TheVariants.{NoConflicts, Equals, Override}
use Rattle.xr_combination.specs.Arguments.{compat_given, how_given, named_given}
use Rattle.xr_combination.specs.Concat.{coord_pieces, first_array, in_kind, piece_coord, set_names}
use Rattle.xr_combination.specs.Pieces.{Piece, all_attrs, all_same, all_skipped, as_dataset, check_fill, common_kind_of, coords_called, each_of, first_piece, have_dims_of_first, have_same_dims, in_first_order, is_set, piece_variable, variable_piece, variables_called}

-- ---- names

-- a data variable of the one has the name of a dimension or coordinate of the other
abbrev pub crosses : Dataset → Dataset → Bool
crosses s t = list_any (is_reserved t.axes t.coords) (set_names s)

-- one has the name of a coordinate or index of its own, as an array may
abbrev pub crosses_own : Dataset → Bool
crosses_own s = list_any (λ n. has_coord s.coords n || has_index s.axes n) (set_names s)

abbrev pub have_crossing : List Dataset → Bool
have_crossing [] = false
have_crossing (s ∷ ss) = crosses_own s || (list_any (λ t. crosses s t || crosses t s) ss || have_crossing ss)

abbrev pub all_variables : List Dataset → List (List ℕ)
all_variables ss = names_once (flat_map set_names ss)

-- a coordinate that is named as a dimension is dropped
abbrev pub all_coords : List Axis → List Dataset → List (List ℕ)
all_coords axes ss = filter (λ n. not (among (axis_names axes) n)) (names_once (flat_map (λ (s : Dataset). names_of s.coords) ss))

-- ---- what several have

abbrev pub pieces_of : List Dataset → List ℕ → List Piece
pieces_of ss name = map variable_piece (variables_called name ss)

abbrev pub have_one_set_of_dims : List Coord → Bool
have_one_set_of_dims [] = true
have_one_set_of_dims (c ∷ cs) = list_all (λ (d : Coord). have_same_dims (axis_names c.axes) (axis_names d.axes)) cs

-- the same set of dimensions
unfoldable pub check_dims : List Axis → List Dataset → Result (Unit {0}) Fault
check_dims axes ss =
    unless (list_all (λ n. have_dims_of_first (pieces_of ss n)) (all_variables ss)
    && list_all (λ n. have_one_set_of_dims (coords_called n ss)) (all_coords axes ss)) Conflict

-- ---- cells

abbrev pub cells_at : List Array → List ℕ → List (Option ℤ)
cells_at arrays p = map (λ a. at a p) arrays

-- the numbers are one
abbrev pub are_one : List ℤ → Bool
are_one [] = true
are_one (n ∷ ns) = list_all (int_eq n) ns

-- at each point the cells that aren't missing agree
abbrev pub agree : List Array → Bool
agree arrays = list_all are_one (tab (first_array arrays).shape (λ p. present (cells_at arrays p)))

-- the number that the cells share, or none
abbrev pub shared_cell : List (Option ℤ) → Option ℤ
shared_cell [] = None
shared_cell (c ∷ cs) = filled c (shared_cell cs)

abbrev pub shared_array : DType → List Array → Array
shared_array t arrays = made t (first_array arrays).shape (λ p. shared_cell (cells_at arrays p))

abbrev pub are_all_masked : List Piece → Bool
are_all_masked ps = list_all (λ (p : Piece). p.masked) ps

-- one piece of those of a name, of which there are several
unfoldable pub merged_pieces : Compat → List Piece → Result Piece Fault
merged_pieces NoConflicts ps =
    unless (agree (in_first_order ps)) Conflict >>= λ u. common_kind_of ps >>= λ t.
    Ok (record { dims = (first_piece ps).dims; array = shared_array t (in_kind t ps); masked = are_all_masked ps; attrs = all_attrs ps })
merged_pieces Equals ps = unless (all_same (in_first_order ps)) Conflict >>= λ u. Ok (record (first_piece ps) { attrs = all_attrs ps })
merged_pieces Override ps = Ok (record (first_piece ps) { attrs = all_attrs ps })

-- what one alone has stays as it is
unfoldable pub merged_or_own : Compat → List Piece → Result Piece Fault
merged_or_own compat (p ∷ []) = Ok p
merged_or_own compat ps = merged_pieces compat ps

unfoldable pub variable_merged : Compat → List Dataset → List ℕ → Result Variable Fault
variable_merged compat ss name = merged_or_own compat (pieces_of ss name) >>= λ p. Ok (piece_variable name p)

-- ---- coordinates: a text, a time and cells conflict with one another

abbrev pub no_coord : Coord
no_coord = piece_coord [] [] (first_piece [])

abbrev pub first_coord : List Coord → Coord
first_coord [] = no_coord
first_coord (c ∷ cs) = c

abbrev pub may_stand : Compat → List Coord → Bool
may_stand Override cs = true
may_stand NoConflicts cs = list_all (λ (c : Coord). same_content (first_coord cs).content c.content) cs
may_stand Equals cs = list_all (λ (c : Coord). same_content (first_coord cs).content c.content) cs

-- those of which some has no cells
unfoldable pub contents_merged : Compat → List Coord → Result Coord Fault
contents_merged compat cs = unless (may_stand compat cs) Conflict >>= λ u. Ok (joined_coord cs (first_coord cs))

abbrev pub have_cells : List Coord → Bool
have_cells cs = list_all (λ c. length (coord_pieces c) == 1) cs

unfoldable pub coord_merged : Compat → List Axis → List Dataset → List ℕ → Result Coord Fault
coord_merged compat axes ss name =
    (let cs = coords_called name ss in
    if have_cells cs then (merged_or_own compat (flat_map coord_pieces cs) >>= λ p. Ok (piece_coord axes name p)) else contents_merged compat cs)

-- ---- merge

-- the joins of all dimensions; names; dimensions; the fill where it is needed, and the limits of each value over the joined axes, before
-- a cell is computed; then name by name the variables and the coordinates; the limits of the result
unfoldable pub merge_of : Compat → How → Option Value → List Value → Result Dataset Fault
merge_of compat j fill vs =
    (let ss = map as_dataset vs in
    aligned j (is_some fill) (map (λ (s : Dataset). s.axes) ss) >>= λ axes. unless (not (have_crossing ss)) DuplicateName >>= λ u. check_dims axes ss >>= λ v.
    all_of (check_fill axes fill) ss >>= λ w.
    (let ts = map (fitted_set axes (fill_cell fill)) ss in
    all_of check_set ts >>= λ l. each_of (variable_merged compat ts) (all_variables ts) >>= λ vars.
    each_of (coord_merged compat axes ts) (all_coords axes ts) >>= λ coords.
    (let r = without_idle (record {
      axes = axes;
      coords = coords;
      vars = vars;
      attrs = joined_attrs (map (λ (s : Dataset). s.attrs) (map as_dataset (filter is_set vs)));
      skipped = all_skipped ss;
    }) in
    check_set r >>= λ x. Ok r)))

-- the list has a name that no keyword has: it stands in its place alone
unfoldable pub merge_called : Given → Result Value Fault
merge_called g =
    bound (codes "list of values" ∷ codes "compat" ∷ codes "join" ∷ codes "fill_value" ∷ []) g >>= λ args. required (argument args 0) >>= λ l.
    named_given l >>= λ vs. compat_given (option args 1) >>= λ compat. how_given (option args 2) >>= λ j. fill_given (option args 3) >>= λ fill.
    merge_of compat j fill vs >>= λ s. Ok (of.Set s)

-- combine_by_coords(LIST, compat="no_conflicts", join="outer", fill_value?): datasets that are tiles of a grid, put together by the labels
-- of their dimensions (xarray user guide, "Combining data", "Combining along multiple dimensions"; `xarray.combine_by_coords`).
use Rattle.std.specs.Prelude.{◌==◌, ◌+◌, ◌*◌, ◌&&◌, ◌||◌, ℕ, Bool, true, false, not, codes, List, [], ◌∷◌, length, map, filter, fold, zip, ◌++◌, get_or, Option, Some, None, Result, Ok, if◌then◌else◌}
use Rattle.std.specs.List.{list_all, range_with_len, position_or_len}
use Rattle.std.specs.BTreeSet.{insert_key}
use Rattle.std.specs.Cmp.Lexicographic.{slice_cmp}
use Rattle.std.specs.declared.cmp.Ordering.{Ordering}
use Rattle.std.specs.Ordering.{is_eq, nat_cmp}
use Rattle.xr_types.specs.Names.{axis_names}
use Rattle.xr_types.specs.Points.{place, size}
use Rattle.xr_types.specs.Results.{◌>>=◌, unless, all_of}
use Rattle.xr_types.specs.declared.axis.Axis.{Axis}
use Rattle.xr_types.specs.declared.axis.Label.{Label}
use Rattle.xr_types.specs.declared.axis.LabelList.{LabelList}
use Rattle.xr_types.specs.declared.fault.Fault.{Fault}
use Rattle.xr_types.specs.declared.fault.Fault.TheVariants.{Conflict, LabelKind, NotMonotonic}
use Rattle.xr_types.specs.declared.operation.How.{How}
use Rattle.xr_arrays.specs.Labels.{below, is_ascending, is_descending, label_at, labels_of}
use Rattle.xr_defs.specs.Building.{argument, bound, option, required, equal_labels}
use Rattle.xr_defs.specs.Limits.{are_different}
use Rattle.xr_defs.specs.Meanings as of
use Rattle.xr_defs.specs.Meanings.{Given, Value}
use Rattle.xr_defs.specs.Selecting.{axis_called}
use Rattle.xr_defs.specs.Values.{Dataset}
use Rattle.xr_operations.specs.Alignment.{are_kin, axes_named, holds_label, indexes, is_empty, listed}
use Rattle.xr_relations.specs.Aligning.{fill_given}
use Rattle.xr_combination.specs.declared.compat.Compat.{Compat}
use Rattle.xr_combination.specs.declared.grid.Grid.{Grid}
use Rattle.xr_combination.specs.Arguments.{compat_given, how_given, sets_given}
use Rattle.xr_combination.specs.Concat.{concat_of, set_names}
use Rattle.xr_combination.specs.Merge.{merge_of}
use Rattle.xr_combination.specs.Pieces.{as_dataset, each_of, first_set, no_set}

-- ---- groups by the names of data variables

-- ascending by bytes
abbrev pub sorted_names : Dataset → List (List ℕ)
sorted_names s = fold (insert_key (slice_cmp nat_cmp)) [] (set_names s)

abbrev pub names_cmp : List (List ℕ) → List (List ℕ) → Ordering
names_cmp = slice_cmp (slice_cmp nat_cmp)

-- name by name, a prefix first
abbrev pub groups : List Dataset → List (List Dataset)
groups ss = map (λ names. filter (λ s. is_eq (names_cmp names (sorted_names s))) ss) (fold (insert_key names_cmp) [] (map sorted_names ss))

-- ---- the dimensions of a grid

-- the labels along a dimension, of each that has an index there
abbrev pub lists_along : List (List Axis) → List ℕ → List LabelList
lists_along sets dim = listed (indexes (axes_named dim sets))

abbrev pub differ : List LabelList → Bool
differ [] = false
differ (l ∷ ls) = not (list_all (equal_labels l) ls)

-- all have an index there, and the labels differ
abbrev pub is_grid_dimension : List (List Axis) → List ℕ → Bool
is_grid_dimension sets dim = (length (lists_along sets dim) == length sets) && differ (lists_along sets dim)

abbrev pub first_axes : List (List Axis) → List Axis
first_axes [] = []
first_axes (axes ∷ sets) = axes

-- in the order of the first one's axes
abbrev pub grid_dimensions : List (List Axis) → List (List ℕ)
grid_dimensions sets = filter (is_grid_dimension sets) (axis_names (first_axes sets))

-- ---- the place along a dimension

abbrev pub are_filled : List LabelList → Bool
are_filled ls = list_all (λ l. not (is_empty (labels_of l))) ls

abbrev pub all_ascend : List LabelList → Bool
all_ascend ls = list_all (λ l. is_ascending (labels_of l)) ls

abbrev pub all_descend : List LabelList → Bool
all_descend ls = list_all (λ l. is_descending (labels_of l)) ls

-- the labels of all ascend, or else those of all descend; those of one label do both
abbrev pub are_ordered : List LabelList → Bool
are_ordered ls = all_ascend ls || all_descend ls

abbrev pub are_of_one_kind : List LabelList → Bool
are_of_one_kind [] = true
are_of_one_kind (l ∷ ls) = list_all (are_kin l) ls

abbrev pub first_label : LabelList → Label
first_label l = label_at (labels_of l) 0

abbrev pub heads : List LabelList → List Label
heads ls = map first_label ls

-- l stands before m
abbrev pub comes_before : Bool → Label → Label → Bool
comes_before true l m = below l m
comes_before false l m = below m l

-- a label behind others, unless it is one of them
abbrev pub add_label : List Label → Label → List Label
add_label ls l = if holds_label ls l then ls else ls ++ l ∷ []

-- each label once
abbrev pub distinct_labels : List Label → List Label
distinct_labels ls = fold add_label [] ls

-- how many first labels stand before one; equal ones count once
abbrev pub rank_of : Bool → List Label → Label → ℕ
rank_of rises distinct l = length (filter (λ m. comes_before rises m l) distinct)

-- of each dataset
abbrev pub ranks : List LabelList → List ℕ
ranks ls = map (rank_of (all_ascend ls) (distinct_labels (heads ls))) (heads ls)

-- how many places there are
abbrev pub extent : List LabelList → ℕ
extent ls = length (distinct_labels (heads ls))

-- ---- the place in the grid, of which these are the dimensions, each by the labels of all datasets along it

abbrev pub extents : List (List LabelList) → List ℕ
extents dims = map extent dims

-- the place of a dataset, in row order
abbrev pub place_of_tile : List (List LabelList) → ℕ → ℕ
place_of_tile dims i = place (extents dims) (map (λ ls. get_or (ranks ls) i 0) dims)

abbrev pub places : List (List LabelList) → ℕ → List ℕ
places dims count = map (place_of_tile dims) (range_with_len 0 count)

-- each place once
abbrev pub is_full : List (List LabelList) → ℕ → Bool
is_full dims count = (count == size (extents dims)) && are_different (places dims count)

-- the dataset of each place
abbrev pub tiles_in_order : List (List LabelList) → ℕ → List ℕ
tiles_in_order dims count = map (λ k. position_or_len (λ p. p == k) (places dims count)) (range_with_len 0 count)

-- some dimension; indexes that aren't empty, each in a direction, of one kind; a full grid
unfoldable pub check_grid : List (List LabelList) → ℕ → Result (Unit {0}) Fault
check_grid dims count =
    unless (not (length dims == 0) && list_all are_filled dims) Conflict >>= λ u. unless (list_all are_ordered dims) NotMonotonic >>= λ v.
    unless (list_all are_of_one_kind dims) LabelKind >>= λ w. unless (is_full dims count) Conflict

-- the grid that datasets over these axes fill
unfoldable pub grid_of : List (List Axis) → Result Grid Fault
grid_of sets =
    (let names = grid_dimensions sets in
    let dims = map (lists_along sets) names in
    check_grid dims (length sets) >>= λ u.
    Ok (record { dims = names; shape = extents dims; rises = map all_ascend dims; order = tiles_in_order dims (length sets) }))

-- ---- a grid put together

-- those that have the same place along the later dimensions, in row order of which w is the size
abbrev pub in_line : ℕ → ℕ → List Dataset → ℕ → List Dataset
in_line n w tiles q = map (λ i. get_or tiles (i * w + q) no_set) (range_with_len 0 n)

unfoldable pub concat_sets : How → Option Value → List ℕ → List Dataset → Result Dataset Fault
concat_sets j fill dim ss = concat_of dim j fill (map of.Set ss) >>= λ v. Ok (as_dataset v)

-- along the first dimension, then the next
unfoldable pub grid_concatenated : How → Option Value → List (List ℕ) → List ℕ → List Dataset → Result Dataset Fault
grid_concatenated j fill [] shape tiles = Ok (first_set tiles)
grid_concatenated j fill (dim ∷ dims) [] tiles = Ok (first_set tiles)
grid_concatenated j fill (dim ∷ dims) (n ∷ ns) tiles =
    each_of (λ q. concat_sets j fill dim (in_line n (size ns) tiles q)) (range_with_len 0 (size ns)) >>= λ rest. grid_concatenated j fill dims ns rest

-- an index in the direction of those of which it is made
abbrev pub labels_along : Dataset → List ℕ → List Label
labels_along s dim = elim (axis_called s.axes dim).labels [ None ↦ [] | Some l ↦ labels_of l.list ]

unfoldable pub check_direction : Dataset → List ℕ × Bool → Result (Unit {0}) Fault
check_direction s d = unless (if d.1 then is_ascending (labels_along s d.0) else is_descending (labels_along s d.0)) NotMonotonic

unfoldable pub group_combined : How → Option Value → List Dataset → Result Dataset Fault
group_combined j fill (s ∷ []) = Ok s
group_combined j fill ss =
    grid_of (map (λ (s : Dataset). s.axes) ss) >>= λ g.
    grid_concatenated j fill g.dims g.shape (map (λ i. get_or ss i no_set) g.order) >>= λ s. all_of (check_direction s) (zip g.dims g.rises) >>= λ v. Ok s

-- ---- combine_by_coords

-- the groups are merged
unfoldable pub combine_of : Compat → How → Option Value → List Value → Result Dataset Fault
combine_of compat j fill vs = each_of (group_combined j fill) (groups (map as_dataset vs)) >>= λ ss. merge_of compat j fill (map of.Set ss)

-- the list has a name that no keyword has: it stands in its place alone
unfoldable pub combine_called : Given → Result Value Fault
combine_called g =
    bound (codes "list of datasets" ∷ codes "compat" ∷ codes "join" ∷ codes "fill_value" ∷ []) g >>= λ args. required (argument args 0) >>= λ l.
    sets_given l >>= λ vs. compat_given (option args 1) >>= λ compat. how_given (option args 2) >>= λ j. fill_given (option args 3) >>= λ fill.
    combine_of compat j fill vs >>= λ s. Ok (of.Set s)

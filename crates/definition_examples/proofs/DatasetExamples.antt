-- Worked calls on arrays and datasets, computed.
use Rattle.std.proofs.Common.{◌≡◌, ℕ, List, [], ◌∷◌, Some, None, Result, Ok, Err, refl}
use Rattle.std.specs.Prelude.{codes, ℤ, pos, negsuc, true, false, map}
use Rattle.std.specs.List.{range_with_len}
use Rattle.std.specs.Int.{int_wrap}
use Rattle.std.specs.Fmt.{digits}
use Rattle.std.specs.Str.{is_utf8, chars}
use lib.Utf8
use Rattle.xr_types.specs.declared.fault.Fault.{Fault}
use Rattle.xr_types.specs.declared.fault.Fault.TheVariants.{OutOfRange, NoDimension, BadArgument, WrongKind, SizeConflict, DuplicateName, DoesNotFit, CannotHold, TooLarge}
use Rattle.xr_types.specs.declared.axis.Axis.{Axis}
use Rattle.xr_types.specs.declared.kind.DType.TheVariants as kinds
use Rattle.xr_defs.specs.declared.slice.Part.TheVariants as part
use Rattle.xr_defs.specs.declared.value.Content.TheVariants as contents
use Rattle.xr_types.specs.Results.{◌>>=◌, unless}
use Rattle.xr_defs.specs.Values.{DataArray, Dataset, total}
use Rattle.xr_defs.specs.Meanings.{Value, Values, Number, Missing, Truth, Text, Sequence, Table, Slice, Array, NoValue, With, NoEntry, Entry, Given}
use Rattle.xr_defs.specs.Arguments.{only_of, as_text, as_position, as_positions, check_dimension, nothing_given}
use Rattle.xr_defs.specs.Selecting.{check_selector, as_selector, as_number, as_numbers, choice_of, position_in, positions_in, check_array, check_set}
use Rattle.xr_operations.specs.Indexing.{array_selected, choice_along, isel_array, selection_from, selection_given}
use Rattle.xr_defs.specs.Parts.{new_name, to_dataset, set_name, name_given, transposed, order_given, dimensions_at, dimension_at, as_texts, texts_in, as_names, names_given, dropped_of_array, attrs_assigned, check_attr, each_attr, attr_given, as_set}
use Rattle.xr_defs.specs.Building as build
use Rattle.xr_defs.specs.Building.{elements, data_array, array_built, bound, check_elements, dims_given, entries_given, check_table_entry, kind_given, check_entry, check_place, check_coordinate, check_labels, as_labels, with_entries, with_entry, with_labels, with_coordinate, coordinate_given, check_numbers, entries_assigned, coords_assigned, assigned_to_array, assigned_to_set}
use Rattle.xr_defs.specs.Encoding.{file_of, check_unlimited, check_names, check_records, check_fill, check_fit, check_cells}
use Rattle.xr_defs.specs.Sums.{sum_called}
use Rattle.xr_runs.specs.Calls.{set_written, write_asked, as_dataset, options_given, format_given, format_named, fill_given, unlimited_given}
use Rattle.xr_defs.specs.Printing.{array_text, set_text}

abbrev numbers : List ℤ → Values
numbers [] = NoValue
numbers (n ∷ ns) = joined (With NoValue (Number n)) ns
  where
    joined : Values → List ℤ → Values
    joined vs [] = vs
    joined vs (n ∷ ns) = joined (With vs (Number n)) ns

abbrev texts : List (List ℕ) → Values
texts [] = NoValue
texts (t ∷ []) = With NoValue (Text t)
texts (t ∷ u ∷ ts) = With (With NoValue (Text t)) (Text u)

abbrev plainly : List Value → Given
plainly vs = record { plain = vs; keyed = [] }

abbrev keyed : List (List ℕ × Value) → Given
keyed kvs = record { plain = []; keyed = kvs }

-- DataArray([10, 20, 30], dims=["x"], coords={"x": [1, 2, 3]})
abbrev arguments : Given
arguments = record {
  plain = Sequence (numbers (pos 10 ∷ pos 20 ∷ pos 30 ∷ [])) ∷ [];
  keyed = (codes "dims", Sequence (texts (codes "x" ∷ []))) ∷ (codes "coords", Table (Entry NoEntry (codes "x") (Sequence (numbers (pos 1 ∷ pos 2 ∷ pos 3 ∷ []))))) ∷ [];
}

abbrev text_of : Result DataArray Fault → Result (List ℕ) Fault
text_of r = r >>= λ a. Ok (array_text a)

built : text_of (data_array arguments) ≡ Ok (codes "DataArray - (x: 3) int64\n10 20 30\ncoord x int64 (x): 1 2 3\n")
unfolding elements data_array array_built bound check_elements dims_given entries_given check_table_entry kind_given build.name_given check_entry check_place check_coordinate check_labels as_labels texts_in as_text with_entries with_entry with_labels with_coordinate coordinate_given check_numbers check_array unless digits
built = refl

-- isel(x=-1), isel(x=3), isel(y=0), isel(x=slice(None, None, -2)), isel(x=[2, 0])
abbrev selected : List ℕ → Value → Result DataArray Fault
selected name v = data_array arguments >>= λ a. isel_array a (keyed ((name, v) ∷ []))

the_last : text_of (selected (codes "x") (Number (negsuc 0))) ≡ Ok (codes "DataArray - () int64\n30\ncoord x int64 (): 3\n")
unfolding elements data_array array_built bound check_elements dims_given entries_given check_table_entry kind_given build.name_given check_entry check_place check_coordinate check_labels as_labels texts_in as_text with_entries with_entry with_labels with_coordinate coordinate_given check_numbers check_array unless digits isel_array check_selector as_selector as_number as_numbers as_positions as_position check_dimension selection_given selection_from choice_along array_selected choice_of position_in positions_in
the_last = refl

past_the_end : selected (codes "x") (Number (pos 3)) ≡ Err OutOfRange
unfolding elements data_array array_built bound check_elements dims_given entries_given check_table_entry kind_given build.name_given check_entry check_place check_coordinate check_labels as_labels texts_in as_text with_entries with_entry with_labels with_coordinate coordinate_given check_numbers check_array unless digits isel_array check_selector as_selector as_number as_numbers as_positions as_position check_dimension selection_given selection_from choice_along array_selected choice_of position_in positions_in
past_the_end = refl

no_dimension : selected (codes "y") (Number (pos 0)) ≡ Err (NoDimension (codes "y"))
unfolding elements data_array array_built bound check_elements dims_given entries_given check_table_entry kind_given build.name_given check_entry check_place check_coordinate check_labels as_labels texts_in as_text with_entries with_entry with_labels with_coordinate coordinate_given check_numbers check_array unless digits isel_array check_selector as_selector as_number as_numbers as_positions as_position check_dimension selection_given selection_from choice_along array_selected choice_of position_in positions_in
no_dimension = refl

backwards : text_of (selected (codes "x") (Slice part.Open part.Open (Some (negsuc 1)))) ≡ Ok (codes "DataArray - (x: 2) int64\n30 10\ncoord x int64 (x): 3 1\n")
unfolding elements data_array array_built bound check_elements dims_given entries_given check_table_entry kind_given build.name_given check_entry check_place check_coordinate check_labels as_labels texts_in as_text with_entries with_entry with_labels with_coordinate coordinate_given check_numbers check_array unless digits isel_array check_selector as_selector as_number as_numbers as_positions as_position check_dimension selection_given selection_from choice_along array_selected choice_of position_in positions_in
backwards = refl

by_a_list : text_of (selected (codes "x") (Sequence (numbers (pos 2 ∷ pos 0 ∷ [])))) ≡ Ok (codes "DataArray - (x: 2) int64\n30 10\ncoord x int64 (x): 3 1\n")
unfolding elements data_array array_built bound check_elements dims_given entries_given check_table_entry kind_given build.name_given check_entry check_place check_coordinate check_labels as_labels texts_in as_text with_entries with_entry with_labels with_coordinate coordinate_given check_numbers check_array unless digits isel_array check_selector as_selector as_number as_numbers as_positions as_position check_dimension selection_given selection_from choice_along array_selected choice_of position_in positions_in
by_a_list = refl

-- a table of two rows, masked, with its dimensions changed over
abbrev table : Given
table = record {
  plain = Sequence (With (With NoValue (Sequence (With (With NoValue (Number (pos 1))) Missing))) (Sequence (numbers (pos 3 ∷ pos 4 ∷ [])))) ∷ [];
  keyed = (codes "dims", Sequence (texts (codes "x" ∷ codes "y" ∷ []))) ∷ (codes "name", Text (codes "v")) ∷ (codes "dtype", Text (codes "int8")) ∷ [];
}

turned : text_of (data_array table >>= λ a. transposed a (plainly [])) ≡ Ok (codes "DataArray v (y: 2, x: 2) int8 masked\n1 3\nNA 4\n")
unfolding elements data_array array_built bound check_elements dims_given entries_given check_table_entry kind_given build.name_given new_name check_entry check_place texts_in as_text with_entries check_array unless digits transposed as_texts order_given dimensions_at dimension_at
turned = refl

-- an array as a dataset, whose variable is picked again; a name that is taken
shown_as_set : (data_array arguments >>= λ a. to_dataset a (keyed ((codes "name", Text (codes "v")) ∷ [])) >>= λ s. Ok (set_text s)) ≡ Ok (codes "Dataset\ndim x: 3\ncoord x int64 (x): 1 2 3\nvar v int64 (x)\n")
unfolding elements data_array array_built bound check_elements dims_given entries_given check_table_entry kind_given build.name_given check_entry check_place check_coordinate check_labels as_labels texts_in as_text with_entries with_entry with_labels with_coordinate coordinate_given check_numbers check_array unless digits to_dataset set_name name_given new_name only_of as_set check_set
shown_as_set = refl

name_taken : (data_array arguments >>= λ a. to_dataset a (keyed ((codes "name", Text (codes "x")) ∷ []))) ≡ Err DuplicateName
unfolding elements data_array array_built bound check_elements dims_given entries_given check_table_entry kind_given build.name_given check_entry check_place check_coordinate check_labels as_labels texts_in as_text with_entries with_entry with_labels with_coordinate coordinate_given check_numbers check_array unless digits to_dataset set_name name_given new_name only_of as_set check_set
name_taken = refl

-- the faults of data: another number than the kind holds, lists of other lengths, too little nesting, a mixture
too_wide : data_array (record { plain = Sequence (numbers (pos 128 ∷ [])) ∷ Sequence (texts (codes "x" ∷ [])) ∷ []; keyed = (codes "dtype", Text (codes "int8")) ∷ [] }) ≡ Err DoesNotFit
unfolding elements data_array array_built bound check_elements dims_given entries_given check_table_entry kind_given build.name_given check_entry check_place texts_in as_text with_entries check_array unless digits
too_wide = refl

too_shallow : data_array (plainly (Sequence NoValue ∷ Sequence (texts (codes "x" ∷ codes "y" ∷ [])) ∷ [])) ≡ Err BadArgument
unfolding elements data_array array_built bound check_elements dims_given entries_given check_table_entry kind_given build.name_given check_entry check_place texts_in as_text with_entries check_array unless digits
too_shallow = refl

a_mixture : data_array (plainly (Sequence (With (With NoValue (Number (pos 1))) (Truth true)) ∷ Sequence (texts (codes "x" ∷ [])) ∷ [])) ≡ Err WrongKind
unfolding elements data_array array_built bound check_elements dims_given entries_given check_table_entry kind_given build.name_given check_entry check_place texts_in as_text with_entries check_array unless digits
a_mixture = refl

uneven : data_array (plainly (Sequence (With (With NoValue (Sequence (numbers (pos 1 ∷ [])))) (Sequence (numbers (pos 2 ∷ pos 3 ∷ [])))) ∷ Sequence (texts (codes "x" ∷ codes "y" ∷ [])) ∷ [])) ≡ Err SizeConflict
unfolding elements data_array array_built bound check_elements dims_given entries_given check_table_entry kind_given build.name_given check_entry check_place texts_in as_text with_entries check_array unless digits
uneven = refl

-- assign_coords(c=5, x=["a", "b", "c"]), and drop_vars("x")
labelled : text_of (data_array arguments >>= λ a. assigned_to_array a (keyed ((codes "c", Number (pos 5)) ∷ (codes "x", Sequence (With (texts (codes "a" ∷ codes "b" ∷ [])) (Text (codes "c")))) ∷ [])))
    ≡ Ok (codes "DataArray - (x: 3) int64\n10 20 30\ncoord x text (x): \"a\" \"b\" \"c\"\ncoord c int64 (): 5\n")
unfolding elements data_array array_built bound check_elements dims_given entries_given check_table_entry kind_given build.name_given check_entry check_place check_coordinate check_labels as_labels texts_in as_text with_entries with_entry with_labels with_coordinate coordinate_given check_numbers check_array unless digits assigned_to_array coords_assigned entries_assigned
labelled = refl

bare : text_of (data_array arguments >>= λ a. dropped_of_array a (plainly (Text (codes "x") ∷ []))) ≡ Ok (codes "DataArray - (x: 3) int64\n10 20 30\n")
unfolding elements data_array array_built bound check_elements dims_given entries_given check_table_entry kind_given build.name_given check_entry check_place check_coordinate check_labels as_labels texts_in as_text with_entries with_entry with_labels with_coordinate coordinate_given check_numbers check_array unless digits dropped_of_array names_given as_names
bare = refl

-- assign_attrs(units="m", n=3), and a number that isn't one of type int
with_attrs : text_of (data_array arguments >>= λ a. attrs_assigned a.attrs (keyed ((codes "units", Text (codes "m")) ∷ (codes "n", Number (negsuc 2)) ∷ [])) >>= λ more. Ok (record a { attrs = more }))
    ≡ Ok (codes "DataArray - (x: 3) int64\n10 20 30\ncoord x int64 (x): 1 2 3\nattr units char: \"m\"\nattr n int: -3\n")
unfolding elements data_array array_built bound check_elements dims_given entries_given check_table_entry kind_given build.name_given check_entry check_place check_coordinate check_labels as_labels texts_in as_text with_entries with_entry with_labels with_coordinate coordinate_given check_numbers check_array unless digits attrs_assigned check_attr each_attr attr_given is_utf8 chars Utf8.encode
with_attrs = refl

-- DataArray([200, 100], dims=["x"], dtype="uint8"): its sum is of kind uint64, and no version but 5 has a type that holds it
abbrev of_kind : List ℕ → List ℤ → Given
of_kind kind ns = record { plain = Sequence (numbers ns) ∷ Sequence (texts (codes "x" ∷ [])) ∷ []; keyed = (codes "name", Text (codes "u")) ∷ (codes "dtype", Text kind) ∷ [] }

unsigned : text_of (data_array (of_kind (codes "uint8") (pos 200 ∷ pos 100 ∷ []))) ≡ Ok (codes "DataArray u (x: 2) uint8\n200 100\n")
unfolding elements data_array array_built bound check_elements dims_given entries_given check_table_entry kind_given build.name_given check_entry check_place texts_in as_text with_entries check_array unless digits new_name
unsigned = refl

below_zero : data_array (of_kind (codes "uint8") (negsuc 0 ∷ [])) ≡ Err DoesNotFit
unfolding elements data_array array_built bound check_elements dims_given entries_given check_table_entry kind_given build.name_given check_entry check_place texts_in as_text with_entries check_array unless digits new_name
below_zero = refl

past_a_byte : data_array (of_kind (codes "uint8") (pos 256 ∷ [])) ≡ Err DoesNotFit
unfolding elements data_array array_built bound check_elements dims_given entries_given check_table_entry kind_given build.name_given check_entry check_place texts_in as_text with_entries check_array unless digits new_name
past_a_byte = refl

greatest : text_of (data_array (of_kind (codes "uint64") (pos 18446744073709551615 ∷ []))) ≡ Ok (codes "DataArray u (x: 1) uint64\n18446744073709551615\n")
unfolding elements data_array array_built bound check_elements dims_given entries_given check_table_entry kind_given build.name_given check_entry check_place texts_in as_text with_entries check_array unless digits new_name
greatest = refl

unsigned_sum : (data_array (of_kind (codes "uint8") (pos 200 ∷ pos 100 ∷ [])) >>= λ a. sum_called (plainly []) a) ≡ Ok (Array (record { name = Some (codes "u"); axes = []; kind = kinds.UInt64; masked = false; attrs = []; coords = []; cells = Some (pos 300) ∷ [] }))
unfolding elements data_array array_built bound check_elements dims_given entries_given check_table_entry kind_given build.name_given check_entry check_place texts_in as_text with_entries check_array unless digits new_name sum_called nothing_given
unsigned_sum = refl

-- the sum keeps the attributes, but for those that name fill numbers
sum_described : (data_array arguments >>= λ a. attrs_assigned a.attrs (keyed ((codes "units", Text (codes "m")) ∷ (codes "_FillValue", Number (pos 9)) ∷ (codes "n", Number (pos 1)) ∷ [])) >>= λ more. Ok (array_text (total (record a { attrs = more }))))
    ≡ Ok (codes "DataArray - () int64\n60\nattr units char: \"m\"\nattr n int: 1\n")
unfolding elements data_array array_built bound check_elements dims_given entries_given check_table_entry kind_given build.name_given check_entry check_place check_coordinate check_labels as_labels texts_in as_text with_entries with_entry with_labels with_coordinate coordinate_given check_numbers check_array unless digits attrs_assigned check_attr each_attr attr_given is_utf8 chars Utf8.encode int_wrap
sum_described = refl

in_the_classic_format : (data_array (of_kind (codes "uint8") (pos 200 ∷ pos 100 ∷ [])) >>= λ a. set_written (Array a) (plainly (Text (codes "u.nc") ∷ Text (codes "NETCDF3_CLASSIC") ∷ []))) ≡ Err CannotHold
unfolding elements data_array array_built bound check_elements dims_given entries_given check_table_entry kind_given build.name_given check_entry check_place texts_in as_text with_entries check_array unless digits new_name set_written write_asked as_dataset options_given format_given format_named fill_given unlimited_given as_set check_set file_of check_unlimited check_names check_records check_fill check_fit check_cells
in_the_classic_format = refl

-- coords={"": 1, "y": True}: the empty key is met before the value of the next entry
entry_by_entry : data_array (record { plain = Sequence (numbers (pos 1 ∷ [])) ∷ Sequence (texts (codes "x" ∷ [])) ∷ Table (Entry (Entry NoEntry [] (Number (pos 1))) (codes "y") (Truth true)) ∷ []; keyed = [] }) ≡ Err BadArgument
unfolding elements data_array array_built bound check_elements dims_given entries_given check_table_entry kind_given build.name_given check_entry check_place texts_in as_text with_entries check_array unless digits check_coordinate
entry_by_entry = refl

-- assign_coords(c=7) where `c` was all that lay along `x`
abbrev bare_x : Axis
bare_x = record { name = codes "x"; size = 2; labels = None }

abbrev along_x : Dataset
along_x = record {
  axes = bare_x ∷ [];
  coords = record { name = codes "c"; axes = bare_x ∷ []; attrs = []; content = contents.Cells (record { kind = kinds.Int8; shape = 2 ∷ []; cells = Some (pos 1) ∷ Some (pos 2) ∷ [] }) false } ∷ [];
  vars = [];
  attrs = [];
  skipped = [];
}

axis_gone : (assigned_to_set along_x (keyed ((codes "c", Number (pos 7)) ∷ [])) >>= λ s. Ok (set_text s)) ≡ Ok (codes "Dataset\ncoord c int64 (): 7\n")
unfolding assigned_to_set coords_assigned entries_assigned check_entry check_place check_coordinate with_entries with_entry with_coordinate coordinate_given check_numbers check_set unless digits
axis_gone = refl

-- seventeen dimensions
many_axes : check_array (record { name = None; axes = map (λ i. record { name = i ∷ []; size = 1; labels = None }) (range_with_len 0 17); kind = kinds.Int8; masked = false; attrs = []; coords = []; cells = Some (pos 0) ∷ [] }) ≡ Err TooLarge
unfolding check_array unless
many_axes = refl

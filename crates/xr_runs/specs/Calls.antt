-- The functions and methods of scripts. Every call is checked in one order: it exists, its receiver is of a kind that has it, its arguments fit its signature, each argument has its
-- kind and then its value, the dimensions that it names exist, and then come its own checks.
use Rattle.std.specs.Prelude.{◌||◌, ℕ, ℤ, Bool, true, false, List, [], ◌∷◌, ◌++◌, Option, Some, None, Result, Ok, Err, if◌then◌else◌, codes}
use Rattle.std.specs.Str.{bytes_eq}
use Rattle.std.specs.Fmt.{signed_decimal}
use Rattle.xr_types.specs.declared.fault.Fault.{Fault}
use Rattle.xr_types.specs.declared.fault.Fault.TheVariants.{UnknownName, WrongKind, WouldPromote, NoFile}
use Rattle.xr_defs.specs.declared.write_options.WriteOptions.{WriteOptions}
use Rattle.xr_types.specs.Results.{◌>>=◌, unless}
use Rattle.xr_types.specs.Names.{among}
use Rattle.xr_files.specs.Canonical.{canonical}
use Rattle.xr_defs.specs.Stores.{Files}
use Rattle.xr_defs.specs.Values.{DataArray, Dataset}
use Rattle.xr_defs.specs.Decoding.{set_in}
use Rattle.xr_defs.specs.Encoding.{file_of}
use Rattle.xr_defs.specs.Printing.{array_text, set_text}
use Rattle.xr_operations.specs.Indexing.{isel_array, isel_set}
use Rattle.xr_defs.specs.Parts.{picked_of_set, picked_of_array, renamed, to_dataset, own_name, as_set, array_with_attrs, set_with_attrs, transposed, dropped_of_array, dropped_of_set}
use Rattle.xr_defs.specs.Building.{bound, argument, option, required, data_array, assigned_to_array, assigned_to_set}
use Rattle.xr_operations.specs.CellMethods.{where_called, where_method}
use Rattle.xr_operations.specs.Methods.{array_method, is_cell_method}
use Rattle.xr_operations.specs.Moves.{diff_array, diff_set, roll_array, roll_set, shift_array, shift_set}
use Rattle.xr_operations.specs.Reductions.{cumsum_array, cumsum_set, reduced_array, reduced_set, reduction_named}
use Rattle.xr_operations.specs.Selection.{sel_array, sel_set}
use Rattle.xr_relations.specs.Reindexing.{reindex_array, reindex_set}
use Rattle.xr_types.specs.declared.operation.FoldKind.{FoldKind}
use Rattle.xr_types.specs.declared.operation.FoldKind.TheVariants.{First, Last}
use Rattle.xr_groups.specs.declared.maker.Maker.{Maker}
use Rattle.xr_groups.specs.Calls.{array_grouping, maker_named, set_grouping}
use Rattle.xr_groups.specs.Methods.{grouped_array, grouped_set}
use Rattle.xr_relations.specs.Times.{times_given}
use Rattle.xr_combination.specs.Combine.{combine_called}
use Rattle.xr_combination.specs.Concat.{concat_called}
use Rattle.xr_combination.specs.Merge.{merge_called}
use Rattle.xr_chunks.specs.Chunks.{chunk_array, chunk_set}
use Rattle.xr_chunks.specs.Demo.{demo}
use Rattle.xr_defs.specs.Meanings.{Value, Truth, Number, Text, Array, Set, GroupedArray, GroupedSet, Given}
use Rattle.xr_defs.specs.Arguments.{wrong, unfit, as_text, slice_given}

-- ---- functions

-- whether missing cells are asked for
unfoldable pub mask_given : Option Value → Result Bool Fault
mask_given None = Ok false
mask_given (Some (Truth b)) = Ok b
mask_given (Some v) = wrong

unfoldable pub opened_set : Files → List ℕ → Bool → Result Dataset Fault
opened_set files name mask = elim (files name) [ None ↦ Err (NoFile name) | Some bytes ↦ set_in bytes mask ]

-- open_dataset(name, mask=False): the name of the file, and whether missing cells are asked for
unfoldable pub open_asked : Given → Result (List ℕ × Bool) Fault
open_asked g =
    bound (codes "name" ∷ codes "mask" ∷ []) g >>= λ vs. required (argument vs 0) >>= λ v. as_text v >>= λ name.
    mask_given (option vs 1) >>= λ mask. Ok (name, mask)

unfoldable pub open_dataset : Files → Given → Result Dataset Fault
open_dataset files g = open_asked g >>= λ w. opened_set files w.0 w.1

-- a function over values that computes no cells at once
unfoldable pub uncomputed_function : List ℕ → Given → Result Value Fault
uncomputed_function name g =
    if bytes_eq name (codes "slice") then slice_given g
    else if bytes_eq name (codes "times") then times_given g
    else if bytes_eq name (codes "where") then (where_called g >>= λ a. Ok (Array a))
    else if bytes_eq name (codes "demo") then (demo g >>= λ s. Ok (Set s))
    else Err (UnknownName name)

-- a function that takes no file: those, and the one that computes the arrays that become coordinates
unfoldable pub function_over_values : List ℕ → Given → Result Value Fault
function_over_values name g = if bytes_eq name (codes "DataArray") then (data_array g >>= λ a. Ok (Array a)) else uncomputed_function name g

-- those, and the ones that make one value of several, whose cells may be compared
unfoldable pub function_of_several : List ℕ → Given → Result Value Fault
function_of_several name g =
    if bytes_eq name (codes "concat") then concat_called g
    else if bytes_eq name (codes "merge") then merge_called g
    else if bytes_eq name (codes "combine_by_coords") then combine_called g
    else function_over_values name g

unfoldable pub function_called : Files → List ℕ → Given → Result Value Fault
function_called files name g =
    if bytes_eq name (codes "open_dataset") then (open_dataset files g >>= λ s. Ok (Set s)) else function_of_several name g

-- ---- x["v"]

unfoldable pub part_picked : Value → List ℕ → Result Value Fault
part_picked (Array a) name = picked_of_array a name >>= λ b. Ok (Array b)
part_picked (Set s) name = picked_of_set s name >>= λ b. Ok (Array b)
part_picked v name = wrong

-- ---- methods

-- a method of arrays alone
unfoldable pub of_array : (DataArray → Result Value Fault) → Value → Result Value Fault
of_array call (Array a) = call a
of_array call v = wrong

-- a method of arrays and datasets
unfoldable pub of_both : (DataArray → Result DataArray Fault) → (Dataset → Result Dataset Fault) → Value → Result Value Fault
of_both array_call set_call (Array a) = array_call a >>= λ b. Ok (Array b)
of_both array_call set_call (Set s) = set_call s >>= λ t. Ok (Set t)
of_both array_call set_call v = wrong

abbrev pub is_labelled_data : Value → Bool
is_labelled_data (Array a) = true
is_labelled_data (Set s) = true
is_labelled_data v = false

abbrev pub is_grouped : Value → Bool
is_grouped (GroupedArray a by) = true
is_grouped (GroupedSet s by) = true
is_grouped v = false

-- methods whose answers aren't whole numbers
abbrev pub promoting : List (List ℕ)
promoting = codes "mean" ∷ codes "std" ∷ codes "var" ∷ codes "median" ∷ codes "quantile" ∷ codes "interp" ∷ []

-- those, and methods that there aren't
unfoldable pub other_method : Value → List ℕ → Result Value Fault
other_method v name = if among promoting name then Err (if is_labelled_data v || is_grouped v then WouldPromote else WrongKind) else Err (UnknownName name)

-- positions in groups, bins, windows or blocks
unfoldable pub array_grouped : Maker → DataArray → Given → Result Value Fault
array_grouped m a g = array_grouping m a g >>= λ by. Ok (GroupedArray a by)

unfoldable pub set_grouped : Maker → Dataset → Given → Result Value Fault
set_grouped m s g = set_grouping m s g >>= λ by. Ok (GroupedSet s by)

unfoldable pub grouped_by : Maker → Value → Given → Result Value Fault
grouped_by m (Array a) g = array_grouped m a g
grouped_by m (Set s) g = set_grouped m s g
grouped_by m v g = wrong

unfoldable pub grouping_called : Value → List ℕ → Given → Result Value Fault
grouping_called v name g = elim (maker_named name) [ None ↦ other_method v name | Some m ↦ grouped_by m v g ]

-- the fold of each group, or a reduction of some or all dimensions
unfoldable pub fold_called : FoldKind → Value → Given → Result Value Fault
fold_called k (GroupedArray a by) g = grouped_array k by a g >>= λ b. Ok (Array b)
fold_called k (GroupedSet s by) g = grouped_set k by s g >>= λ t. Ok (Set t)
fold_called k v g = of_both (λ a. reduced_array k a g) (λ s. reduced_set k s g) v

-- the first and the last present cell are those of groups alone
unfoldable pub end_called : FoldKind → Value → Given → Result Value Fault
end_called k v g = if is_grouped v then fold_called k v g else wrong

unfoldable pub end_or_grouping : Value → List ℕ → Given → Result Value Fault
end_or_grouping v name g =
    if bytes_eq name (codes "first") then end_called First v g
    else if bytes_eq name (codes "last") then end_called Last v g
    else grouping_called v name g

unfoldable pub reduction_called : Value → List ℕ → Given → Result Value Fault
reduction_called v name g = elim (reduction_named name) [ None ↦ end_or_grouping v name g | Some k ↦ fold_called k v g ]

-- cells moved along dimensions, and differences of neighbours
unfoldable pub move_or_reduction : Value → List ℕ → Given → Result Value Fault
move_or_reduction v name g =
    if bytes_eq name (codes "shift") then of_both (λ a. shift_array a g) (λ s. shift_set s g) v
    else if bytes_eq name (codes "roll") then of_both (λ a. roll_array a g) (λ s. roll_set s g) v
    else if bytes_eq name (codes "diff") then of_both (λ a. diff_array a g) (λ s. diff_set s g) v
    else reduction_called v name g

-- those that give new cells: cell by cell, chosen, by running sums, moved, and by reductions
unfoldable pub method_on_cells : Value → List ℕ → Given → Result Value Fault
method_on_cells v name g =
    if is_cell_method name then of_array (λ a. array_method name a g >>= λ b. Ok (Array b)) v
    else if bytes_eq name (codes "where") then of_array (λ a. where_method a g >>= λ b. Ok (Array b)) v
    else if bytes_eq name (codes "cumsum") then of_both (λ a. cumsum_array a g) (λ s. cumsum_set s g) v
    else move_or_reduction v name g

-- those that compute no cells at once
unfoldable pub uncomputed_method : Value → List ℕ → Given → Result Value Fault
uncomputed_method v name g =
    if bytes_eq name (codes "isel") then of_both (λ a. isel_array a g) (λ s. isel_set s g) v
    else if bytes_eq name (codes "sel") then of_both (λ a. sel_array a g) (λ s. sel_set s g) v
    else if bytes_eq name (codes "reindex") then of_both (λ a. reindex_array a g) (λ s. reindex_set s g) v
    else if bytes_eq name (codes "transpose") then of_array (λ a. transposed a g >>= λ b. Ok (Array b)) v
    else if bytes_eq name (codes "drop_vars") then of_both (λ a. dropped_of_array a g) (λ s. dropped_of_set s g) v
    else if bytes_eq name (codes "assign_attrs") then of_both (array_with_attrs g) (set_with_attrs g) v
    else if bytes_eq name (codes "rename") then of_array (λ a. renamed a g >>= λ b. Ok (Array b)) v
    else if bytes_eq name (codes "to_dataset") then of_array (λ a. to_dataset a g >>= λ s. Ok (Set s)) v
    else if bytes_eq name (codes "chunk") then of_both (λ a. chunk_array a g) (λ s. chunk_set s g) v
    else method_on_cells v name g

-- those, and the one that computes the arrays that become coordinates
unfoldable pub method_called : Value → List ℕ → Given → Result Value Fault
method_called v name g =
    if bytes_eq name (codes "assign_coords") then of_both (λ a. assigned_to_array a g) (λ s. assigned_to_set s g) v else uncomputed_method v name g

-- ---- to_netcdf(name, format="NETCDF3_64BIT_DATA", fill_value?, unlimited_dims?)

-- the version of the format
unfoldable pub format_named : List ℕ → Result ℕ Fault
format_named t =
    if bytes_eq t (codes "NETCDF3_CLASSIC") then Ok 1
    else if bytes_eq t (codes "NETCDF3_64BIT") then Ok 2
    else if bytes_eq t (codes "NETCDF3_64BIT_DATA") then Ok 5
    else unfit

unfoldable pub format_given : Option Value → Result ℕ Fault
format_given None = Ok 5
format_given (Some v) = as_text v >>= λ t. format_named t

unfoldable pub fill_given : Option Value → Result (Option ℤ) Fault
fill_given None = Ok None
fill_given (Some (Number n)) = Ok (Some n)
fill_given (Some v) = wrong

unfoldable pub unlimited_given : Option Value → Result (Option (List ℕ)) Fault
unlimited_given None = Ok None
unlimited_given (Some v) = as_text v >>= λ t. Ok (Some t)

abbrev pub writing_parameters : List (List ℕ)
writing_parameters = codes "name" ∷ codes "format" ∷ codes "fill_value" ∷ codes "unlimited_dims" ∷ []

unfoldable pub options_given : List (Option Value) → Result WriteOptions Fault
options_given vs =
    format_given (option vs 1) >>= λ version. fill_given (option vs 2) >>= λ fill. unlimited_given (option vs 3) >>= λ unlimited.
    Ok (record { version = version; fill = fill; unlimited = unlimited })

-- an array is written as the dataset of it
unfoldable pub as_dataset : Value → Result Dataset Fault
as_dataset (Array a) = own_name a >>= λ name. as_set name a
as_dataset (Set s) = Ok s
as_dataset v = wrong

-- what is asked for: the name of the file, how it is written, and the dataset
pub record Asked : Type 0 where
  pub name : List ℕ
  pub options : WriteOptions
  pub set : Dataset

unfoldable pub write_asked : Value → Given → Result Asked Fault
write_asked v g =
    unless (is_labelled_data v) WrongKind >>= λ a. bound writing_parameters g >>= λ vs. required (argument vs 0) >>= λ n. as_text n >>= λ name.
    options_given vs >>= λ options. as_dataset v >>= λ s. Ok (record { name = name; options = options; set = s })

-- the name of the file that is put, and its bytes
unfoldable pub set_written : Value → Given → Result (List ℕ × List ℕ) Fault
set_written v g = write_asked v g >>= λ w. file_of w.set w.options >>= λ f. Ok (w.name, canonical f)

-- ---- print

abbrev pub truth_line : Bool → List ℕ
truth_line true = codes "True\n"
truth_line false = codes "False\n"

unfoldable pub text_printed : Value → Result (List ℕ) Fault
text_printed (Array a) = Ok (array_text a)
text_printed (Set s) = Ok (set_text s)
text_printed (Number n) = Ok (signed_decimal n ++ 10 ∷ [])
text_printed (Text t) = Ok (t ++ 10 ∷ [])
text_printed (Truth b) = Ok (truth_line b)
text_printed v = wrong

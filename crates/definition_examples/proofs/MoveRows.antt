-- Worked rows of moves along dimensions, as xarray gives them, but for the fill that a shift needs.
use Rattle.std.proofs.Common.{◌≡◌, ℕ, ℤ, pos, negsuc, Bool, true, false, List, [], ◌∷◌, Option, Some, None, Ok, Err, refl}
use Rattle.std.specs.Int.{int_wrap}
use Rattle.std.specs.Prelude.{codes}
use Rattle.xr_types.specs.Results.{unless}
use Rattle.xr_types.specs.declared.axis.Axis.{Axis}
use Rattle.xr_types.specs.declared.axis.LabelList.TheVariants.{Numbers}
use Rattle.xr_types.specs.declared.fault.Fault.TheVariants.{BadArgument, DoesNotFit, NoDimension, WouldPromote, WrongKind}
use Rattle.xr_types.specs.declared.kind.DType.{DType}
use Rattle.xr_types.specs.declared.kind.DType.TheVariants as kinds
use Rattle.xr_defs.specs.Arguments.{as_text, check_dimension}
use Rattle.xr_defs.specs.Building.{bound}
use Rattle.xr_defs.specs.Meanings.{Given, Missing, Number, Text, Truth, Value}
use Rattle.xr_defs.specs.Selecting.{as_number}
use Rattle.xr_defs.specs.Values.{DataArray, Dataset, Variable}
use Rattle.xr_defs.specs.declared.value.Content.TheVariants.{Cells}
use Rattle.xr_defs.specs.declared.value.Coord.{Coord}
use Rattle.xr_operations.specs.CellMethods.{check_fits, literal_for}
use Rattle.xr_operations.specs.Moves.{check_fill, check_kinds, check_numbers, check_ranges, diff_array, diff_given, diff_set, distance_given, distances, fill_called, fill_for, label_called, label_given, needed, roll_array, roll_set, shift_array, shift_set}

abbrev labelled : List ℤ → ℕ → Axis
labelled ns n = record { name = codes "x"; size = n; labels = Some (record { list = Numbers kinds.Int64 ns; attrs = [] }) }

abbrev along_x : List ℤ → ℕ → DType → Bool → List (Option ℤ) → DataArray
along_x ns n kind masked cells = record { name = None; axes = labelled ns n ∷ []; kind = kind; masked = masked; attrs = []; coords = []; cells = cells }

abbrev named : List (List ℕ × Value) → Given
named kvs = record { plain = []; keyed = kvs }

abbrev by_x : ℤ → List ℕ × Value
by_x n = (codes "x", Number n)

abbrev fill : Value → List ℕ × Value
fill v = (codes "fill_value", v)

-- ---- 10, 20, 30 with the labels 1, 2, 3

abbrev three : Bool → List (Option ℤ) → DataArray
three masked cells = along_x (pos 1 ∷ pos 2 ∷ pos 3 ∷ []) 3 kinds.Int64 masked cells

abbrev a : DataArray
a = three false (Some (pos 10) ∷ Some (pos 20) ∷ Some (pos 30) ∷ [])

no_fill : shift_array a (named (by_x (pos 1) ∷ [])) ≡ Err WouldPromote
unfolding shift_array check_dimension fill_called distances distance_given as_number needed unless
no_fill = refl

filled : shift_array a (named (by_x (pos 1) ∷ fill (Number (pos 0)) ∷ [])) ≡ Ok (three false (Some (pos 0) ∷ Some (pos 10) ∷ Some (pos 20) ∷ []))
unfolding shift_array check_dimension fill_called fill_for literal_for distances distance_given as_number needed check_fill check_fits unless
filled = refl

back : shift_array a (named (fill Missing ∷ by_x (negsuc 0) ∷ [])) ≡ Ok (three true (Some (pos 20) ∷ Some (pos 30) ∷ None ∷ []))
unfolding shift_array check_dimension fill_called fill_for distances distance_given as_number needed check_fill unless
back = refl

far : shift_array a (named (by_x (negsuc 6) ∷ fill (Number (pos 7)) ∷ [])) ≡ Ok (three false (Some (pos 7) ∷ Some (pos 7) ∷ Some (pos 7) ∷ []))
unfolding shift_array check_dimension fill_called fill_for literal_for distances distance_given as_number needed check_fill check_fits unless
far = refl

rolled_on : roll_array a (named (by_x (pos 1) ∷ [])) ≡ Ok (three false (Some (pos 30) ∷ Some (pos 10) ∷ Some (pos 20) ∷ []))
unfolding roll_array check_dimension distances distance_given as_number unless
rolled_on = refl

rolled_back : roll_array a (named (by_x (negsuc 3) ∷ [])) ≡ Ok (three false (Some (pos 20) ∷ Some (pos 30) ∷ Some (pos 10) ∷ []))
unfolding roll_array check_dimension distances distance_given as_number unless
rolled_back = refl

upper : diff_array a (record { plain = Text (codes "x") ∷ []; keyed = [] }) ≡ Ok (along_x (pos 2 ∷ pos 3 ∷ []) 2 kinds.Int64 false (Some (pos 10) ∷ Some (pos 10) ∷ []))
unfolding diff_array diff_given bound as_text label_given unless int_wrap
upper = refl

lower : diff_array a (record { plain = Text (codes "x") ∷ []; keyed = (codes "label", Text (codes "lower")) ∷ [] }) ≡ Ok (along_x (pos 1 ∷ pos 2 ∷ []) 2 kinds.Int64 false (Some (pos 10) ∷ Some (pos 10) ∷ []))
unfolding diff_array diff_given bound as_text label_given label_called unless int_wrap
lower = refl

-- nothing has no neighbours
of_none : diff_array (along_x [] 0 kinds.Int64 false []) (record { plain = Text (codes "x") ∷ []; keyed = [] }) ≡ Ok (along_x [] 0 kinds.Int64 false [])
unfolding diff_array diff_given bound as_text label_given unless int_wrap
of_none = refl

-- ---- the first fault

plain_number : shift_array a (record { plain = Number (pos 1) ∷ []; keyed = [] }) ≡ Err BadArgument
unfolding shift_array check_dimension unless
plain_number = refl

-- a fill of another sort comes before a dimension that isn't there, and that before a fill that is missing
truth_first : shift_array a (named ((codes "y", Number (pos 1)) ∷ fill (Truth true) ∷ [])) ≡ Err WrongKind
unfolding shift_array check_dimension fill_called fill_for literal_for unless
truth_first = refl

dimension_first : shift_array a (named ((codes "y", Number (pos 1)) ∷ [])) ≡ Err (NoDimension (codes "y"))
unfolding shift_array check_dimension fill_called distances distance_given as_number unless
dimension_first = refl

too_great : shift_array (along_x (pos 1 ∷ pos 2 ∷ pos 3 ∷ []) 3 kinds.Int8 false (None ∷ None ∷ None ∷ [])) (named (by_x (pos 0) ∷ fill (Number (pos 300)) ∷ [])) ≡ Err DoesNotFit
unfolding shift_array check_dimension fill_called fill_for literal_for distances distance_given as_number needed check_fill check_fits unless
too_great = refl

no_truths : diff_array (along_x (pos 1 ∷ []) 1 kinds.Bool false (Some (pos 1) ∷ [])) (record { plain = Text (codes "x") ∷ []; keyed = [] }) ≡ Err WrongKind
unfolding diff_array diff_given bound as_text label_given unless
no_truths = refl

-- ---- a dataset with v along x, w without dimensions, a text t along y, and numbers 5, 6, 7 as a coordinate c along x

abbrev variable : List ℕ → List (List ℕ) → DType → Bool → List (Option ℤ) → Variable
variable name dims kind masked cells = record { name = name; dims = dims; kind = kind; masked = masked; attrs = []; cells = cells }

abbrev coord : Axis → List (Option ℤ) → Coord
coord x cells = record { name = codes "c"; axes = x ∷ []; attrs = []; content = Cells (record { kind = kinds.Int64; shape = x.size ∷ []; cells = cells }) false }

abbrev w : Variable
w = variable (codes "w") [] kinds.Int64 false (Some (pos 4) ∷ [])

abbrev t : Variable
t = variable (codes "t") (codes "y" ∷ []) kinds.Char false (Some (pos 65) ∷ Some (pos 66) ∷ [])

abbrev bare_y : Axis
bare_y = record { name = codes "y"; size = 2; labels = None }

abbrev x_axis : Axis
x_axis = labelled (pos 1 ∷ pos 2 ∷ pos 3 ∷ []) 3

abbrev set : Bool → List (Option ℤ) → Dataset
set masked cells = record { axes = x_axis ∷ bare_y ∷ []; coords = coord x_axis (Some (pos 5) ∷ Some (pos 6) ∷ Some (pos 7) ∷ []) ∷ []; vars = variable (codes "v") (codes "x" ∷ []) kinds.Int64 masked cells ∷ w ∷ t ∷ []; attrs = []; skipped = [] }

abbrev s : Dataset
s = set false (Some (pos 10) ∷ Some (pos 20) ∷ Some (pos 50) ∷ [])

set_rolled : roll_set s (named (by_x (pos 1) ∷ [])) ≡ Ok (set false (Some (pos 50) ∷ Some (pos 10) ∷ Some (pos 20) ∷ []))
unfolding roll_set check_dimension distances distance_given as_number unless
set_rolled = refl

set_shifted : shift_set s (named (by_x (pos 2) ∷ fill Missing ∷ [])) ≡ Ok (set true (None ∷ None ∷ Some (pos 10) ∷ []))
unfolding shift_set check_dimension check_kinds check_ranges check_fill fill_for distances distance_given as_number needed unless
set_shifted = refl

-- a fill is looked at beside the variables that have the dimension alone
other_kinds : shift_set s (named ((codes "y", Number (pos 1)) ∷ fill (Number (pos 300)) ∷ [])) ≡ Err DoesNotFit
unfolding shift_set check_dimension check_kinds check_ranges check_fill check_fits fill_for literal_for distances distance_given as_number needed unless
other_kinds = refl

abbrev upper_x : Axis
upper_x = labelled (pos 2 ∷ pos 3 ∷ []) 2

set_differs : diff_set s (record { plain = Text (codes "x") ∷ []; keyed = [] })
    ≡ Ok (record { axes = upper_x ∷ []; coords = coord upper_x (Some (pos 6) ∷ Some (pos 7) ∷ []) ∷ []; vars = variable (codes "v") (codes "x" ∷ []) kinds.Int64 false (Some (pos 10) ∷ Some (pos 30) ∷ []) ∷ w ∷ []; attrs = []; skipped = [] })
unfolding diff_set diff_given bound as_text label_given check_numbers unless int_wrap
set_differs = refl

-- the text is gone before its dimension is looked for
text_gone : diff_set s (record { plain = Text (codes "y") ∷ []; keyed = [] }) ≡ Err (NoDimension (codes "y"))
unfolding diff_set diff_given bound as_text label_given unless
text_gone = refl

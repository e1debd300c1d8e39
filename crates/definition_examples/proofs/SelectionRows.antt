-- Worked rows of selection by label, as xarray and pandas give them.
use Rattle.std.proofs.Common.{◌≡◌, ℕ, ℤ, pos, negsuc, true, false, List, [], ◌∷◌, map, Some, None, Result, Ok, Err, refl}
use Rattle.std.specs.Prelude.{codes}
use Rattle.xr_types.specs.Results.{unless}
use Rattle.xr_types.specs.Names.{shape_over}
use Rattle.xr_arrays.specs.Arrays.{Array}
use Rattle.xr_types.specs.declared.axis.Axis.{Axis}
use Rattle.xr_types.specs.declared.axis.Calendar.TheVariants.{Civil}
use Rattle.xr_types.specs.declared.axis.LabelList.{LabelList}
use Rattle.xr_types.specs.declared.axis.LabelList.TheVariants.{Numbers, Times, Texts}
use Rattle.xr_types.specs.declared.axis.TimeCoding.{TimeCoding}
use Rattle.xr_types.specs.declared.axis.TimeUnit.TheVariants.{Days}
use Rattle.xr_types.specs.declared.fault.Fault.{Fault}
use Rattle.xr_types.specs.declared.fault.Fault.TheVariants.{BadArgument, LabelKind, NoDimension, NoSuchLabel, NotMonotonic, NotUnique, OutOfRange, WrongKind}
use Rattle.xr_types.specs.declared.kind.DType.TheVariants as kinds
use Rattle.xr_times.specs.Times.{days_of_months, days_of_years, has_clock}
use Rattle.xr_defs.specs.Arguments.{as_position, as_positions, as_text, check_dimension}
use Rattle.xr_defs.specs.Meanings.{Value, Given, NoValue, Number, Sequence, Slice, Text, Truth, With}
use Rattle.xr_defs.specs.Selecting.{as_number, as_numbers, as_selector, check_array, check_selector, check_set, choice_of, position_in, positions_in}
use Rattle.xr_operations.specs.Indexing.{array_selected, choice_along, isel_array, isel_set, selection_from, selection_given, set_selected}
use Rattle.xr_defs.specs.Values.{DataArray, Dataset, Variable, label_count}
use Rattle.xr_defs.specs.declared.slice.Part.{Part}
use Rattle.xr_defs.specs.declared.slice.Part.TheVariants as part
use Rattle.xr_defs.specs.declared.value.Content.TheVariants as contents
use Rattle.xr_defs.specs.declared.value.Coord.{Coord}
use Rattle.xr_operations.specs.Selection.{as_end, as_label, as_labels, as_method, as_text_end, as_text_label, as_time, as_tolerance, between_ends, check_kind, check_list, check_positions, check_search, each_found, each_located, found, label_located, list_located, located, placed, positions_given, positions_on, search_given, sel_array, sel_set, slice_located}

abbrev indexed : LabelList → Axis
indexed list = record { name = codes "x"; size = label_count list; labels = Some (record { list = list; attrs = [] }) }

abbrev numbers : List ℤ → LabelList
numbers ns = Numbers kinds.Int64 ns

abbrev bare : Axis
bare = record { name = codes "y"; size = 3; labels = None }

-- the positions that `x=v` asks for, with a method or a tolerance behind it
abbrev asked : LabelList → Value → List (List ℕ × Value) → Result Given Fault
asked list v more = positions_given (indexed list ∷ bare ∷ []) (record { plain = []; keyed = (codes "x", v) ∷ more })

abbrev gives : Value → Result Given Fault
gives v = Ok (record { plain = []; keyed = (codes "x", v) ∷ [] })

abbrev at : ℕ → Value
at p = Number (pos p)

abbrev from_to : ℕ → ℕ → Value
from_to p q = Slice (part.At (pos p)) (part.At (pos q)) None

abbrev two : Value → Value → Value
two v w = Sequence (With (With NoValue v) w)

abbrev ends : Part → Part → Value
ends s e = Slice s e None

abbrev method : List ℕ → List (List ℕ × Value)
method t = (codes "method", Text t) ∷ []

abbrev tolerance : ℤ → List (List ℕ × Value)
tolerance n = (codes "tolerance", Number n) ∷ []

abbrev nearest_within : ℤ → List (List ℕ × Value)
nearest_within n = (codes "method", Text (codes "nearest")) ∷ (codes "tolerance", Number n) ∷ []

-- ---- the labels 5 4 2 1, whose first end is the greater one, and 1 3 2

abbrev falling : LabelList
falling = numbers (pos 5 ∷ pos 4 ∷ pos 2 ∷ pos 1 ∷ [])

abbrev unordered : LabelList
unordered = numbers (pos 1 ∷ pos 3 ∷ pos 2 ∷ [])

slice_falling : asked falling (ends (part.At (pos 4)) (part.At (pos 1))) [] ≡ gives (from_to 1 4)
unfolding positions_given search_given as_method as_tolerance check_kind check_dimension each_located positions_on located label_located list_located slice_located between_ends as_end unless
slice_falling = refl

slice_unordered : asked unordered (ends (part.At (pos 4)) (part.At (pos 1))) [] ≡ Err NotMonotonic
unfolding positions_given search_given as_method as_tolerance check_kind check_dimension each_located positions_on located label_located list_located slice_located between_ends as_end unless
slice_unordered = refl

open_slice : asked unordered (ends part.Open part.Open) [] ≡ gives (from_to 0 3)
unfolding positions_given search_given as_method as_tolerance check_kind check_dimension each_located positions_on located label_located list_located slice_located between_ends as_end unless
open_slice = refl

stepped : asked falling (Slice (part.At (pos 4)) (part.At (pos 1)) (Some (pos 1))) [] ≡ Err BadArgument
unfolding positions_given search_given as_method as_tolerance check_kind check_dimension each_located positions_on located label_located list_located slice_located unless
stepped = refl

-- another kind comes before the direction
text_ends : asked unordered (ends (part.Label (codes "a")) part.Open) [] ≡ Err LabelKind
unfolding positions_given search_given as_method as_tolerance check_kind check_dimension each_located positions_on located label_located list_located slice_located between_ends as_end as_text_end unless
text_ends = refl

-- ---- the labels 10 20

abbrev tens : LabelList
tens = numbers (pos 10 ∷ pos 20 ∷ [])

tie : asked tens (Number (pos 15)) (method (codes "nearest")) ≡ gives (at 1)
unfolding positions_given search_given as_method as_text as_tolerance check_kind check_dimension each_located positions_on located label_located list_located slice_located as_label found unless
tie = refl

too_far : asked tens (Number (pos 15)) (nearest_within (pos 4)) ≡ Err NoSuchLabel
unfolding positions_given search_given as_method as_text as_tolerance as_number check_kind check_dimension each_located positions_on located label_located list_located slice_located as_label found unless
too_far = refl

absent : asked tens (Number (pos 15)) [] ≡ Err NoSuchLabel
unfolding positions_given search_given as_method as_tolerance check_kind check_dimension each_located positions_on located label_located list_located slice_located as_label found unless
absent = refl

other_kind : asked tens (Text (codes "15")) [] ≡ Err LabelKind
unfolding positions_given search_given as_method as_tolerance check_kind check_dimension each_located positions_on located label_located list_located slice_located as_label as_text_label found unless
other_kind = refl

fills_forward : asked tens (Number (pos 15)) (method (codes "ffill")) ≡ gives (at 0)
unfolding positions_given search_given as_method as_text as_tolerance check_kind check_dimension each_located positions_on located label_located list_located slice_located as_label found unless
fills_forward = refl

-- ---- lists: the whole list is looked at for each fault

listed : asked falling (two (Number (pos 1)) (Number (pos 4))) [] ≡ gives (two (at 3) (at 1))
unfolding positions_given search_given as_method as_tolerance check_kind check_dimension each_located positions_on located label_located list_located slice_located as_labels as_label check_list each_found found unless
listed = refl

-- 7 isn't there, and 2 stands twice
twice_after_absent : asked (numbers (pos 2 ∷ pos 1 ∷ pos 2 ∷ [])) (two (Number (pos 7)) (Number (pos 2))) [] ≡ Err NotUnique
unfolding positions_given search_given as_method as_tolerance check_kind check_dimension each_located positions_on located label_located list_located slice_located as_labels as_label check_list unless
twice_after_absent = refl

kind_after_twice : asked (numbers (pos 2 ∷ pos 1 ∷ pos 2 ∷ [])) (two (Number (pos 2)) (Text (codes "2"))) [] ≡ Err LabelKind
unfolding positions_given search_given as_method as_tolerance check_kind check_dimension each_located positions_on located label_located list_located slice_located as_labels as_label as_text_label check_list unless
kind_after_twice = refl

-- no label is looked for, but a method needs labels that differ
none_among_twice : asked (numbers (pos 2 ∷ pos 2 ∷ [])) (Sequence NoValue) (method (codes "pad")) ≡ Err NotUnique
unfolding positions_given search_given as_method as_text as_tolerance check_kind check_dimension each_located positions_on located label_located list_located slice_located as_labels check_list check_search unless
none_among_twice = refl

pad_falling : asked falling (Sequence NoValue) (method (codes "pad")) ≡ Err NotMonotonic
unfolding positions_given search_given as_method as_text as_tolerance check_kind check_dimension each_located positions_on located label_located list_located slice_located as_labels check_list check_search unless
pad_falling = refl

nearest_text : asked (Texts (codes "a" ∷ [])) (Text (codes "a")) (method (codes "nearest")) ≡ Err LabelKind
unfolding positions_given search_given as_method as_text as_tolerance check_kind check_dimension each_located positions_on located label_located list_located slice_located as_label as_text_label found unless
nearest_text = refl

-- ---- a method and a tolerance

unknown_method : asked tens (Truth true) (method (codes "linear")) ≡ Err BadArgument
unfolding positions_given search_given as_method as_text unless
unknown_method = refl

-- they are looked at before the dimensions
tolerance_alone : asked tens (Truth true) (tolerance (pos 1)) ≡ Err BadArgument
unfolding positions_given search_given as_method as_tolerance as_number unless
tolerance_alone = refl

negative_tolerance : asked tens (Number (pos 15)) (nearest_within (negsuc 0)) ≡ Err BadArgument
unfolding positions_given search_given as_method as_text as_tolerance as_number unless
negative_tolerance = refl

slice_with_method : asked tens (ends (part.At (pos 10)) part.Open) (method (codes "pad")) ≡ Err BadArgument
unfolding positions_given search_given as_method as_text as_tolerance check_kind check_dimension each_located positions_on located label_located list_located slice_located unless
slice_with_method = refl

-- ---- an axis without labels: positions

abbrev asked_bare : Value → List (List ℕ × Value) → Result Given Fault
asked_bare v more = positions_given (bare ∷ []) (record { plain = []; keyed = (codes "y", v) ∷ more })

last_position : asked_bare (Number (negsuc 0)) [] ≡ Ok (record { plain = []; keyed = (codes "y", Number (negsuc 0)) ∷ [] })
unfolding positions_given search_given as_method as_tolerance check_kind check_selector as_selector check_dimension each_located positions_on placed check_positions choice_of position_in unless
last_position = refl

no_position : asked_bare (Number (pos 3)) [] ≡ Err OutOfRange
unfolding positions_given search_given as_method as_tolerance check_kind check_selector as_selector check_dimension each_located positions_on placed check_positions choice_of position_in unless
no_position = refl

bare_text : asked_bare (Text (codes "a")) [] ≡ Err WrongKind
unfolding positions_given search_given as_method as_tolerance check_kind check_selector as_selector unless
bare_text = refl

bare_method : asked_bare (Number (pos 0)) (method (codes "pad")) ≡ Err BadArgument
unfolding positions_given search_given as_method as_text as_tolerance check_kind check_selector as_selector check_dimension each_located positions_on placed unless
bare_method = refl

no_dimension : positions_given (bare ∷ []) (record { plain = []; keyed = (codes "z", Text (codes "a")) ∷ [] }) ≡ Err (NoDimension (codes "z"))
unfolding positions_given search_given as_method as_tolerance check_kind check_dimension unless
no_dimension = refl

plain : positions_given (bare ∷ []) (record { plain = Number (pos 0) ∷ []; keyed = [] }) ≡ Err BadArgument
unfolding positions_given unless
plain = refl

-- ---- times: the days 0, 10, 31 and 366 from 2000-01-01

abbrev coding : TimeCoding
coding = record { units = record { unit = Days; reference = pos 946684800; calendar = Civil; early = true }; units_text = codes "days since 2000-01-01"; calendar_text = Some (codes "proleptic_gregorian") }

abbrev days : LabelList
days = Times coding (pos 946684800 ∷ pos 947548800 ∷ pos 949363200 ∷ pos 978307200 ∷ [])

two_months : asked days (ends (part.Label (codes "2000-01")) (part.Label (codes "2000-02"))) [] ≡ gives (from_to 0 3)
unfolding positions_given search_given as_method as_tolerance check_kind check_dimension each_located positions_on located label_located list_located slice_located between_ends as_end as_text_end days_of_months days_of_years unless
two_months = refl

second : asked days (Text (codes "2000-01-11T00:00:00")) [] ≡ gives (at 1)
unfolding positions_given search_given as_method as_tolerance check_kind check_dimension each_located positions_on located label_located list_located slice_located as_label as_text_label as_time found days_of_months days_of_years has_clock unless
second = refl

a_day : asked days (Text (codes "2000-01-11")) [] ≡ Err BadArgument
unfolding positions_given search_given as_method as_tolerance check_kind check_dimension each_located positions_on located label_located list_located slice_located as_label as_text_label as_time unless
a_day = refl

a_number : asked days (Number (pos 3)) [] ≡ Err LabelKind
unfolding positions_given search_given as_method as_tolerance check_kind check_dimension each_located positions_on located label_located list_located slice_located as_label found unless
a_number = refl

four_days : asked days (Text (codes "2000-01-05T00:00:00")) (nearest_within (pos 345600)) ≡ gives (at 0)
unfolding positions_given search_given as_method as_text as_tolerance as_number check_kind check_dimension each_located positions_on located label_located list_located slice_located as_label as_text_label as_time found days_of_months days_of_years has_clock unless
four_days = refl

less_than_four_days : asked days (Text (codes "2000-01-05T00:00:00")) (nearest_within (pos 345599)) ≡ Err NoSuchLabel
unfolding positions_given search_given as_method as_text as_tolerance as_number check_kind check_dimension each_located positions_on located label_located list_located slice_located as_label as_text_label as_time found days_of_months days_of_years has_clock unless
less_than_four_days = refl

-- times that fall: the first end is the later one, and is held whole too
whole_months : asked (Times coding (pos 978307200 ∷ pos 949363200 ∷ pos 947548800 ∷ [])) (ends (part.Label (codes "2000-02")) (part.Label (codes "2000-01"))) [] ≡ gives (from_to 1 3)
unfolding positions_given search_given as_method as_tolerance check_kind check_dimension each_located positions_on located label_located list_located slice_located between_ends as_end as_text_end days_of_months days_of_years unless
whole_months = refl

-- ---- what is left

abbrev array : List Axis → List Coord → List ℤ → DataArray
array axes coords ns = record { name = None; axes = axes; kind = kinds.Int64; masked = false; attrs = []; coords = coords; cells = map Some ns }

abbrev keyed : Value → List (List ℕ × Value) → Given
keyed v more = record { plain = []; keyed = (codes "x", v) ∷ more }

between_falling : sel_array (array (indexed falling ∷ []) [] (pos 1 ∷ pos 2 ∷ pos 3 ∷ pos 4 ∷ [])) (keyed (ends (part.At (pos 4)) (part.At (pos 1))) [])
    ≡ Ok (array (indexed (numbers (pos 4 ∷ pos 2 ∷ pos 1 ∷ [])) ∷ []) [] (pos 2 ∷ pos 3 ∷ pos 4 ∷ []))
unfolding sel_array positions_given search_given as_method as_tolerance check_kind check_dimension each_located positions_on located label_located list_located slice_located between_ends as_end unless isel_array check_selector as_selector as_positions as_position selection_given selection_from choice_along array_selected choice_of check_array
between_falling = refl

abbrev label_20 : Coord
label_20 = record { name = codes "x"; axes = []; attrs = []; content = contents.Cells (record { kind = kinds.Int64; shape = []; cells = Some (pos 20) ∷ [] }) false }

nearest : sel_array (array (indexed tens ∷ []) [] (pos 1 ∷ pos 2 ∷ [])) (keyed (Number (pos 15)) (method (codes "nearest"))) ≡ Ok (array [] (label_20 ∷ []) (pos 2 ∷ []))
unfolding sel_array positions_given search_given as_method as_text as_tolerance check_kind check_dimension each_located positions_on located label_located list_located slice_located as_label found unless isel_array check_selector as_selector selection_given selection_from choice_along array_selected choice_of position_in check_array
nearest = refl

-- a variable without the dimension stays
abbrev variable : List ℕ → List (List ℕ) → List ℤ → Variable
variable name dims ns = record { name = name; dims = dims; kind = kinds.Int64; masked = false; attrs = []; cells = map Some ns }

abbrev dataset : List Axis → List Coord → List Variable → Dataset
dataset axes coords vars = record { axes = axes; coords = coords; vars = vars; attrs = []; skipped = [] }

of_a_dataset : sel_set (dataset (indexed tens ∷ []) [] (variable (codes "v") (codes "x" ∷ []) (pos 1 ∷ pos 2 ∷ []) ∷ variable (codes "w") [] (pos 7 ∷ []) ∷ [])) (keyed (Number (pos 20)) [])
    ≡ Ok (dataset [] (label_20 ∷ []) (variable (codes "v") [] (pos 2 ∷ []) ∷ variable (codes "w") [] (pos 7 ∷ []) ∷ []))
unfolding sel_set positions_given search_given as_method as_tolerance check_kind check_dimension each_located positions_on located label_located list_located slice_located as_label found unless isel_set check_selector as_selector selection_given selection_from choice_along set_selected choice_of position_in check_set
of_a_dataset = refl

-- ---- positions of several dimensions at once; those that go leave their labels in the order of the arguments

abbrev by_y_and_x : Value → Value → Given
by_y_and_x v w = record { plain = []; keyed = (codes "y", v) ∷ (codes "x", w) ∷ [] }

abbrev along_y : Axis
along_y = record { name = codes "y"; size = 2; labels = Some (record { list = numbers (pos 7 ∷ pos 8 ∷ []); attrs = [] }) }

abbrev cells_over : List ℕ → List ℤ → Array
cells_over shape ns = record { kind = kinds.Int64; shape = shape; cells = map Some ns }

abbrev plane : List Axis → List ℤ → Coord
plane axes ns = record { name = codes "c"; axes = axes; attrs = []; content = contents.Cells (cells_over (shape_over axes) ns) false }

abbrev table : DataArray
table = array (indexed tens ∷ along_y ∷ []) (plane (along_y ∷ indexed tens ∷ []) (pos 5 ∷ pos 6 ∷ pos 7 ∷ pos 8 ∷ []) ∷ []) (pos 1 ∷ pos 2 ∷ pos 3 ∷ pos 4 ∷ [])

abbrev label_at : List ℕ → ℤ → Coord
label_at name n = record { name = name; axes = []; attrs = []; content = contents.Cells (cells_over [] (n ∷ [])) false }

both_gone : isel_array table (by_y_and_x (Number (pos 1)) (Number (negsuc 1))) ≡ Ok (array [] (plane [] (pos 7 ∷ []) ∷ label_at (codes "y") (pos 8) ∷ label_at (codes "x") (pos 10) ∷ []) (pos 2 ∷ []))
unfolding unless isel_array check_selector as_selector check_dimension selection_given selection_from choice_along array_selected choice_of position_in check_array
both_gone = refl

one_repeated : isel_array table (by_y_and_x (Sequence (With (With NoValue (Number (pos 1))) (Number (pos 1)))) (Number (pos 0)))
    ≡ Ok (array (record along_y { labels = Some (record { list = numbers (pos 8 ∷ pos 8 ∷ []); attrs = [] }) } ∷ []) (plane (record along_y { labels = Some (record { list = numbers (pos 8 ∷ pos 8 ∷ []); attrs = [] }) } ∷ []) (pos 7 ∷ pos 7 ∷ []) ∷ label_at (codes "x") (pos 10) ∷ []) (pos 2 ∷ pos 2 ∷ []))
unfolding unless isel_array check_selector as_selector as_numbers as_number check_dimension selection_given selection_from choice_along array_selected choice_of positions_in position_in check_array
one_repeated = refl

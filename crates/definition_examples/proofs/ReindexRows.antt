-- Worked rows of new labels and of times, as xarray and CF give them.
use Rattle.std.proofs.Common.{◌≡◌, ℕ, ℤ, pos, negsuc, true, false, List, [], ◌∷◌, Option, Some, None, Result, Ok, Err, refl}
use Rattle.std.specs.Prelude.{codes}
use Rattle.xr_types.specs.Results.{unless}
use Rattle.xr_types.specs.declared.axis.Axis.{Axis}
use Rattle.xr_types.specs.declared.axis.Calendar.TheVariants.{Civil, NoLeap}
use Rattle.xr_types.specs.declared.axis.LabelList.{LabelList}
use Rattle.xr_types.specs.declared.axis.LabelList.TheVariants.{Numbers}
use Rattle.xr_types.specs.declared.axis.TimeUnit.TheVariants.{Days}
use Rattle.xr_types.specs.declared.fault.Fault.{Fault}
use Rattle.xr_types.specs.declared.fault.Fault.TheVariants.{BadArgument, DoesNotFit, LabelKind, NotMonotonic, NotUnique, OutOfRange, WouldPromote, WrongKind}
use Rattle.xr_types.specs.declared.kind.DType.{DType}
use Rattle.xr_types.specs.declared.kind.DType.TheVariants as kinds
use Rattle.xr_times.specs.Times.{days_of_months, days_of_years}
use Rattle.xr_times.specs.Units.{behind_word, date, part, reference, unit, units_of}
use Rattle.xr_defs.specs.Arguments.{as_text, check_dimension}
use Rattle.xr_defs.specs.Building.{bound}
use Rattle.xr_defs.specs.Meanings.{Value, Given, Missing, NoValue, Number, Sequence, Text, Truth, With}
use Rattle.xr_defs.specs.Meanings as of
use Rattle.xr_defs.specs.Selecting.{as_number, as_numbers, check_array}
use Rattle.xr_defs.specs.Values.{DataArray, label_count}
use Rattle.xr_defs.specs.declared.value.Content.TheVariants as contents
use Rattle.xr_defs.specs.declared.value.Coord.{Coord}
use Rattle.xr_operations.specs.CellMethods.{check_fits, literal_for}
use Rattle.xr_operations.specs.Moves.{check_fill, fill_called, fill_for}
use Rattle.xr_operations.specs.Selection.{as_label, as_labels, as_method, as_text_label, as_tolerance, check_search, found, search_given}
use Rattle.xr_relations.specs.Reindexing.{array_changed, change_along, change_on, changes, changes_given, check_coord, check_fit, check_held, check_labels, check_list, reindex_array}
use Rattle.xr_relations.specs.Times.{calendar_called, calendar_given, counts_given, time_at, times_at, times_by, times_given, units_given}

abbrev axis : LabelList → Axis
axis list = record { name = codes "x"; size = label_count list; labels = Some (record { list = list; attrs = [] }) }

-- 10, 20 and 30 of a kind at the labels of x, with coordinates
abbrev three : DType → LabelList → List Coord → DataArray
three t list coords = record { name = None; axes = axis list ∷ []; kind = t; masked = false; attrs = []; coords = coords; cells = Some (pos 10) ∷ Some (pos 20) ∷ Some (pos 30) ∷ [] }

abbrev numbers : List ℤ → LabelList
numbers ns = Numbers kinds.Int64 ns

abbrev one_to_three : LabelList
one_to_three = numbers (pos 1 ∷ pos 2 ∷ pos 3 ∷ [])

abbrev two : ℕ → ℕ → Value
two m n = Sequence (With (With NoValue (Number (pos m))) (Number (pos n)))

abbrev one : Value → Value
one v = Sequence (With NoValue v)

-- `x=v`, and more
abbrev asked : Value → List (List ℕ × Value) → Given
asked v more = record { plain = []; keyed = (codes "x", v) ∷ more }

abbrev filled : Value → List (List ℕ × Value)
filled v = (codes "fill_value", v) ∷ []

-- the same array at other labels, with other cells
abbrev at : DataArray → List ℤ → List (Option ℤ) → Result DataArray Fault
at a ns cells = Ok (record a { axes = axis (numbers ns) ∷ []; cells = cells })

-- ---- a label that is there shows its cell, and another the fill

shown : reindex_array (three kinds.Int64 one_to_three []) (asked (two 3 9) (filled (Number (pos 0)))) ≡ at (three kinds.Int64 one_to_three []) (pos 3 ∷ pos 9 ∷ []) (Some (pos 30) ∷ Some (pos 0) ∷ [])
unfolding reindex_array search_given as_method as_text as_tolerance fill_called fill_for literal_for changes_given check_list check_dimension changes change_along change_on as_labels as_label check_labels found check_held array_changed check_fit check_fill check_fits check_coord check_array unless
shown = refl

unfilled : reindex_array (three kinds.Int64 one_to_three []) (asked (two 3 9) []) ≡ Err WouldPromote
unfolding reindex_array search_given as_method as_text as_tolerance fill_called fill_for literal_for changes_given check_list check_dimension changes change_along change_on as_labels as_label check_labels found check_held array_changed check_fit check_fill check_fits check_coord check_array unless
unfilled = refl

all_there : reindex_array (three kinds.Int64 one_to_three []) (asked (two 3 1) []) ≡ at (three kinds.Int64 one_to_three []) (pos 3 ∷ pos 1 ∷ []) (Some (pos 30) ∷ Some (pos 10) ∷ [])
unfolding reindex_array search_given as_method as_text as_tolerance fill_called fill_for literal_for changes_given check_list check_dimension changes change_along change_on as_labels as_label check_labels found check_held array_changed check_fit check_fill check_fits check_coord check_array unless
all_there = refl

missing : reindex_array (three kinds.Int64 one_to_three []) (asked (two 3 9) (filled Missing)) ≡ at (record (three kinds.Int64 one_to_three []) { masked = true }) (pos 3 ∷ pos 9 ∷ []) (Some (pos 30) ∷ None ∷ [])
unfolding reindex_array search_given as_method as_text as_tolerance fill_called fill_for literal_for changes_given check_list check_dimension changes change_along change_on as_labels as_label check_labels found check_held array_changed check_fit check_fill check_fits check_coord check_array unless
missing = refl

-- new whole numbers are of kind int64
wider : reindex_array (three kinds.Int64 (Numbers kinds.Int8 (pos 1 ∷ pos 2 ∷ pos 3 ∷ [])) []) (asked (two 2 300) (filled (Number (pos 7)))) ≡ at (three kinds.Int64 one_to_three []) (pos 2 ∷ pos 300 ∷ []) (Some (pos 20) ∷ Some (pos 7) ∷ [])
unfolding reindex_array search_given as_method as_text as_tolerance fill_called fill_for literal_for changes_given check_list check_dimension changes change_along change_on as_labels as_label check_labels found check_held array_changed check_fit check_fill check_fits check_coord check_array unless
wider = refl

-- ---- a method

abbrev method : List ℕ → List (List ℕ × Value)
method t = (codes "method", Text t) ∷ []

padded : reindex_array (three kinds.Int64 one_to_three []) (asked (two 9 2) (method (codes "pad"))) ≡ at (three kinds.Int64 one_to_three []) (pos 9 ∷ pos 2 ∷ []) (Some (pos 30) ∷ Some (pos 20) ∷ [])
unfolding reindex_array search_given as_method as_text as_tolerance fill_called fill_for literal_for changes_given check_list check_dimension changes change_along change_on as_labels as_label check_labels check_search found check_held array_changed check_fit check_fill check_fits check_coord check_array unless
padded = refl

too_far : reindex_array (three kinds.Int64 one_to_three []) (asked (two 5 2) ((codes "method", Text (codes "nearest")) ∷ (codes "tolerance", Number (pos 1)) ∷ [])) ≡ Err WouldPromote
unfolding reindex_array search_given as_method as_text as_tolerance as_number fill_called fill_for literal_for changes_given check_list check_dimension changes change_along change_on as_labels as_label check_labels check_search found check_held array_changed check_fit check_fill check_fits check_coord check_array unless
too_far = refl

-- ---- what is refused

repeated : reindex_array (three kinds.Int64 (numbers (pos 1 ∷ pos 1 ∷ pos 2 ∷ [])) []) (asked (one (Number (pos 2))) []) ≡ Err NotUnique
unfolding reindex_array search_given as_method as_text as_tolerance fill_called fill_for literal_for changes_given check_list check_dimension changes change_along change_on as_labels as_label check_labels found check_held array_changed check_fit check_fill check_fits check_coord check_array unless
repeated = refl

unordered : reindex_array (three kinds.Int64 (numbers (pos 1 ∷ pos 3 ∷ pos 2 ∷ [])) []) (asked (Sequence NoValue) (method (codes "pad"))) ≡ Err NotMonotonic
unfolding reindex_array search_given as_method as_text as_tolerance fill_called fill_for literal_for changes_given check_list check_dimension changes change_along change_on as_labels as_label check_labels check_search found check_held array_changed check_fit check_fill check_fits check_coord check_array unless
unordered = refl

other_kind : reindex_array (three kinds.Int64 one_to_three []) (asked (one (Text (codes "a"))) []) ≡ Err LabelKind
unfolding reindex_array search_given as_method as_text as_tolerance fill_called fill_for literal_for changes_given check_list check_dimension changes change_along change_on as_labels as_label as_text_label check_labels found check_held array_changed check_fit check_fill check_fits check_coord check_array unless
other_kind = refl

no_list : reindex_array (three kinds.Int64 one_to_three []) (asked (Number (pos 1)) []) ≡ Err WrongKind
unfolding reindex_array search_given as_method as_text as_tolerance fill_called fill_for literal_for changes_given check_list unless
no_list = refl

-- a fill is looked at where it is needed, but for its kind
too_great : reindex_array (three kinds.Int8 one_to_three []) (asked (two 3 9) (filled (Number (pos 300)))) ≡ Err DoesNotFit
unfolding reindex_array search_given as_method as_text as_tolerance fill_called fill_for literal_for changes_given check_list check_dimension changes change_along change_on as_labels as_label check_labels found check_held array_changed check_fit check_fill check_fits check_coord check_array unless
too_great = refl

not_needed : reindex_array (three kinds.Int8 one_to_three []) (asked (two 3 1) (filled (Number (pos 300)))) ≡ at (three kinds.Int8 one_to_three []) (pos 3 ∷ pos 1 ∷ []) (Some (pos 30) ∷ Some (pos 10) ∷ [])
unfolding reindex_array search_given as_method as_text as_tolerance fill_called fill_for literal_for changes_given check_list check_dimension changes change_along change_on as_labels as_label check_labels found check_held array_changed check_fit check_fill check_fits check_coord check_array unless
not_needed = refl

truth_among_numbers : reindex_array (three kinds.Int8 one_to_three []) (asked (two 3 1) (filled (Truth true))) ≡ Err WrongKind
unfolding reindex_array search_given as_method as_text as_tolerance fill_called fill_for literal_for unless
truth_among_numbers = refl

-- ---- coordinates: one along the dimension goes with it, a scalar stays

abbrev number : Coord
number = record { name = codes "n"; axes = []; attrs = []; content = contents.Cells (record { kind = kinds.Int64; shape = []; cells = Some (pos 5) ∷ [] }) false }

abbrev beside : Axis → List (Option ℤ) → ℕ → Coord
beside x cells n = record { name = codes "c"; axes = x ∷ []; attrs = []; content = contents.Cells (record { kind = kinds.Int64; shape = n ∷ []; cells = cells }) false }

with_coordinates : reindex_array (three kinds.Int64 one_to_three (beside (axis one_to_three) (Some (pos 1) ∷ Some (pos 2) ∷ Some (pos 4) ∷ []) 3 ∷ number ∷ [])) (asked (two 9 3) (filled (Number (pos 0))))
    ≡ at (three kinds.Int64 one_to_three (beside (axis (numbers (pos 9 ∷ pos 3 ∷ []))) (Some (pos 0) ∷ Some (pos 4) ∷ []) 2 ∷ number ∷ [])) (pos 9 ∷ pos 3 ∷ []) (Some (pos 0) ∷ Some (pos 30) ∷ [])
unfolding reindex_array search_given as_method as_text as_tolerance fill_called fill_for literal_for changes_given check_list check_dimension changes change_along change_on as_labels as_label check_labels found check_held array_changed check_fit check_fill check_fits check_coord check_array unless
with_coordinates = refl

-- ---- times

abbrev counted : List ℕ → Value → List (List ℕ × Value) → Result Value Fault
counted text l more = times_given (record { plain = Text text ∷ l ∷ []; keyed = more })

abbrev calendar : List ℕ → List (List ℕ × Value)
calendar t = (codes "calendar", Text t) ∷ []

-- 2000-01-01 and 2000-02-01
days : counted (codes "days since 2000-01-01") (two 0 31) []
    ≡ Ok (of.Times (record { units = record { unit = Days; reference = pos 946684800; calendar = Civil; early = true }; units_text = codes "days since 2000-01-01"; calendar_text = Some (codes "proleptic_gregorian") }) (pos 946684800 ∷ pos 949363200 ∷ []))
unfolding times_given times_by bound as_text counts_given as_numbers as_number calendar_given units_given units_of unit behind_word reference date part days_of_years days_of_months times_at time_at unless
days = refl

other_units : counted (codes "weeks since 2000-01-01") (two 0 31) [] ≡ Err BadArgument
unfolding times_given times_by bound as_text counts_given as_numbers as_number calendar_given units_given units_of unit unless
other_units = refl

other_calendar : counted (codes "days since 2000-01-01") (two 0 31) (calendar (codes "julian")) ≡ Err BadArgument
unfolding times_given times_by bound as_text counts_given as_numbers as_number calendar_given calendar_called unless
other_calendar = refl

-- the 60th day of the year is 1 March
days_noleap : counted (codes "days since 1970-01-01") (two 58 59) (calendar (codes "noleap"))
    ≡ Ok (of.Times (record { units = record { unit = Days; reference = pos 0; calendar = NoLeap; early = true }; units_text = codes "days since 1970-01-01"; calendar_text = Some (codes "noleap") }) (pos 5011200 ∷ pos 5097600 ∷ []))
unfolding times_given times_by bound as_text counts_given as_numbers as_number calendar_given calendar_called units_given units_of unit behind_word reference date part days_of_years days_of_months times_at time_at unless
days_noleap = refl

too_early : counted (codes "days since 1582-10-15") (one (Number (negsuc 0))) (calendar (codes "standard")) ≡ Err OutOfRange
unfolding times_given times_by bound as_text counts_given as_numbers as_number calendar_given calendar_called units_given units_of unit behind_word reference date part days_of_years days_of_months times_at time_at unless
too_early = refl

no_number : counted (codes "days since 2000-01-01") (one (Text (codes "0"))) [] ≡ Err WrongKind
unfolding times_given times_by bound as_text counts_given as_numbers as_number unless
no_number = refl

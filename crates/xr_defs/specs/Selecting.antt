-- Positions on a dimension (xarray user guide, "Indexing and selecting data", `isel`): one, a slice or a list of them. And the limits of
-- a result.
use Rattle.std.specs.Prelude.{◌+◌, ◌-◌, ◌&&◌, ℕ, ℤ, suc, pos, negsuc, Bool, false, List, [], ◌∷◌, ◌++◌, length, map, get_or, Option, Some, None, Result, Ok, Err, nat_lt, nat_le, if◌then◌else◌}
use Rattle.std.specs.Str.{bytes_eq}
use Rattle.std.specs.List.{list_all}
use Rattle.xr_types.specs.declared.fault.Fault.{Fault}
use Rattle.xr_types.specs.declared.fault.Fault.TheVariants.{OutOfRange, TooLarge}
use Rattle.xr_types.specs.declared.axis.Axis.{Axis}
use Rattle.xr_types.specs.declared.axis.LabelList.{LabelList}
use Rattle.xr_types.specs.declared.axis.LabelList.TheVariants.{Numbers, Times, Texts}
use Rattle.xr_defs.specs.declared.value.Content.{Content}
use Rattle.xr_defs.specs.declared.value.Content.TheVariants as contents
use Rattle.xr_defs.specs.declared.value.Coord.{Coord}
use Rattle.xr_types.specs.Results.{◌>>=◌, unless}
use Rattle.xr_types.specs.Points.{size}
use Rattle.xr_arrays.specs.Arrays.{Array}
use Rattle.xr_defs.specs.Slices.{slice_positions}
use Rattle.xr_types.specs.Names.{shape_over}
use Rattle.xr_defs.specs.Values.{DataArray, Dataset, Variable, axis_position, no_axis}
use Rattle.xr_defs.specs.Limits.{most_cells, most_dimensions, most_variables}
use Rattle.xr_defs.specs.Meanings.{Value, Values, Number, Sequence, Slice, NoValue, With}
use Rattle.xr_defs.specs.Arguments.{wrong, Positions, as_positions}

-- ---- the arguments

pub data Selector : Type 0 where
  At : ℤ → Selector
  Span : Positions → Selector
  Each : List ℤ → Selector

unfoldable pub as_number : Value → Result ℤ Fault
as_number (Number n) = Ok n
as_number v = wrong

unfoldable pub as_numbers : Values → Result (List ℤ) Fault
as_numbers NoValue = Ok []
as_numbers (With vs v) = as_numbers vs >>= λ ns. as_number v >>= λ n. Ok (ns ++ n ∷ [])

unfoldable pub as_selector : Value → Result Selector Fault
as_selector (Number n) = Ok (At n)
as_selector (Sequence vs) = as_numbers vs >>= λ ns. Ok (Each ns)
as_selector (Slice s e k) = as_positions (Slice s e k) >>= λ ps. Ok (Span ps)
as_selector v = wrong

unfoldable pub check_selector : List ℕ × Value → Result (Unit {0}) Fault
check_selector kv = as_selector kv.1 >>= λ s. Ok tt

-- ---- positions on an axis

-- one position takes the axis away; several leave it with its labels there
pub data Choice : Type 0 where
  One : ℕ → Choice
  Several : List ℕ → Choice

-- a negative position counts from the end
unfoldable pub position_in : ℕ → ℤ → Result ℕ Fault
position_in n (pos i) = if nat_lt i n then Ok i else Err OutOfRange
position_in n (negsuc i) = if nat_lt i n then Ok (n - suc i) else Err OutOfRange

unfoldable pub positions_in : ℕ → List ℤ → Result (List ℕ) Fault
positions_in n [] = Ok []
positions_in n (i ∷ is) = position_in n i >>= λ p. positions_in n is >>= λ ps. Ok (p ∷ ps)

unfoldable pub choice_of : ℕ → Selector → Result Choice Fault
choice_of n (At i) = position_in n i >>= λ p. Ok (One p)
choice_of n (Span ps) = Ok (Several (slice_positions n ps.start ps.stop ps.step))
choice_of n (Each is) = positions_in n is >>= λ ps. Ok (Several ps)

-- ---- the label of one position

-- the label at a position, as a coordinate without dimensions
abbrev pub label_content : LabelList → ℕ → Content
label_content (Numbers kind ns) p = contents.Cells (record { kind = kind; shape = []; cells = Some (get_or ns p (pos 0)) ∷ [] }) false
label_content (Times coding ts) p = contents.Time coding (get_or ts p (pos 0))
label_content (Texts ts) p = contents.Text (get_or ts p [])

abbrev pub label_coord : Axis → ℕ → List Coord
label_coord x p = elim x.labels [ None ↦ [] | Some l ↦ record { name = x.name; axes = []; attrs = l.attrs; content = label_content l.list p } ∷ [] ]

-- ---- one axis of a dataset

abbrev pub axis_called : List Axis → List ℕ → Axis
axis_called axes name = elim (axis_position name axes) [ None ↦ no_axis | Some k ↦ get_or axes k no_axis ]

abbrev pub place_of : List ℕ → List (List ℕ) → Option ℕ
place_of name [] = None
place_of name (n ∷ ns) = if bytes_eq n name then Some 0 else elim (place_of name ns) [ None ↦ None | Some k ↦ Some (suc k) ]

-- the cells of a variable with their shape
abbrev pub variable_array : List Axis → Variable → Array
variable_array axes v = record { kind = v.kind; shape = map (λ d. (axis_called axes d).size) v.dims; cells = v.cells }

-- ---- limits of a result

abbrev pub is_within : List ℕ → Bool
is_within shape = nat_le (length shape) most_dimensions && (list_all (λ n. nat_le n most_cells) shape && nat_le (size shape) most_cells)

abbrev pub are_within : List Coord → Bool
are_within coords = list_all (λ (c : Coord). is_within (shape_over c.axes)) coords

unfoldable pub check_array : DataArray → Result (Unit {0}) Fault
check_array a = unless (is_within (shape_over a.axes) && are_within a.coords) TooLarge

-- no more coordinates and data variables together than a dataset may have
abbrev pub are_few : Dataset → Bool
are_few set = nat_le (length set.coords + length set.vars) most_variables

unfoldable pub check_set : Dataset → Result (Unit {0}) Fault
check_set set =
    unless (list_all (λ (x : Axis). nat_le x.size most_cells) set.axes && (are_within set.coords && (list_all (λ v. is_within (variable_array set.axes v).shape) set.vars && are_few set))) TooLarge

-- Arrays that are written out. The cells of an array that becomes a coordinate are computed when its entry is put in its place, and what
-- computes them may decline its node.
use Rattle.std.specs.Prelude.{◌≡◌, ◌≢◌, ℕ, ℤ, Bool, true, List, [], ◌∷◌, length, map, get_or, Option, Some, None, Result, Ok, nat_le, if◌then◌else◌, codes, MatchOption, ⊤}
use Rattle.std.specs.Str.{bytes_eq}
use Rattle.std.specs.List.{list_all, list_any, AllByRecursion}
use Rattle.xr_types.specs.declared.axis.Axis.{Axis}
use Rattle.xr_types.specs.declared.text.TextBytes.{TextBytes}
use Rattle.xr_types.specs.declared.kind.DType.TheVariants as kinds
use Rattle.xr_types.specs.declared.fault.Fault.{Fault}
use Rattle.xr_types.specs.declared.fault.Fault.TheVariants.{WrongKind, BadArgument, SizeConflict, DoesNotFit, TooLarge}
use Rattle.xr_types.specs.declared.fault.CallFault.{CallFault}
use Rattle.xr_types.specs.Results.{◌>>=◌, unless, all_of}
use Rattle.xr_types.specs.Names.{shape_over}
use Rattle.xr_types.specs.Points.{size}
use Rattle.xr_files.specs.Classic.{is_name}
use Rattle.xr_arrays.specs.declared.node.Node.{Node}
use Rattle.xr_defs.specs.Limits.{most_dimensions}
use Rattle.xr_defs.specs.Meanings as of
use Rattle.xr_defs.specs.Meanings.{Given}
use Rattle.xr_defs.specs.Selecting.{check_array}
use Rattle.xr_defs.specs.Values.{DataArray}
use Rattle.xr_defs.specs.WellFormed.{AreSeen}
use Rattle.xr_defs.specs.Building.{Frame, argument, bare_axes, bound, check_elements, check_numbers, check_place, check_table_entry, dims_given, elements, entries_given, fits_kind, frame_of_array, given_value, is_missing, is_nested, is_regular, kind_for, kind_given, name_given, nested_shape, option, parameters, plain_array, required, suits}
use Rattle.xr_values.specs.declared.value.Value.{Value}
use Rattle.xr_values.specs.declared.value.Value.TheOpen as held
use Rattle.xr_values.specs.declared.value.Value.TheOpen.{Value-F}
use Rattle.xr_values.specs.declared.value.Value.TheViews.{out-Value}
use Rattle.xr_values.specs.declared.args.Args.{Args}
use Rattle.xr_values.specs.Meaning.{given, with_key}
use Rattle.xr_building.specs.declared.header.Header.{Header}
use Rattle.xr_building.specs.Entries.{refused, entries_in}
use Rattle.xr_building.specs.Frames.{IsFrame, IsOpenAxis}

-- ---- the argument for `coords`, by its place or by its name

abbrev pub keyword_held : List ℕ → List (TextBytes × Value) → Option Value
keyword_held name [] = None
keyword_held name (kv ∷ kvs) = if bytes_eq kv.0 name then Some kv.1 else keyword_held name kvs

abbrev pub coords_held : Args → Option Value
coords_held args = get_or (map Some args.plain.items) 2 (keyword_held (codes "coords") args.keyed.items)

-- the entries of a table
abbrev pub entries_of : Value-F Value → List (TextBytes × Value)
entries_of (held.Table es) = es.items
entries_of v = []

abbrev pub entries_held : Option Value → List (TextBytes × Value)
entries_held None = []
entries_held (Some v) = entries_of (out-Value v)

-- each can be one
abbrev pub table_entries : List Axis → List (List ℕ × of.Value) → Result (List (List ℕ × of.Value)) Fault
table_entries axes kvs = all_of (check_table_entry axes) kvs >>= λ u. Ok kvs

-- ---- the array over axes without labels

-- the name, and a kind that the elements can have
unfoldable pub header_of : List of.Value → Option of.Value → Option of.Value → Result Header Fault
header_of vs named kinded =
    name_given named >>= λ name. kind_given kinded >>= λ dtype. unless (suits (kind_for vs dtype) vs) WrongKind >>= λ u. Ok (record { name = name; kind = kind_for vs dtype; masked = list_any is_missing vs })

unfoldable pub plain_over : of.Value → List (List ℕ) → Option of.Value → Option of.Value → Option of.Value → Result DataArray Fault
plain_over content dims coords named kinded =
    entries_given (bare_axes dims (nested_shape (length dims) content)) (given_value coords) >>= λ entries. header_of (elements content) named kinded >>= λ h.
    all_of (check_place (bare_axes dims (nested_shape (length dims) content))) entries >>= λ a. unless (is_regular (nested_shape (length dims) content) content) SizeConflict >>= λ b.
    Ok (plain_array (bare_axes dims (nested_shape (length dims) content)) h.name h.kind (elements content))

unfoldable pub plain_given : Given → Result DataArray Fault
plain_given g =
    bound parameters g >>= λ vs. required (argument vs 0) >>= λ content. required (argument vs 1) >>= λ dimensions. check_elements (elements content) >>= λ a.
    dims_given (Some dimensions) >>= λ dims. unless (is_nested (length dims) content) BadArgument >>= λ b. plain_over content dims (argument vs 2) (option vs 3) (option vs 4)

-- ---- the array with these entries, the first fault, or the first declined node that the entries come to

-- elements that are none of the kind come first, then the numbers of the entries, and then the count of dimensions
unfoldable pub check_fit : DataArray → List (List ℕ × of.Value) → Result (Unit {0}) Fault
check_fit a entries = unless (list_all (fits_kind a.kind) a.cells) DoesNotFit >>= λ u. all_of check_numbers entries >>= λ v. unless (nat_le (length a.axes) most_dimensions) TooLarge

-- no more positions and cells than an array may have
abbrev pub limited : DataArray → Result DataArray Fault
limited a = check_array a >>= λ u. Ok a

abbrev pub framed : DataArray → Frame → DataArray
framed a f = record a { axes = f.axes; coords = f.coords }

unfoldable pub array_written : (ℕ → Bool) → List Node → Args → Result DataArray CallFault
array_written declines nodes args =
    refused (plain_given (given nodes args)) >>= λ a. entries_in declines nodes [] (frame_of_array a) (entries_held (coords_held args)) >>= λ f.
    refused (check_fit a (map (with_key nodes) (entries_held (coords_held args)))) >>= λ u. refused (limited (framed a f))

-- ---- the program's array

abbrev pub with_written : Header → Frame → List (Option ℤ) → DataArray
with_written h f cells = record { name = h.name; axes = f.axes; kind = h.kind; masked = h.masked; attrs = []; coords = f.coords; cells = cells }

pub record IsOpen (h : Header) (axes : List Axis) : Type 0 where
  pub name : MatchOption h.name ⊤ (λ n. is_name n ≡ true)
  pub kind : h.kind ≢ kinds.Char
  pub each : AllByRecursion IsOpenAxis axes

-- an array is as it has to be, however large, if its cells are of its kind
pub record IsFilled (a : DataArray) : Type 0 where
  pub frame : IsFrame a.axes a.coords
  pub name : MatchOption a.name ⊤ (λ n. is_name n ≡ true)
  pub kind : a.kind ≢ kinds.Char
  pub whole : length a.cells ≡ size (shape_over a.axes)
  pub seen : AreSeen a.masked a.cells

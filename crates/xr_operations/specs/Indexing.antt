-- Selection by position (xarray user guide, "Indexing and selecting data", `isel`; `DataArray.squeeze`): a position, a slice or a list
-- of positions for each dimension that is named. Lists select each dimension by itself and may repeat. A dimension of which one
-- position is taken goes, and leaves its label there.
use Rattle.std.specs.Prelude.{◌==◌, ◌++◌, ℕ, List, [], ◌∷◌, length, map, flat_map, is_some, Some, None, Result, Ok, if◌then◌else◌}
use Rattle.xr_types.specs.Names.{shape_over}
use Rattle.xr_types.specs.Results.{◌>>=◌, unless, all_of}
use Rattle.xr_types.specs.declared.axis.Axis.{Axis}
use Rattle.xr_types.specs.declared.fault.Fault.{Fault}
use Rattle.xr_types.specs.declared.fault.Fault.TheVariants.{BadArgument, TooLarge}
use Rattle.xr_defs.specs.Arguments.{check_dimension}
use Rattle.xr_defs.specs.Meanings.{Given, Value}
use Rattle.xr_defs.specs.Selecting.{Choice, One, Several, are_few, as_selector, axis_called, check_array, check_selector, check_set, choice_of, label_coord}
use Rattle.xr_defs.specs.Values.{DataArray, Dataset, Variable}
use Rattle.xr_defs.specs.declared.value.Content.{Content}
use Rattle.xr_defs.specs.declared.value.Content.TheVariants as contents
use Rattle.xr_defs.specs.declared.value.Coord.{Coord}
use Rattle.xr_operations.specs.declared.change.Change.{Change}
use Rattle.xr_operations.specs.declared.change.Selection.{Selection}
use Rattle.xr_operations.specs.Changing.{change_called, changed_array, changed_set}
use Rattle.xr_operations.specs.Reductions.{axes_left, names_left}

-- ---- dimensions of one position that go, with the cells as they are, and leave their labels as coordinates without dimensions

abbrev pub squeezed_content : List (List ℕ) → List Axis → Content → Content
squeezed_content gone axes (contents.Cells a masked) = contents.Cells (record a { shape = shape_over (axes_left gone axes) }) masked
squeezed_content gone axes (contents.Text t) = contents.Text t
squeezed_content gone axes (contents.Time coding t) = contents.Time coding t

abbrev pub squeezed_coord : List (List ℕ) → Coord → Coord
squeezed_coord gone c = record c { axes = axes_left gone c.axes; content = squeezed_content gone c.axes c.content }

abbrev pub labels_left : List (List ℕ) → List Axis → List Coord
labels_left gone axes = flat_map (λ n. label_coord (axis_called axes n) 0) gone

abbrev pub squeezed_coords : List (List ℕ) → List Axis → List Coord → List Coord
squeezed_coords gone axes coords = map (squeezed_coord gone) coords ++ labels_left gone axes

abbrev pub squeezed_array : List (List ℕ) → DataArray → DataArray
squeezed_array gone a = record a { axes = axes_left gone a.axes; coords = squeezed_coords gone a.axes a.coords }

abbrev pub squeezed_variable : List (List ℕ) → Variable → Variable
squeezed_variable gone v = record v { dims = names_left gone v.dims }

abbrev pub squeezed_set : List (List ℕ) → Dataset → Dataset
squeezed_set gone s =
    record s { axes = axes_left gone s.axes; coords = squeezed_coords gone s.axes s.coords; vars = map (squeezed_variable gone) s.vars }

-- ---- what the arguments choose

abbrev pub positions_of : Choice → List ℕ
positions_of (One p) = p ∷ []
positions_of (Several ps) = ps

-- the labels go with their positions
abbrev pub taking : List ℕ → Choice → Change
taking name c = record { name = name; labels = None; from = map Some (positions_of c) }

abbrev pub gone_with : List ℕ → Choice → List (List ℕ)
gone_with name (One p) = name ∷ []
gone_with name (Several ps) = []

-- of a name that stands twice the first counts
abbrev pub with_choice : Selection → List ℕ → Choice → Selection
with_choice s name c =
    if is_some (change_called s.changes name) then s else record { changes = s.changes ++ taking name c ∷ []; gone = s.gone ++ gone_with name c }

unfoldable pub choice_along : List Axis → List ℕ × Value → Result Choice Fault
choice_along axes kv = as_selector kv.1 >>= λ s. choice_of (axis_called axes kv.0).size s

-- one dimension after another
unfoldable pub selection_from : List Axis → Selection → List (List ℕ × Value) → Result Selection Fault
selection_from axes s [] = Ok s
selection_from axes s (kv ∷ kvs) = choice_along axes kv >>= λ c. selection_from axes (with_choice s kv.0 c) kvs

-- arguments by keyword alone, each a selector, along dimensions that are there; then the positions
unfoldable pub selection_given : List Axis → Given → Result Selection Fault
selection_given axes g =
    unless (length g.plain == 0) BadArgument >>= λ u. all_of check_selector g.keyed >>= λ v. all_of (check_dimension axes) g.keyed >>= λ w.
    selection_from axes (record { changes = []; gone = [] }) g.keyed

-- ---- isel

-- once it isn't too large
unfoldable pub array_selected : Selection → DataArray → Result DataArray Fault
array_selected s a = check_array (changed_array s.changes None a) >>= λ u. Ok (squeezed_array s.gone (changed_array s.changes None a))

unfoldable pub isel_array : DataArray → Given → Result DataArray Fault
isel_array a g = selection_given a.axes g >>= λ s. array_selected s a

unfoldable pub set_selected : Selection → Dataset → Result Dataset Fault
set_selected s d =
    check_set (changed_set s.changes None d) >>= λ u. unless (are_few (squeezed_set s.gone (changed_set s.changes None d))) TooLarge >>= λ v.
    Ok (squeezed_set s.gone (changed_set s.changes None d))

unfoldable pub isel_set : Dataset → Given → Result Dataset Fault
isel_set d g = selection_given d.axes g >>= λ s. set_selected s d

-- New labels for dimensions (xarray user guide, "Indexing and selecting data", `reindex`; `Dataset.reindex`): each new label shows
-- the cells that the old one has, or where there is none the fill. That a fill has to be given there, and has to fit, is this
-- project's own, since whole numbers have no NaN.
use Rattle.std.specs.Prelude.{◌==◌, ◌||◌, ℕ, Bool, true, false, not, codes, List, [], ◌∷◌, length, map, filter, Option, Some, None, is_some, Result, Ok, Err, if◌then◌else◌}
use Rattle.std.specs.List.{list_all}
use Rattle.std.specs.Result.{result_ok}
use Rattle.std.specs.Str.{bytes_eq}
use Rattle.xr_types.specs.Kinds.{in_range}
use Rattle.xr_types.specs.Names.{axis_names}
use Rattle.xr_types.specs.Results.{◌>>=◌, unless, all_of}
use Rattle.xr_types.specs.declared.axis.Axis.{Axis}
use Rattle.xr_types.specs.declared.axis.Label.{Label}
use Rattle.xr_types.specs.declared.axis.Label.TheVariants as label
use Rattle.xr_types.specs.declared.axis.LabelList.{LabelList}
use Rattle.xr_types.specs.declared.fault.Fault.{Fault}
use Rattle.xr_types.specs.declared.fault.Fault.TheVariants.{BadArgument, DoesNotFit, LabelKind, NotUnique, WouldPromote, WrongKind}
use Rattle.xr_types.specs.declared.kind.DType.{DType}
use Rattle.xr_types.specs.declared.kind.DType.TheVariants.{Int64}
use Rattle.xr_arrays.specs.Labels.{is_kin, labels_of, repeats}
use Rattle.xr_defs.specs.Arguments.{check_dimension}
use Rattle.xr_defs.specs.Building.{all_values, element_cell, given_value, keyword}
use Rattle.xr_defs.specs.Meanings as of
use Rattle.xr_defs.specs.Meanings.{Given, Value, Values}
use Rattle.xr_defs.specs.Selecting.{axis_called, check_array, check_set}
use Rattle.xr_defs.specs.Values.{DataArray, Dataset, Variable}
use Rattle.xr_defs.specs.declared.value.Content.TheVariants as contents
use Rattle.xr_defs.specs.declared.value.Coord.{Coord}
use Rattle.xr_operations.specs.Moves.{check_fill, fill_called, fill_for, is_literal}
use Rattle.xr_operations.specs.Selection.{Search, as_labels, check_search, found, is_label, search_given}
use Rattle.xr_operations.specs.Selection as selection
use Rattle.xr_operations.specs.declared.change.Change.{Change}
use Rattle.xr_operations.specs.Changing.{changed_array, changed_set, has_hole}

-- ---- what is given: labels for each dimension that is named

-- the other keywords
abbrev pub is_option : List ℕ → Bool
is_option name = selection.is_option name || bytes_eq name (codes "fill_value")

abbrev pub dimensions : Given → List (List ℕ × Value)
dimensions g = filter (λ kv. not (is_option kv.0)) g.keyed

abbrev pub fill_given : Given → Option Value
fill_given g = given_value (keyword (codes "fill_value") g.keyed)

-- a list of labels
abbrev pub is_list : Value → Bool
is_list (of.Sequence vs) = all_values is_label vs
is_list v = false

unfoldable pub check_list : List ℕ × Value → Result (Unit {0}) Fault
check_list kv = unless (is_list kv.1) WrongKind

abbrev pub items : Value → Values
items (of.Sequence vs) = vs
items v = of.NoValue

-- ---- the old position that a new label shows

-- labels of the old kind, and old labels that differ, in a direction that the method takes
unfoldable pub check_labels : Search → LabelList → List Label → Result (Unit {0}) Fault
check_labels by list ls =
    unless (list_all (is_kin list) ls) LabelKind >>= λ u.
    elim by.method [ None ↦ unless (not (repeats (labels_of list))) NotUnique | Some m ↦ check_search list m by.tolerance ]

-- the one that holds it, or with a method the one near it, if there is one
abbrev pub source : Search → LabelList → Label → Option ℕ
source by list l = result_ok (found by list l)

abbrev pub change_to : List ℕ → List Label → List (Option ℕ) → Change
change_to name ls from = record { name = name; labels = Some ls; from = from }

-- without a fill each new label is there
unfoldable pub change_on : Search → Bool → List ℕ → LabelList → Values → Result Change Fault
change_on by filled name list vs =
    as_labels list vs >>= λ ls. check_labels by list ls >>= λ u. unless (filled || list_all is_some (map (source by list) ls)) WouldPromote >>= λ v.
    Ok (change_to name ls (map (source by list) ls))

-- a dimension without labels has none of a kind
unfoldable pub change_along : Search → Bool → List Axis → List ℕ × Value → Result Change Fault
change_along by filled axes kv = elim (axis_called axes kv.0).labels [ None ↦ Err LabelKind | Some l ↦ change_on by filled kv.0 l.list (items kv.1) ]

-- one dimension after another
unfoldable pub changes : Search → Bool → List Axis → List (List ℕ × Value) → Result (List Change) Fault
changes by filled axes [] = Ok []
changes by filled axes (kv ∷ kvs) = change_along by filled axes kv >>= λ c. changes by filled axes kvs >>= λ cs. Ok (c ∷ cs)

-- ---- what has to fit: new whole numbers their kind, and the fill the kind of what has a position without a source

abbrev pub is_held : Label → Bool
is_held (label.Int n) = in_range Int64 n
is_held (label.Time t) = true
is_held (label.Text t) = true

unfoldable pub check_held : Change → Result (Unit {0}) Fault
check_held c = elim c.labels [ None ↦ Ok tt | Some ls ↦ unless (list_all is_held ls) DoesNotFit ]

unfoldable pub check_fit : List Change → Value → List (List ℕ) → DType → Result (Unit {0}) Fault
check_fit cs w dims t = if has_hole cs dims then (fill_for t w >>= λ fill. check_fill t fill) else Ok tt

unfoldable pub check_variable : List Change → Value → Variable → Result (Unit {0}) Fault
check_variable cs w v = check_fit cs w v.dims v.kind

unfoldable pub check_coord : List Change → Value → Coord → Result (Unit {0}) Fault
check_coord cs w c =
    elim c.content [ contents.Cells a masked ↦ check_fit cs w (axis_names c.axes) a.kind | contents.Text t ↦ Ok tt | contents.Time coding t ↦ Ok tt ]

-- where no fill is given, each position shows one
abbrev pub fill_or_missing : Option Value → Value
fill_or_missing None = of.Missing
fill_or_missing (Some w) = w

-- ---- reindex(DIM, method?, tolerance?, fill_value?)

-- the lists, of dimensions that are there; then the old positions; then the whole numbers among the new labels
unfoldable pub changes_given : Search → List Axis → Given → Result (List Change) Fault
changes_given by axes g =
    all_of check_list (dimensions g) >>= λ u. all_of (check_dimension axes) (dimensions g) >>= λ v.
    changes by (is_some (fill_given g)) axes (dimensions g) >>= λ cs. all_of check_held cs >>= λ w. Ok cs

unfoldable pub array_changed : List Change → Value → DataArray → Result DataArray Fault
array_changed cs w a =
    check_fit cs w (axis_names a.axes) a.kind >>= λ u. all_of (check_coord cs w) a.coords >>= λ v.
    check_array (changed_array cs (element_cell w) a) >>= λ x. Ok (changed_array cs (element_cell w) a)

-- a fill is a literal of the array's kind
unfoldable pub reindex_array : DataArray → Given → Result DataArray Fault
reindex_array a g =
    unless (length g.plain == 0) BadArgument >>= λ u. search_given g.keyed >>= λ by. fill_called a.kind (fill_given g) >>= λ fill.
    changes_given by a.axes g >>= λ cs. array_changed cs (fill_or_missing (fill_given g)) a

unfoldable pub check_literal : Option Value → Result (Unit {0}) Fault
check_literal None = Ok tt
check_literal (Some w) = unless (is_literal w) WrongKind

unfoldable pub set_changed : List Change → Value → Dataset → Result Dataset Fault
set_changed cs w s =
    all_of (check_variable cs w) s.vars >>= λ u. all_of (check_coord cs w) s.coords >>= λ v.
    check_set (changed_set cs (element_cell w) s) >>= λ x. Ok (changed_set cs (element_cell w) s)

-- each variable by the dimensions that it has
unfoldable pub reindex_set : Dataset → Given → Result Dataset Fault
reindex_set s g =
    unless (length g.plain == 0) BadArgument >>= λ u. search_given g.keyed >>= λ by. check_literal (fill_given g) >>= λ v.
    changes_given by s.axes g >>= λ cs. set_changed cs (fill_or_missing (fill_given g)) s

-- Axes of one name from several values, joined by their labels, and arrays brought over the joined axes (xarray user guide,
-- "Automatic alignment"; `xarray.align`; pandas, `Index.join`).
use Rattle.std.specs.Prelude.{◌==◌, ◌||◌, ℕ, ℤ, pos, Bool, true, false, not, List, [], ◌∷◌, ◌++◌, length, map, fold, get_or, Option, Some, None, is_some, is_none, option_map, Result, Ok, Err, if◌then◌else◌}
use Rattle.std.specs.List.{filter, list_any, list_all, range_with_len}
use Rattle.std.specs.BTreeSet.{insert_key}
use Rattle.std.specs.Result.{result_ok}
use Rattle.std.specs.Str.{bytes_eq}
use Rattle.xr_types.specs.Kinds.{promoted}
use Rattle.xr_types.specs.Names.{among, axis_names, shape_over}
use Rattle.xr_types.specs.Results.{◌>>=◌, unless}
use Rattle.xr_types.specs.declared.axis.Axis.{Axis}
use Rattle.xr_types.specs.declared.axis.Label.{Label}
use Rattle.xr_types.specs.declared.axis.Label.TheVariants.{Int, Time, Text}
use Rattle.xr_types.specs.declared.axis.Labels.{Labels}
use Rattle.xr_types.specs.declared.axis.LabelList.{LabelList}
use Rattle.xr_types.specs.declared.axis.LabelList.TheVariants.{Numbers, Times, Texts}
use Rattle.xr_types.specs.declared.fault.Fault.{Fault}
use Rattle.xr_types.specs.declared.fault.Fault.TheVariants.{LabelKind, NotAligned, NotUnique, SizeConflict, WouldPromote}
use Rattle.xr_types.specs.declared.kind.DType.{DType}
use Rattle.xr_types.specs.declared.kind.DType.TheVariants.{Int64}
use Rattle.xr_types.specs.declared.operation.How.{How}
use Rattle.xr_types.specs.declared.operation.How.TheVariants as how
use Rattle.xr_arrays.specs.Arrays.{Array, at, made}
use Rattle.xr_arrays.specs.Labels.{labels_of, order, place, repeats, same}
use Rattle.xr_times.specs.Times.{same_calendar}
use Rattle.xr_defs.specs.Building.{same_labels}
use Rattle.xr_defs.specs.Selecting.{axis_called}
use Rattle.xr_defs.specs.Values.{DataArray, array_of, no_axis}
use Rattle.xr_defs.specs.declared.value.Content.{Content}
use Rattle.xr_defs.specs.declared.value.Content.TheVariants as contents
use Rattle.xr_defs.specs.declared.value.Coord.{Coord}

-- ---- labels of one kind

-- whole numbers, times of one calendar, or texts
abbrev pub are_kin : LabelList → LabelList → Bool
are_kin (Numbers kind ns) (Numbers other ms) = true
are_kin (Times coding ts) (Times other us) = same_calendar coding.units.calendar other.units.calendar
are_kin (Texts ts) (Texts us) = true
are_kin list other = false

-- the kind of whole numbers; that of times and texts stands for nothing
abbrev pub number_kind : LabelList → DType
number_kind (Numbers kind ns) = kind
number_kind (Times coding ts) = Int64
number_kind (Texts ts) = Int64

-- the kind to which the whole numbers of the lists are promoted
unfoldable pub common_kind : DType → List LabelList → Result DType Fault
common_kind t [] = Ok t
common_kind t (Numbers u ns ∷ lists) = elim (promoted t u) [ None ↦ Err WouldPromote | Some v ↦ common_kind v lists ]
common_kind t (Times coding ts ∷ lists) = common_kind t lists
common_kind t (Texts ts ∷ lists) = common_kind t lists

abbrev pub number_of : Label → ℤ
number_of (Int n) = n
number_of (Time t) = t
number_of (Text t) = pos 0

abbrev pub text_of : Label → List ℕ
text_of (Text t) = t
text_of (Int n) = []
text_of (Time t) = []

-- these labels in a list of the sort of another, whole numbers as those of a kind
abbrev pub relisted : DType → LabelList → List Label → LabelList
relisted t (Numbers kind ns) labels = Numbers t (map number_of labels)
relisted t (Times coding ts) labels = Times coding (map number_of labels)
relisted t (Texts ts) labels = Texts (map text_of labels)

-- ---- the joined labels

abbrev pub holds_label : List Label → Label → Bool
holds_label labels l = list_any (λ m. same m l) labels

-- the distinct labels, ascending: each put in its place among those before it, unless it stands there
abbrev pub ascending : List Label → List Label
ascending labels = fold (insert_key order) [] labels

abbrev pub is_empty : List Label → Bool
is_empty [] = true
is_empty (l ∷ ls) = false

abbrev pub all_of_lists : List (List Label) → List Label
all_of_lists [] = []
all_of_lists (ls ∷ lists) = ls ++ all_of_lists lists

-- the labels of all, ascending; where the lists that aren't empty are equal, that list as it is
abbrev pub outer_of : List (List Label) → List Label
outer_of [] = []
outer_of (ls ∷ lists) = if list_all (same_labels ls) lists then ls else ascending (ls ++ all_of_lists lists)

abbrev pub last_of : List Label → List (List Label) → List Label
last_of ls [] = ls
last_of ls (ms ∷ lists) = last_of ms lists

abbrev pub joined_by : How → List Label → List (List Label) → List Label
joined_by how.Exact ls lists = ls
joined_by how.Inner ls lists = filter (λ l. list_all (λ ms. holds_label ms l) lists) ls
joined_by how.Outer ls lists = outer_of (filter (λ ms. not (is_empty ms)) (ls ∷ lists))
joined_by how.Left ls lists = ls
joined_by how.Right ls lists = last_of ls lists

abbrev pub is_exact : How → Bool
is_exact how.Exact = true
is_exact how.Inner = false
is_exact how.Outer = false
is_exact how.Left = false
is_exact how.Right = false

-- equal lists stay as they are; others aren't joined by `exact`, nor where one holds a label twice
unfoldable pub joined_labels : How → List Label → List (List Label) → Result (List Label) Fault
joined_labels j ls lists =
    if list_all (same_labels ls) lists then Ok ls
    else (unless (not (is_exact j)) NotAligned >>= λ u. unless (not (list_any repeats (ls ∷ lists))) NotUnique >>= λ v. Ok (joined_by j ls lists))

-- ---- the joined axis

abbrev pub indexes : List Axis → List Labels
indexes [] = []
indexes (x ∷ xs) = elim x.labels [ None ↦ indexes xs | Some l ↦ l ∷ indexes xs ]

abbrev pub listed : List Labels → List LabelList
listed ls = map (λ (l : Labels). l.list) ls

-- labels of one kind, which are joined. The index has the attributes of the first, and times its units.
unfoldable pub joined_index : How → Labels → List Labels → Result Labels Fault
joined_index j l ls =
    unless (list_all (are_kin l.list) (listed ls)) LabelKind >>= λ u.
    common_kind (number_kind l.list) (listed ls) >>= λ t.
    joined_labels j (labels_of l.list) (map labels_of (listed ls)) >>= λ labels. Ok (record { list = relisted t l.list labels; attrs = l.attrs })

-- an axis without labels where none has some
unfoldable pub labelled_axis : How → Axis → List Labels → Result Axis Fault
labelled_axis j x [] = Ok x
labelled_axis j x (l ∷ ls) = joined_index j l ls >>= λ m. Ok (record x { size = length (labels_of m.list); labels = Some m })

abbrev pub has_size : Axis → Axis → Bool
has_size joined x = is_some x.labels || (x.size == joined.size)

-- ---- the position of an old axis that stands for each position of a new one

-- the position that holds a label, if there is one and no other
abbrev pub found : List Label → Label → Option ℕ
found labels l = result_ok (place labels l)

abbrev pub each_position : ℕ → List (Option ℕ)
each_position n = map Some (range_with_len 0 n)

-- its own positions where the old axis is bare or the labels are equal, and else those that hold the new labels
abbrev pub sources_by : Option Labels → Option Labels → ℕ → List (Option ℕ)
sources_by None new n = each_position n
sources_by (Some l) None n = each_position n
sources_by (Some l) (Some m) n =
    if same_labels (labels_of l.list) (labels_of m.list) then each_position n else map (found (labels_of l.list)) (labels_of m.list)

abbrev pub sources : Axis → Axis → List (Option ℕ)
sources old new = sources_by old.labels new.labels new.size

abbrev pub has_all : Axis → Axis → Bool
has_all new old = list_all is_some (sources old new)

-- ---- the join of axes of one name, at least one: the joined axis or the first fault. A bare axis has its size, and without a
-- fill each value has each joined label.
unfoldable pub join : How → Bool → List Axis → Result Axis Fault
join j filled [] = Ok no_axis
join j filled (x ∷ xs) =
    labelled_axis j x (indexes (x ∷ xs)) >>= λ joined. unless (list_all (has_size joined) (x ∷ xs)) SizeConflict >>= λ u.
    unless (filled || list_all (has_all joined) (x ∷ xs)) WouldPromote >>= λ v. Ok joined

-- ---- the axes of several values together

-- the axis of a name, if there is one
abbrev pub axis_of : List ℕ → List Axis → Option Axis
axis_of name [] = None
axis_of name (x ∷ xs) = if bytes_eq x.name name then Some x else axis_of name xs

-- those of one name, of each value that has one
abbrev pub axes_named : List ℕ → List (List Axis) → List Axis
axes_named name [] = []
axes_named name (xs ∷ lists) = elim (axis_of name xs) [ None ↦ axes_named name lists | Some x ↦ x ∷ axes_named name lists ]

-- a name behind others, unless it is one of them
abbrev pub add_name : List (List ℕ) → List ℕ → List (List ℕ)
add_name names n = if among names n then names else names ++ n ∷ []

-- each name once, in the order of first appearance
abbrev pub names_once : List (List ℕ) → List (List ℕ)
names_once names = fold add_name [] names

abbrev pub all_names : List (List Axis) → List (List ℕ)
all_names [] = []
all_names (xs ∷ lists) = axis_names xs ++ all_names lists

-- an axis that one value alone has stays as it is
unfoldable pub joined_or_own : How → Bool → List Axis → Result Axis Fault
joined_or_own j filled [] = Ok no_axis
joined_or_own j filled (x ∷ []) = Ok x
joined_or_own j filled (x ∷ y ∷ xs) = join j filled (x ∷ y ∷ xs)

unfoldable pub joined_each : How → Bool → List (List Axis) → List (List ℕ) → Result (List Axis) Fault
joined_each j filled lists [] = Ok []
joined_each j filled lists (name ∷ names) = joined_or_own j filled (axes_named name lists) >>= λ x. joined_each j filled lists names >>= λ xs. Ok (x ∷ xs)

-- the axes of the values, those of one name joined, in the order of first appearance; or the first fault in that order
unfoldable pub aligned : How → Bool → List (List Axis) → Result (List Axis) Fault
aligned j filled lists = joined_each j filled lists (names_once (all_names lists))

-- ---- an array over new axes

-- the point of the old array that a point shows, if each of its positions has a source
abbrev pub source_point : List (List (Option ℕ)) → List ℕ → Option (List ℕ)
source_point [] p = Some []
source_point (s ∷ ss) [] = Some []
source_point (s ∷ ss) (i ∷ p) = elim (get_or s i None) [ None ↦ None | Some k ↦ option_map (λ q. k ∷ q) (source_point ss p) ]

abbrev pub cell_or : Option ℤ → Array → Option (List ℕ) → Option ℤ
cell_or fill a None = fill
cell_or fill a (Some q) = at a q

-- the axes of a value after the joins: one that is joined is the joined one
abbrev pub joined_in : List Axis → Axis → Axis
joined_in joined x = if among (axis_names joined) x.name then axis_called joined x.name else x

abbrev pub all_sources : List Axis → List Axis → List (List (Option ℕ))
all_sources joined own = map (λ (x : Axis). sources x (joined_in joined x)) own

abbrev pub fitted_cells : List Axis → List Axis → Option ℤ → Array → Array
fitted_cells joined own fill a = made a.kind (shape_over (map (joined_in joined) own)) (λ p. cell_or fill a (source_point (all_sources joined own) p))

-- whether some position has no source
abbrev pub has_hole : List Axis → List Axis → Bool
has_hole joined own = list_any (λ s. list_any is_none s) (all_sources joined own)

abbrev pub masked_with : Bool → Option ℤ → Bool → Bool
masked_with masked None hole = masked || hole
masked_with masked (Some n) hole = masked

abbrev pub fitted_content : List Axis → List Axis → Option ℤ → Content → Content
fitted_content joined own fill (contents.Cells a masked) = contents.Cells (fitted_cells joined own fill a) (masked_with masked fill (has_hole joined own))
fitted_content joined own fill (contents.Text t) = contents.Text t
fitted_content joined own fill (contents.Time coding t) = contents.Time coding t

abbrev pub fitted_coord : List Axis → Option ℤ → Coord → Coord
fitted_coord joined fill c = record c { axes = map (joined_in joined) c.axes; content = fitted_content joined c.axes fill c.content }

-- the array over the joined axes, whose cell at a point is the old one at the positions of its labels, or the fill
unfoldable pub fitted : List Axis → Option ℤ → DataArray → DataArray
fitted joined fill a =
    record a {
      axes = map (joined_in joined) a.axes;
      masked = masked_with a.masked fill (has_hole joined a.axes);
      coords = map (fitted_coord joined fill) a.coords;
      cells = (fitted_cells joined a.axes fill (array_of a)).cells;
    }

-- The methods of grouped values: each group, bin, window or block gives the fold of its cells (xarray, `DataArrayGroupBy`,
-- `DataArrayResample`, `DataArrayRolling`, `DataArrayCoarsen` and the same of `Dataset`).
use Rattle.std.specs.Prelude.{◌==◌, ◌||◌, nat_lt, ℕ, ℤ, Bool, true, false, not, List, [], ◌∷◌, length, map, Option, Some, None, is_none, is_some, Result, Ok, Err, codes, if◌then◌else◌}
use Rattle.std.specs.Str.{bytes_eq}
use Rattle.std.specs.List.{list_any}
use Rattle.xr_types.specs.Results.{◌>>=◌, unless, all_of}
use Rattle.xr_types.specs.Names.{among, axis_names, shape_over}
use Rattle.xr_types.specs.declared.axis.Axis.{Axis}
use Rattle.xr_types.specs.declared.fault.Fault.{Fault}
use Rattle.xr_types.specs.declared.fault.Fault.TheVariants.{BadArgument, WouldPromote, WrongKind}
use Rattle.xr_types.specs.declared.kind.DType.{DType}
use Rattle.xr_types.specs.declared.operation.FoldKind.{FoldKind}
use Rattle.xr_types.specs.declared.operation.FoldKind.TheVariants.{Sum, Prod, Min, Max, First, Last, ArgMin, ArgMax, Count, Any, All}
use Rattle.xr_arrays.specs.Folds.{folded_kind}
use Rattle.xr_defs.specs.Arguments.{nothing_given}
use Rattle.xr_defs.specs.Building.{bound, option}
use Rattle.xr_defs.specs.Carrying.{attr_rule}
use Rattle.xr_defs.specs.declared.carrying.Carry.TheVariants as carry
use Rattle.xr_defs.specs.Meanings.{Given, Value}
use Rattle.xr_defs.specs.Parts.{without_idle}
use Rattle.xr_defs.specs.Selecting.{variable_array}
use Rattle.xr_defs.specs.Values.{DataArray, Dataset, Variable, array_of, without_fills}
use Rattle.xr_defs.specs.declared.grouping.Grouping.{Grouping}
use Rattle.xr_defs.specs.declared.grouping.Grouping.TheVariants.{Dates, Coordinate, Bins, Windows, Blocks}
use Rattle.xr_operations.specs.Moves.{check_fill, fill_called, is_literal}
use Rattle.xr_operations.specs.Reductions.{check_size, masked_after, reduction_named, size_called, without_chars}
use Rattle.xr_groups.specs.declared.change.Change.{Change}
use Rattle.xr_groups.specs.declared.change.Least.{Least}
use Rattle.xr_groups.specs.declared.change.Least.TheVariants.{Never, Empty, Fewer}
use Rattle.xr_defs.specs.WellFormed.{variable_names}
use Rattle.xr_groups.specs.Groupings.{grouped_changes}
use Rattle.xr_groups.specs.Listed.{axes_by, coords_by, dim_by, dimensions, feeds_by, is_grouped, listed}

-- ---- which methods there are

unfoldable pub method_named : List ℕ → Option FoldKind
method_named name =
    if bytes_eq name (codes "first") then Some First else (if bytes_eq name (codes "last") then Some Last else reduction_named name)

-- groups and bins have all but those that tell a position
abbrev pub of_groups : FoldKind → Bool
of_groups ArgMin = false
of_groups ArgMax = false
of_groups Sum = true
of_groups Prod = true
of_groups Min = true
of_groups Max = true
of_groups Count = true
of_groups Any = true
of_groups All = true
of_groups First = true
of_groups Last = true

abbrev pub of_windows : FoldKind → Bool
of_windows Sum = true
of_windows Prod = true
of_windows Min = true
of_windows Max = true
of_windows Count = true
of_windows Any = false
of_windows All = false
of_windows First = false
of_windows Last = false
of_windows ArgMin = false
of_windows ArgMax = false

abbrev pub of_blocks : FoldKind → Bool
of_blocks Sum = true
of_blocks Prod = true
of_blocks Min = true
of_blocks Max = true
of_blocks Count = true
of_blocks Any = true
of_blocks All = true
of_blocks First = false
of_blocks Last = false
of_blocks ArgMin = false
of_blocks ArgMax = false

abbrev pub has_method : Grouping → FoldKind → Bool
has_method (Dates d field) k = of_groups k
has_method (Coordinate name) k = of_groups k
has_method (Bins d freq) k = of_groups k
has_method (Windows d w center least) k = of_windows k
has_method (Blocks sizes trim how) k = of_blocks k

-- ---- what a grouping asks of a method

-- which lists are too few
abbrev pub least_of : Grouping → Least
least_of (Dates d field) = Never
least_of (Coordinate name) = Never
least_of (Bins d freq) = Empty
least_of (Windows d w center least) = Fewer least
least_of (Blocks sizes trim how) = Never

-- a window keeps the coordinates of its position
abbrev pub keeps_coords : Grouping → Bool
keeps_coords (Windows d w center least) = true
keeps_coords (Dates d field) = false
keeps_coords (Coordinate name) = false
keeps_coords (Bins d freq) = false
keeps_coords (Blocks sizes trim how) = false

-- bins and windows take a fill, the others no argument
abbrev pub takes_fill : Least → Bool
takes_fill Never = false
takes_fill Empty = true
takes_fill (Fewer m) = true

unfoldable pub no_fill : Given → Result (Option Value) Fault
no_fill g = nothing_given g >>= λ u. Ok None

unfoldable pub fill_option : Given → Result (Option Value) Fault
fill_option g = bound (codes "fill_value" ∷ []) g >>= λ vs. Ok (option vs 0)

unfoldable pub fill_given : Least → Given → Result (Option Value) Fault
fill_given least g = if takes_fill least then fill_option g else no_fill g

-- ---- when a fill is needed

abbrev pub has_empty : Change → Bool
has_empty c = list_any (λ (ps : List ℕ). length ps == 0) c.lists

-- an empty bin is filled, and so is a window with too few cells where it needs more than one
abbrev pub needs_fill : Least → List Change → Bool
needs_fill Never cs = false
needs_fill Empty cs = list_any has_empty cs
needs_fill (Fewer m) cs = nat_lt 1 m

unfoldable pub check_filled : Least → List Change → Bool → Result (Unit {0}) Fault
check_filled least cs given = unless (given || not (needs_fill least cs)) WouldPromote

-- a fill that is given is in the range of the kind
unfoldable pub check_given : DType → Option (Option ℤ) → Result (Unit {0}) Fault
check_given t None = Ok tt
check_given t (Some fill) = check_fill t fill

abbrev pub fill_cell : Option (Option ℤ) → Option ℤ
fill_cell None = None
fill_cell (Some fill) = fill

-- ---- which results may miss cells

abbrev pub is_hidden : Option (Option ℤ) → Bool
is_hidden None = false
is_hidden (Some fill) = is_none fill

-- a window that needs one cell and has none is missing where no fill is given
abbrev pub window_masked : Bool → Option (Option ℤ) → Bool
window_masked masked None = masked
window_masked masked (Some fill) = is_none fill

abbrev pub masked_by : FoldKind → Least → Bool → Option (Option ℤ) → Bool
masked_by k Never masked fill = masked_after k masked
masked_by k Empty masked fill = masked_after k masked || is_hidden fill
masked_by k (Fewer m) masked fill = window_masked masked fill

-- ---- arrays

abbrev pub array_listed : FoldKind → Least → Bool → List Change → Option (Option ℤ) → DataArray → DataArray
array_listed k least keeps cs fill a =
    record {
      name = a.name;
      axes = axes_by cs a.axes;
      kind = folded_kind k a.kind;
      masked = masked_by k least a.masked fill;
      attrs = attr_rule carry.Method (a ∷ []);
      coords = coords_by keeps cs a.coords;
      cells = (listed k least (fill_cell fill) (feeds_by cs (axis_names a.axes)) (array_of a)).cells;
    }

-- one that has none of the dimensions stays as it is
abbrev pub array_by : FoldKind → Least → Bool → List Change → Option (Option ℤ) → DataArray → DataArray
array_by k least keeps cs fill a = if is_grouped cs (axis_names a.axes) then array_listed k least keeps cs fill a else a

unfoldable pub grouped_array : FoldKind → Grouping → DataArray → Given → Result DataArray Fault
grouped_array k grouping a g =
    let least = least_of grouping in
    unless (has_method grouping k) BadArgument >>= λ u. fill_given least g >>= λ v. fill_called (folded_kind k a.kind) v >>= λ fill.
    grouped_changes grouping a.axes a.coords [] >>= λ cs. check_filled least cs (is_some fill) >>= λ w. check_given (folded_kind k a.kind) fill >>= λ x.
    check_size (shape_over (axes_by cs a.axes)) >>= λ y. Ok (array_by k least (keeps_coords grouping) cs fill a)

-- ---- datasets: variables of chars are dropped, and each other one is treated by the dimensions that it has

-- the fill as a cell of a kind
abbrev pub fill_of : DType → Option Value → Option (Option ℤ)
fill_of t v = elim (fill_called t v) [ Err e ↦ None | Ok fill ↦ fill ]

abbrev pub variable_listed : FoldKind → Least → List Change → Option Value → List Axis → Variable → Variable
variable_listed k least cs fill axes v =
    let own = fill_of (folded_kind k v.kind) fill in
    record {
      name = v.name;
      dims = map (dim_by cs) v.dims;
      kind = folded_kind k v.kind;
      masked = masked_by k least v.masked own;
      attrs = without_fills v.attrs;
      cells = (listed k least (fill_cell own) (feeds_by cs v.dims) (variable_array axes v)).cells;
    }

-- one that has none of them stays as it is
abbrev pub variable_by : FoldKind → Least → List Change → Option Value → List Axis → Variable → Variable
variable_by k least cs fill axes v = if is_grouped cs v.dims then variable_listed k least cs fill axes v else v

unfoldable pub set_listed : FoldKind → Least → Bool → List Change → Option Value → Dataset → Dataset
set_listed k least keeps cs fill s =
    without_idle (record {
      axes = axes_by cs s.axes;
      coords = coords_by keeps cs s.coords;
      vars = map (variable_by k least cs fill s.axes) s.vars;
      attrs = without_fills s.attrs;
      skipped = s.skipped;
    })

-- a literal, and one for the kind of each variable that is grouped
unfoldable pub check_literal : Option Value → Result (Unit {0}) Fault
check_literal None = Ok tt
check_literal (Some v) = unless (is_literal v) WrongKind

unfoldable pub check_kind : FoldKind → List (List ℕ) → Option Value → Variable → Result (Unit {0}) Fault
check_kind k dims fill v = if list_any (among dims) v.dims then (fill_called (folded_kind k v.kind) fill >>= λ f. Ok tt) else Ok tt

unfoldable pub check_range : FoldKind → List Change → Option Value → Variable → Result (Unit {0}) Fault
check_range k cs fill v = if is_grouped cs v.dims then check_given (folded_kind k v.kind) (fill_of (folded_kind k v.kind) fill) else Ok tt

unfoldable pub check_points : List Change → List Axis → Variable → Result (Unit {0}) Fault
check_points cs axes v = check_size (map (size_called (axes_by cs axes)) (map (dim_by cs) v.dims))

unfoldable pub grouped_of : FoldKind → Grouping → Dataset → Given → Result Dataset Fault
grouped_of k grouping s g =
    let least = least_of grouping in
    unless (has_method grouping k) BadArgument >>= λ u. fill_given least g >>= λ fill. check_literal fill >>= λ v. grouped_changes grouping s.axes s.coords (variable_names s.vars) >>= λ cs.
    all_of (check_kind k (dimensions cs) fill) s.vars >>= λ w. check_filled least cs (is_some fill) >>= λ x. all_of (check_range k cs fill) s.vars >>= λ y.
    all_of (check_points cs s.axes) s.vars >>= λ z. Ok (set_listed k least (keeps_coords grouping) cs fill s)

unfoldable pub grouped_set : FoldKind → Grouping → Dataset → Given → Result Dataset Fault
grouped_set k grouping s g = grouped_of k grouping (without_chars s) g

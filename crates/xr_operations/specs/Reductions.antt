-- Reductions of some or all dimensions, and running sums along one (xarray, `DataArray.sum`, `min`, `argmin`, `count`, `any`,
-- `cumsum` and their like, and the same of `Dataset`; NumPy, "Mathematical functions" and "Sorting, searching, and counting").
use Rattle.std.specs.Prelude.{◌==◌, nat_le, ◌&&◌, ◌||◌, ℕ, Bool, true, false, not, List, [], ◌∷◌, map, filter, Option, Some, None, Result, Ok, codes, if◌then◌else◌}
use Rattle.std.specs.Str.{bytes_eq}
use Rattle.std.specs.List.{list_any, position_or_len}
use Rattle.xr_types.specs.Names.{among, are_distinct, axis_names, shape_over}
use Rattle.xr_types.specs.Points.{size}
use Rattle.xr_types.specs.Results.{◌>>=◌, unless, all_of}
use Rattle.xr_types.specs.declared.axis.Axis.{Axis}
use Rattle.xr_types.specs.declared.fault.Fault.{Fault}
use Rattle.xr_types.specs.declared.fault.Fault.TheVariants.{BadArgument, EmptyReduce, NoDimension, TooLarge, WrongKind}
use Rattle.xr_types.specs.declared.operation.FoldKind.{FoldKind}
use Rattle.xr_types.specs.declared.operation.FoldKind.TheVariants.{Sum, Prod, Min, Max, First, Last, ArgMin, ArgMax, Count, Any, All}
use Rattle.xr_arrays.specs.declared.node.Feed.{Feed}
use Rattle.xr_arrays.specs.declared.node.Feed.TheVariants as feed
use Rattle.xr_arrays.specs.Arrays.{Array}
use Rattle.xr_arrays.specs.Folds.{folded_kind}
use Rattle.xr_arrays.specs.Nodes.{folded, folded_axes, is_positional, scanned}
use Rattle.xr_defs.specs.Arguments.{only, as_text}
use Rattle.xr_defs.specs.Building.{bound, is_chars, option}
use Rattle.xr_defs.specs.Carrying.{attr_rule}
use Rattle.xr_defs.specs.declared.carrying.Carry.TheVariants as carry
use Rattle.xr_defs.specs.declared.value.Coord.{Coord}
use Rattle.xr_defs.specs.Limits.{most_cells}
use Rattle.xr_defs.specs.Meanings.{Given, Value}
use Rattle.xr_defs.specs.Parts.{as_names, without_idle}
use Rattle.xr_defs.specs.Selecting.{axis_called, variable_array}
use Rattle.xr_defs.specs.Values.{DataArray, Dataset, Variable, array_of, without_fills}

-- ---- sum, prod, min, max, count, any, all, argmin, argmax

unfoldable pub reduction_named : List ℕ → Option FoldKind
reduction_named name =
    if bytes_eq name (codes "sum") then Some Sum
    else (if bytes_eq name (codes "prod") then Some Prod
    else (if bytes_eq name (codes "min") then Some Min
    else (if bytes_eq name (codes "max") then Some Max
    else (if bytes_eq name (codes "count") then Some Count
    else (if bytes_eq name (codes "any") then Some Any
    else (if bytes_eq name (codes "all") then Some All
    else (if bytes_eq name (codes "argmin") then Some ArgMin
    else (if bytes_eq name (codes "argmax") then Some ArgMax else None))))))))

-- of no cell there is nothing that they give
abbrev pub needs_cells : FoldKind → Bool
needs_cells Min = true
needs_cells Max = true
needs_cells First = true
needs_cells Last = true
needs_cells ArgMin = true
needs_cells ArgMax = true
needs_cells Sum = false
needs_cells Prod = false
needs_cells Count = false
needs_cells Any = false
needs_cells All = false

-- ---- (dim?): a text, or a list of distinct texts; all dimensions where it isn't given

unfoldable pub distinct_names : Value → Result (List (List ℕ)) Fault
distinct_names v = as_names v >>= λ names. unless (are_distinct names) BadArgument >>= λ u. Ok names

unfoldable pub dims_named : List (List ℕ) → Option Value → Result (List (List ℕ)) Fault
dims_named dims None = Ok dims
dims_named dims (Some v) = distinct_names v

unfoldable pub check_dims : List (List ℕ) → List (List ℕ) → Result (Unit {0}) Fault
check_dims dims names = all_of (λ d. unless (among dims d) (NoDimension d)) names

unfoldable pub dim_option : Given → Result (Option Value) Fault
dim_option g = bound (codes "dim" ∷ []) g >>= λ vs. Ok (option vs 0)

-- the dimensions that are reduced, among those of an array or dataset
unfoldable pub dims_given : List (List ℕ) → Given → Result (List (List ℕ)) Fault
dims_given dims g = dim_option g >>= λ v. dims_named dims v >>= λ names. check_dims dims names >>= λ u. Ok names

-- ---- cells

-- a dimension that is reduced is folded whole
abbrev pub feed_of : List (List ℕ) → List ℕ → Feed
feed_of names d = if among names d then feed.All else feed.Keep

abbrev pub feeds : List (List ℕ) → List (List ℕ) → List Feed
feeds names dims = map (feed_of names) dims

-- the cell at a point is the fold of those at all points that agree with it in the other dimensions, in row order
abbrev pub reduced_cells : FoldKind → List (List ℕ) → List (List ℕ) → Array → Array
reduced_cells k names dims a = folded k (feeds names dims) a

-- only what needs cells can miss
abbrev pub masked_after : FoldKind → Bool → Bool
masked_after k masked = needs_cells k && masked

abbrev pub names_left : List (List ℕ) → List (List ℕ) → List (List ℕ)
names_left names dims = filter (λ d. not (among names d)) dims

abbrev pub axes_left : List (List ℕ) → List Axis → List Axis
axes_left names axes = filter (λ (x : Axis). not (among names x.name)) axes

-- coordinates that have a reduced dimension are dropped
abbrev pub coords_left : List (List ℕ) → List Coord → List Coord
coords_left names coords = filter (λ (c : Coord). not (list_any (among names) (axis_names c.axes))) coords

-- whether a dimension of this size is reduced and has no position
abbrev pub is_emptied : List (List ℕ) → List ℕ → ℕ → Bool
is_emptied names d n = among names d && (n == 0)

unfoldable pub check_cells : FoldKind → Bool → Result (Unit {0}) Fault
check_cells k emptied = unless (not (needs_cells k && emptied)) EmptyReduce

-- what tells a position does so along one dimension
unfoldable pub check_count : FoldKind → List Feed → Result (Unit {0}) Fault
check_count k fs = unless (not (is_positional k) || (folded_axes fs == 1)) BadArgument

-- without a dimension that has no position there may be more cells than an array may have
unfoldable pub check_size : List ℕ → Result (Unit {0}) Fault
check_size shape = unless (nat_le (size shape) most_cells) TooLarge

-- ---- arrays

unfoldable pub reduced : FoldKind → List (List ℕ) → DataArray → DataArray
reduced k names a =
    record {
      name = a.name;
      axes = axes_left names a.axes;
      kind = folded_kind k a.kind;
      masked = masked_after k a.masked;
      attrs = attr_rule carry.Method (a ∷ []);
      coords = coords_left names a.coords;
      cells = (reduced_cells k names (axis_names a.axes) (array_of a)).cells;
    }

unfoldable pub reduced_array : FoldKind → DataArray → Given → Result DataArray Fault
reduced_array k a g =
    unless (not (is_chars a.kind)) WrongKind >>= λ u. dims_given (axis_names a.axes) g >>= λ names. check_cells k (list_any (λ (x : Axis). is_emptied names x.name x.size) a.axes) >>= λ v.
    check_count k (feeds names (axis_names a.axes)) >>= λ w. check_size (shape_over (axes_left names a.axes)) >>= λ x. Ok (reduced k names a)

-- ---- datasets: variables of chars are dropped, and each other one is reduced over the dimensions that it has

abbrev pub without_chars : Dataset → Dataset
without_chars s = without_idle (record s { vars = filter (λ (v : Variable). not (is_chars v.kind)) s.vars })

abbrev pub has_any : List (List ℕ) → Variable → Bool
has_any names v = list_any (among names) v.dims

abbrev pub variable_over : FoldKind → List (List ℕ) → List Axis → Variable → Variable
variable_over k names axes v =
    record {
      name = v.name;
      dims = names_left names v.dims;
      kind = folded_kind k v.kind;
      masked = masked_after k v.masked;
      attrs = without_fills v.attrs;
      cells = (reduced_cells k names v.dims (variable_array axes v)).cells;
    }

-- one that has none of them stays as it is
abbrev pub variable_reduced : FoldKind → List (List ℕ) → List Axis → Variable → Variable
variable_reduced k names axes v = if has_any names v then variable_over k names axes v else v

unfoldable pub set_over : FoldKind → List (List ℕ) → Dataset → Dataset
set_over k names s =
    without_idle (record {
      axes = axes_left names s.axes;
      coords = coords_left names s.coords;
      vars = map (variable_reduced k names s.axes) s.vars;
      attrs = without_fills s.attrs;
      skipped = s.skipped;
    })

-- the size of a dimension of a dataset
abbrev pub size_called : List Axis → List ℕ → ℕ
size_called axes d = (axis_called axes d).size

abbrev pub check_variable : FoldKind → List (List ℕ) → List Axis → Variable → Result (Unit {0}) Fault
check_variable k names axes v = check_cells k (list_any (λ d. is_emptied names d (size_called axes d)) v.dims)

abbrev pub check_variable_size : List (List ℕ) → List Axis → Variable → Result (Unit {0}) Fault
check_variable_size names axes v = check_size (map (size_called axes) (names_left names v.dims))

unfoldable pub reduced_of : FoldKind → Dataset → Given → Result Dataset Fault
reduced_of k s g = dims_given (axis_names s.axes) g >>= λ names. all_of (check_variable k names s.axes) s.vars >>= λ u.
    all_of (check_variable_size names s.axes) s.vars >>= λ v. Ok (set_over k names s)

-- a dataset has no fold that tells a position
unfoldable pub reduced_set : FoldKind → Dataset → Given → Result Dataset Fault
reduced_set k s g = unless (not (is_positional k)) WrongKind >>= λ u. reduced_of k (without_chars s) g

-- ---- cumsum(dim): the sum of the present cells up to each position, along one dimension

unfoldable pub dim_given : List (List ℕ) → Given → Result (List ℕ) Fault
dim_given dims g = only (codes "dim") g >>= λ v. as_text v >>= λ d. unless (among dims d) (NoDimension d) >>= λ u. Ok d

abbrev pub running_cells : ℕ → Array → Array
running_cells k a = scanned Sum a k

-- all coordinates stay
abbrev pub summed_array : DataArray → ℕ → DataArray
summed_array a k =
    record a { kind = folded_kind Sum a.kind; masked = false; attrs = attr_rule carry.Method (a ∷ []); cells = (running_cells k (array_of a)).cells }

-- the place of a dimension
abbrev pub place_in : List (List ℕ) → List ℕ → ℕ
place_in dims d = position_or_len (bytes_eq d) dims

unfoldable pub cumsum_array : DataArray → Given → Result DataArray Fault
cumsum_array a g = unless (not (is_chars a.kind)) WrongKind >>= λ u. dim_given (axis_names a.axes) g >>= λ d. Ok (summed_array a (place_in (axis_names a.axes) d))

abbrev pub variable_summed : List Axis → Variable → ℕ → Variable
variable_summed axes v k =
    record v { kind = folded_kind Sum v.kind; masked = false; attrs = without_fills v.attrs; cells = (running_cells k (variable_array axes v)).cells }

-- one that hasn't the dimension stays as it is
abbrev pub variable_cumsum : List ℕ → List Axis → Variable → Variable
variable_cumsum d axes v = if among v.dims d then variable_summed axes v (place_in v.dims d) else v

abbrev pub summed_set : List ℕ → Dataset → Dataset
summed_set d s = record s { vars = map (variable_cumsum d s.axes) s.vars; attrs = without_fills s.attrs }

unfoldable pub cumsum_of : Dataset → Given → Result Dataset Fault
cumsum_of s g = dim_given (axis_names s.axes) g >>= λ d. Ok (summed_set d s)

unfoldable pub cumsum_set : Dataset → Given → Result Dataset Fault
cumsum_set s g = cumsum_of (without_chars s) g

-- Cells moved along dimensions, and differences of neighbours (xarray, `shift`, `roll` and `diff` of `DataArray` and `Dataset`). A
-- dataset is treated variable by variable, each by the dimensions that it has; what has none of them stays.
use Rattle.std.specs.Prelude.{◌+◌, ◌-◌, ◌%◌, ◌==◌, ◌&&◌, ◌||◌, ℕ, ℤ, suc, pos, negsuc, Bool, true, false, not, List, [], ◌∷◌, length, map, filter, get_or, Option, Some, None, is_some, is_none, Result, Ok, Err, nat_lt, if◌then◌else◌, codes}
use Rattle.std.specs.Str.{bytes_eq}
use Rattle.std.specs.List.{list_any, range_with_len}
use Rattle.xr_types.specs.Results.{◌>>=◌, unless, all_of}
use Rattle.xr_types.specs.Names.{axis_names}
use Rattle.xr_types.specs.declared.axis.Axis.{Axis}
use Rattle.xr_types.specs.declared.fault.Fault.{Fault}
use Rattle.xr_types.specs.declared.fault.Fault.TheVariants.{BadArgument, NoDimension, WouldPromote, WrongKind}
use Rattle.xr_types.specs.declared.kind.DType.{DType}
use Rattle.xr_types.specs.declared.operation.OpKind.TheVariants as ops
use Rattle.xr_arrays.specs.Arrays.{Array}
use Rattle.xr_arrays.specs.Elements.{binary_of}
use Rattle.xr_arrays.specs.Nodes.{taken_from}
use Rattle.xr_defs.specs.Arguments.{as_text, check_dimension, unfit}
use Rattle.xr_defs.specs.Building.{argument, bound, given_value, is_chars, keyword, option, required}
use Rattle.xr_defs.specs.Carrying.{attr_rule}
use Rattle.xr_defs.specs.declared.carrying.Carry.TheVariants as carry
use Rattle.xr_defs.specs.Meanings as of
use Rattle.xr_defs.specs.Meanings.{Given, Value}
use Rattle.xr_defs.specs.Parts.{without_idle}
use Rattle.xr_defs.specs.Selecting.{as_number, place_of, variable_array}
use Rattle.xr_defs.specs.Values.{DataArray, Dataset, Variable, array_of, axis_position, no_axis, without_fills}
use Rattle.xr_operations.specs.Arithmetic.{is_truths}
use Rattle.xr_operations.specs.CellMethods.{check_fits, literal_for}
use Rattle.xr_operations.specs.Changing.{changed_coord, new_axis}
use Rattle.xr_operations.specs.declared.change.Change.{Change}

-- ---- the old position that each position of an axis of n shows, if there is one

-- by k positions up: i shows i - k
abbrev pub shift_source : ℕ → ℤ → ℕ → Option ℕ
shift_source n (pos k) i = if nat_lt i k then None else Some (i - k)
shift_source n (negsuc k) i = if nat_lt (i + suc k) n then Some (i + suc k) else None

-- round by k positions: i shows the one that is i - k modulo n
abbrev pub roll_source : ℕ → ℤ → ℕ → Option ℕ
roll_source n (pos k) i = Some ((i + (n - k % n)) % n)
roll_source n (negsuc k) i = Some ((i + suc k) % n)

abbrev pub shifted : ℤ → ℕ → List (Option ℕ)
shifted k n = map (shift_source n k) (range_with_len 0 n)

abbrev pub rolled : ℤ → ℕ → List (Option ℕ)
rolled k n = map (roll_source n k) (range_with_len 0 n)

-- ---- cells moved along each dimension that is named

-- how far a dimension moves, if it is named
abbrev pub distance : List (List ℕ × ℤ) → List ℕ → Option ℤ
distance [] name = None
distance (by ∷ bys) name = if bytes_eq by.0 name then Some by.1 else distance bys name

abbrev pub is_moved : List (List ℕ × ℤ) → List (List ℕ) → Bool
is_moved bys dims = list_any (λ d. is_some (distance bys d)) dims

-- along axis number k
abbrev pub moved_at : (ℤ → ℕ → List (Option ℕ)) → Option ℤ → Array → ℕ → Option ℤ → Array
moved_at move fill a k None = a
moved_at move fill a k (Some by) = taken_from a k (move by (get_or a.shape k 0)) fill

-- along the axes of these names, which stand from number k on
abbrev pub moved_along : (ℤ → ℕ → List (Option ℕ)) → Option ℤ → List (List ℕ × ℤ) → ℕ → List (List ℕ) → Array → Array
moved_along move fill bys k [] a = a
moved_along move fill bys k (d ∷ dims) a = moved_along move fill bys (suc k) dims (moved_at move fill a k (distance bys d))

-- it is masked where missing cells move in
abbrev pub array_moved : (ℤ → ℕ → List (Option ℕ)) → Option ℤ → Bool → List (List ℕ × ℤ) → DataArray → DataArray
array_moved move fill hides bys a =
    record a {
      masked = a.masked || hides && is_moved bys (axis_names a.axes);
      cells = (moved_along move fill bys 0 (axis_names a.axes) (array_of a)).cells;
    }

-- ---- arguments

unfoldable pub distance_given : List ℕ × Value → Result (List ℕ × ℤ) Fault
distance_given kv = as_number kv.1 >>= λ n. Ok (kv.0, n)

unfoldable pub distances : List (List ℕ × Value) → Result (List (List ℕ × ℤ)) Fault
distances [] = Ok []
distances (kv ∷ kvs) = distance_given kv >>= λ by. distances kvs >>= λ bys. Ok (by ∷ bys)

abbrev pub is_fill : List ℕ × Value → Bool
is_fill kv = bytes_eq kv.0 (codes "fill_value")

-- the keywords that name dimensions
abbrev pub dimensions : Given → List (List ℕ × Value)
dimensions g = filter (λ kv. not (is_fill kv)) g.keyed

abbrev pub fill_given : Given → Option Value
fill_given g = given_value (keyword (codes "fill_value") g.keyed)

-- `NA`, or a literal of the kind
unfoldable pub fill_for : DType → Value → Result (Option ℤ) Fault
fill_for t of.Missing = Ok None
fill_for t v = literal_for t v >>= λ n. Ok (Some n)

unfoldable pub fill_called : DType → Option Value → Result (Option (Option ℤ)) Fault
fill_called t None = Ok None
fill_called t (Some v) = fill_for t v >>= λ fill. Ok (Some fill)

-- a move that leaves room behind it needs a fill
unfoldable pub needed : {A : Type 0} → Option A → Result A Fault
needed None = Err WouldPromote
needed (Some x) = Ok x

unfoldable pub check_fill : DType → Option ℤ → Result (Unit {0}) Fault
check_fill t None = Ok tt
check_fill t (Some n) = check_fits t n

-- ---- shift(DIM, fill_value?) and roll(DIM) of an array

unfoldable pub shift_array : DataArray → Given → Result DataArray Fault
shift_array a g =
    unless (length g.plain == 0) BadArgument >>= λ u. fill_called a.kind (fill_given g) >>= λ f. distances (dimensions g) >>= λ bys.
    all_of (check_dimension a.axes) (dimensions g) >>= λ v. needed f >>= λ fill. check_fill a.kind fill >>= λ w. Ok (array_moved shifted fill (is_none fill) bys a)

unfoldable pub roll_array : DataArray → Given → Result DataArray Fault
roll_array a g =
    unless (length g.plain == 0) BadArgument >>= λ u. distances g.keyed >>= λ bys. all_of (check_dimension a.axes) g.keyed >>= λ v. Ok (array_moved rolled None false bys a)

-- ---- shift and roll of a dataset

abbrev pub var_moved : (ℤ → ℕ → List (Option ℕ)) → (DType → Option ℤ) → Bool → List (List ℕ × ℤ) → Dataset → Variable → Variable
var_moved move fill hides bys set v =
    record v {
      masked = v.masked || hides && is_moved bys v.dims;
      cells = (moved_along move (fill v.kind) bys 0 v.dims (variable_array set.axes v)).cells;
    }

abbrev pub set_moved : (ℤ → ℕ → List (Option ℕ)) → (DType → Option ℤ) → Bool → List (List ℕ × ℤ) → Dataset → Dataset
set_moved move fill hides bys set = record set { vars = map (var_moved move fill hides bys set) set.vars }

unfoldable pub roll_set : Dataset → Given → Result Dataset Fault
roll_set set g =
    unless (length g.plain == 0) BadArgument >>= λ u. distances g.keyed >>= λ bys. all_of (check_dimension set.axes) g.keyed >>= λ v.
    Ok (set_moved rolled (λ t. None) false bys set)

abbrev pub is_literal : Value → Bool
is_literal (of.Number n) = true
is_literal (of.Truth b) = true
is_literal of.Missing = true
is_literal v = false

-- whether a keyword names one of these dimensions
abbrev pub has_any : List (List ℕ × Value) → List (List ℕ) → Bool
has_any kvs dims = list_any (λ d. is_some (keyword d kvs)) dims

-- a literal, and one for the kind of each variable that moves
unfoldable pub check_kinds : List (List ℕ × Value) → Option Value → List Variable → Result (Unit {0}) Fault
check_kinds kvs None vars = Ok tt
check_kinds kvs (Some w) vars =
    unless (is_literal w) WrongKind >>= λ u. all_of (λ (v : Variable). if has_any kvs v.dims then (fill_for v.kind w >>= λ fill. Ok tt) else Ok tt) vars

-- that literal is in the range of each kind
unfoldable pub check_ranges : List (List ℕ × Value) → Value → List Variable → Result (Unit {0}) Fault
check_ranges kvs w vars = all_of (λ (v : Variable). if has_any kvs v.dims then (fill_for v.kind w >>= λ fill. check_fill v.kind fill) else Ok tt) vars

-- the cell that a literal stands for
abbrev pub fill_cell : Value → DType → Option ℤ
fill_cell w t = elim (fill_for t w) [ Err e ↦ None | Ok fill ↦ fill ]

abbrev pub is_missing : Value → Bool
is_missing of.Missing = true
is_missing v = false

unfoldable pub shift_set : Dataset → Given → Result Dataset Fault
shift_set set g =
    unless (length g.plain == 0) BadArgument >>= λ u. check_kinds (dimensions g) (fill_given g) set.vars >>= λ v. distances (dimensions g) >>= λ bys.
    all_of (check_dimension set.axes) (dimensions g) >>= λ w. needed (fill_given g) >>= λ fill. check_ranges (dimensions g) fill set.vars >>= λ x.
    Ok (set_moved shifted (fill_cell fill) (is_missing fill) bys set)

-- ---- diff(dim, label="upper"): each position after the first less the one before it, with the label of one of them

abbrev pub uppers : ℕ → List ℕ
uppers n = range_with_len 1 (n - 1)

abbrev pub lowers : ℕ → List ℕ
lowers n = range_with_len 0 (n - 1)

abbrev pub labels_kept : Bool → ℕ → List ℕ
labels_kept upper n = if upper then uppers n else lowers n

-- along axis number k
abbrev pub differences : Array → ℕ → Array
differences a k = let n = get_or a.shape k 0 in binary_of ops.Subtract a.kind (taken_from a k (map Some (uppers n)) None) (taken_from a k (map Some (lowers n)) None)

-- the dimension at the labels that are kept
abbrev pub keeping : Bool → Axis → List Change
keeping upper x = record { name = x.name; labels = None; from = map Some (labels_kept upper x.size) } ∷ []

-- what lies along the dimension is changed with its labels
abbrev pub array_differences : Bool → ℕ → DataArray → DataArray
array_differences upper k a =
    let cs = keeping upper (get_or a.axes k no_axis) in
    record a {
      axes = map (new_axis cs) a.axes;
      attrs = attr_rule carry.Method (a ∷ []);
      coords = map (changed_coord cs None) a.coords;
      cells = (differences (array_of a) k).cells;
    }

abbrev pub var_differences : List ℕ → Dataset → Variable → Variable
var_differences dim set v =
    elim (place_of dim v.dims) [ None ↦ v | Some k ↦ record v { attrs = without_fills v.attrs; cells = (differences (variable_array set.axes v) k).cells } ]

abbrev pub set_differences : Bool → ℕ → Dataset → Dataset
set_differences upper k set =
    let x = get_or set.axes k no_axis in
    let cs = keeping upper x in
    record set {
      axes = map (new_axis cs) set.axes;
      coords = map (changed_coord cs None) set.coords;
      vars = map (var_differences x.name set) set.vars;
      attrs = without_fills set.attrs;
    }

unfoldable pub label_called : List ℕ → Result Bool Fault
label_called t = if bytes_eq t (codes "upper") then Ok true else if bytes_eq t (codes "lower") then Ok false else unfit

-- whether the upper labels are kept
unfoldable pub label_given : Option Value → Result Bool Fault
label_given None = Ok true
label_given (Some v) = as_text v >>= λ t. label_called t

unfoldable pub diff_given : Given → Result (List ℕ × Bool) Fault
diff_given g =
    bound (codes "dim" ∷ codes "label" ∷ []) g >>= λ vs. required (argument vs 0) >>= λ v. as_text v >>= λ dim. label_given (option vs 1) >>= λ upper. Ok (dim, upper)

unfoldable pub diff_array : DataArray → Given → Result DataArray Fault
diff_array a g =
    unless (not (is_chars a.kind)) WrongKind >>= λ u. diff_given g >>= λ d.
    elim (axis_position d.0 a.axes) [ None ↦ Err (NoDimension d.0) | Some k ↦ unless (not (is_truths a.kind)) WrongKind >>= λ v. Ok (array_differences d.1 k a) ]

-- a variable of text has no differences: it is dropped first
abbrev pub without_chars : Dataset → Dataset
without_chars set = without_idle (record set { vars = filter (λ (v : Variable). not (is_chars v.kind)) set.vars })

unfoldable pub check_numbers : List ℕ → Variable → Result (Unit {0}) Fault
check_numbers dim v = unless (not (is_truths v.kind && is_some (place_of dim v.dims))) WrongKind

unfoldable pub diff_set : Dataset → Given → Result Dataset Fault
diff_set set g =
    diff_given g >>= λ d. (
    let s = without_chars set in
    elim (axis_position d.0 s.axes) [ None ↦ Err (NoDimension d.0) | Some k ↦ all_of (check_numbers d.0) s.vars >>= λ u. Ok (set_differences d.1 k s) ]
    )

-- Operators (xarray user guide, "Computation", "Basic array math" and "Automatic alignment"; NumPy, "Data type promotion in
-- NumPy"). Two arrays are joined by `inner` along each dimension that both have; an array and a whole number or truth value work
-- cell by cell.
use Rattle.std.specs.Prelude.{◌&&◌, ◌||◌, ℕ, ℤ, Bool, true, false, not, List, [], ◌∷◌, map, Option, Some, None, Result, Ok, Err, if◌then◌else◌}
use Rattle.std.specs.Str.{bytes_eq}
use Rattle.xr_types.specs.Kinds.{in_range, promoted}
use Rattle.xr_types.specs.Names.{shape_over}
use Rattle.xr_types.specs.Points.{tab}
use Rattle.xr_types.specs.Results.{◌>>=◌, unless}
use Rattle.xr_types.specs.declared.axis.Axis.{Axis}
use Rattle.xr_types.specs.declared.fault.Fault.{Fault}
use Rattle.xr_types.specs.declared.fault.Fault.TheVariants.{WrongKind, WouldPromote, DoesNotFit}
use Rattle.xr_types.specs.declared.kind.DType.{DType}
use Rattle.xr_types.specs.declared.kind.DType.TheVariants as kinds
use Rattle.xr_types.specs.declared.operation.How.TheVariants as how
use Rattle.xr_types.specs.declared.operation.OpKind.{OpKind}
use Rattle.xr_types.specs.declared.operation.OpKind.TheVariants as ops
use Rattle.xr_arrays.specs.Arrays.{at}
use Rattle.xr_arrays.specs.Elements.{elem, is_comparison, result_kind, unary_of}
use Rattle.xr_defs.specs.Arguments.{wrong}
use Rattle.xr_defs.specs.Building.{is_chars, is_integer_kind, truth_number}
use Rattle.xr_defs.specs.Carrying.{attr_rule, coord_rule, name_rule}
use Rattle.xr_defs.specs.declared.carrying.Carry.{Carry}
use Rattle.xr_defs.specs.declared.carrying.Carry.TheVariants as carry
use Rattle.xr_defs.specs.Meanings as of
use Rattle.xr_defs.specs.Meanings.{Value}
use Rattle.xr_defs.specs.Selecting.{check_array}
use Rattle.xr_defs.specs.Values.{DataArray, array_of}
use Rattle.xr_operations.specs.declared.side.Side.{Side}
use Rattle.xr_operations.specs.declared.side.Side.TheVariants.{Left, Right}
use Rattle.xr_operations.specs.Alignment.{aligned, fitted}

-- ---- operators by what they take

pub data Sort : Type 0 where
  -- + - * // %
  Arithmetic : Sort
  -- & | ^
  Bitwise : Sort
  -- == !=
  Equality : Sort
  -- < <= > >=
  Order : Sort
  -- /
  Division : Sort

-- an operator of two operands; no other stands between two expressions
abbrev pub sort_of : OpKind → Sort
sort_of ops.Add = Arithmetic
sort_of ops.Subtract = Arithmetic
sort_of ops.Multiply = Arithmetic
sort_of ops.FloorDivide = Arithmetic
sort_of ops.Remainder = Arithmetic
sort_of ops.And = Bitwise
sort_of ops.Or = Bitwise
sort_of ops.Xor = Bitwise
sort_of ops.Equal = Equality
sort_of ops.NotEqual = Equality
sort_of ops.Less = Order
sort_of ops.LessEqual = Order
sort_of ops.Greater = Order
sort_of ops.GreaterEqual = Order
sort_of ops.Divide = Division
sort_of ops.Negate = Division
sort_of ops.Invert = Division
sort_of ops.IsNull = Division
sort_of ops.NotNull = Division
sort_of ops.FillNa = Division
sort_of ops.Cast = Division

abbrev pub is_truths : DType → Bool
is_truths t = not (is_integer_kind t || is_chars t)

-- ---- kinds

-- two kinds that an operator takes: no bytes of text, and for arithmetic an integer kind on one side at least
unfoldable pub check_kinds : Sort → DType → DType → Result (Unit {0}) Fault
check_kinds Arithmetic t u = unless (not (is_chars t || is_chars u) && (is_integer_kind t || is_integer_kind u)) WrongKind
check_kinds Bitwise t u = unless (not (is_chars t || is_chars u)) WrongKind
check_kinds Equality t u = unless (not (is_chars t || is_chars u)) WrongKind
check_kinds Order t u = unless (not (is_chars t || is_chars u)) WrongKind
check_kinds Division t u = unless (not (is_chars t || is_chars u)) WrongKind >>= λ v. Err WouldPromote

-- the kind that both operands become
unfoldable pub common_kind : OpKind → DType → DType → Result DType Fault
common_kind op t u = check_kinds (sort_of op) t u >>= λ v. elim (promoted t u) [ None ↦ Err WouldPromote | Some k ↦ Ok k ]

-- ---- broadcasting by dimension names

abbrev pub position_along : List Axis → List ℕ → List ℕ → ℕ
position_along [] p name = 0
position_along (x ∷ xs) [] name = 0
position_along (x ∷ xs) (i ∷ p) name = if bytes_eq x.name name then i else position_along xs p name

-- the positions of a point along the axes that an array has
abbrev pub point_along : List Axis → List Axis → List ℕ → List ℕ
point_along axes own p = map (λ (x : Axis). position_along axes p x.name) own

-- the cell of an array at a point of more axes, in a kind
abbrev pub cell_along : DType → List Axis → DataArray → List ℕ → Option ℤ
cell_along t axes a p = at (unary_of ops.Cast t (array_of a)) (point_along axes a.axes p)

-- ---- two arrays

-- over joined axes, in the kind that both become
abbrev pub paired_cells : OpKind → DType → List Axis → DataArray → DataArray → List (Option ℤ)
paired_cells op t axes a b = tab (shape_over axes) (λ p. elem op t (cell_along t axes a p) (cell_along t axes b p))

unfoldable pub paired : OpKind → DType → List Axis → DataArray → DataArray → DataArray
paired op t axes a b =
    record {
      name = name_rule carry.Binary (a ∷ b ∷ []);
      axes = axes;
      kind = result_kind op t;
      masked = a.masked || b.masked;
      attrs = attr_rule carry.Binary (a ∷ b ∷ []);
      coords = coord_rule (a ∷ b ∷ []) axes;
      cells = paired_cells op t axes a b;
    }

-- kinds, then the join of each dimension in the left operand's order, then the limits
unfoldable pub of_two_arrays : OpKind → DataArray → DataArray → Result DataArray Fault
of_two_arrays op a b =
    common_kind op a.kind b.kind >>= λ t. aligned how.Inner false (a.axes ∷ b.axes ∷ []) >>= λ axes.
    (let c = paired op t axes (fitted axes None a) (fitted axes None b) in check_array c >>= λ u. Ok c)

-- ---- an array and a literal

-- the cell with the literal on its side
abbrev pub beside : Side → OpKind → DType → Option ℤ → ℤ → Option ℤ
beside Left op t x n = elem op t (Some n) x
beside Right op t x n = elem op t x (Some n)

-- the array keeps its name, coordinates and attributes, but for those that name fill numbers
unfoldable pub with_literal : Side → OpKind → DType → ℤ → DataArray → DataArray
with_literal side op t n a =
    record {
      name = a.name;
      axes = a.axes;
      kind = result_kind op t;
      masked = a.masked;
      attrs = attr_rule carry.Method (a ∷ []);
      coords = a.coords;
      cells = tab (shape_over a.axes) (λ p. beside side op t (at (unary_of ops.Cast t (array_of a)) p) n);
    }

abbrev pub number_kind : DType → DType
number_kind t = if is_truths t then kinds.Int64 else t

-- a whole number has the array's kind, and int64 with truth values; in a comparison it is compared as it is
unfoldable pub of_number : Side → OpKind → DataArray → ℤ → Result DataArray Fault
of_number side op a n =
    common_kind op a.kind (number_kind a.kind) >>= λ t. unless (is_comparison op || in_range t n) DoesNotFit >>= λ u. Ok (with_literal side op t n a)

abbrev pub takes_truths : Sort → Bool
takes_truths Bitwise = true
takes_truths Equality = true
takes_truths Arithmetic = false
takes_truths Order = false
takes_truths Division = false

-- a truth value goes with truth values alone
abbrev pub check_truths : OpKind → DType → Result (Unit {0}) Fault
check_truths op t = unless (is_truths t && takes_truths (sort_of op)) WrongKind

unfoldable pub of_truth : Side → OpKind → DataArray → Bool → Result DataArray Fault
of_truth side op a b = check_truths op a.kind >>= λ u. Ok (with_literal side op kinds.Bool (truth_number b) a)

-- ---- expressions

unfoldable pub binary_called : OpKind → Value → Value → Result Value Fault
binary_called op (of.Array a) (of.Array b) = of_two_arrays op a b >>= λ c. Ok (of.Array c)
binary_called op (of.Array a) (of.Number n) = of_number Right op a n >>= λ c. Ok (of.Array c)
binary_called op (of.Number n) (of.Array a) = of_number Left op a n >>= λ c. Ok (of.Array c)
binary_called op (of.Array a) (of.Truth b) = of_truth Right op a b >>= λ c. Ok (of.Array c)
binary_called op (of.Truth b) (of.Array a) = of_truth Left op a b >>= λ c. Ok (of.Array c)
binary_called op v w = wrong

-- ---- one array

-- an operation on each of its cells
abbrev pub mapped : OpKind → DType → Bool → Carry → DataArray → DataArray
mapped op t masked by a = record a { kind = t; masked = masked; attrs = attr_rule by (a ∷ []); cells = (unary_of op t (array_of a)).cells }

-- unary minus of integers, `~` of integers and truth values; no other operator stands before an expression
unfoldable pub check_unary : OpKind → DType → Result (Unit {0}) Fault
check_unary ops.Negate t = unless (is_integer_kind t) WrongKind
check_unary ops.Invert t = unless (not (is_chars t)) WrongKind
check_unary op t = wrong

unfoldable pub of_one_array : OpKind → DataArray → Result DataArray Fault
of_one_array op a = check_unary op a.kind >>= λ u. Ok (mapped op a.kind a.masked carry.Method a)

unfoldable pub unary_called : OpKind → Value → Result Value Fault
unary_called op (of.Array a) = of_one_array op a >>= λ b. Ok (of.Array b)
unary_called op v = wrong

-- Methods of an array that work cell by cell, and the choice between two arrays (xarray, `DataArray.astype`, `isnull`, `notnull`,
-- `fillna`, `where`, and `xarray.where`).
use Rattle.std.specs.Prelude.{◌||◌, ℕ, ℤ, Bool, true, false, not, List, [], ◌∷◌, ◌++◌, map, Option, Some, None, Result, Ok, Err, codes}
use Rattle.xr_types.specs.Kinds.{in_range, promoted}
use Rattle.xr_types.specs.Names.{shape_over}
use Rattle.xr_types.specs.Points.{tab}
use Rattle.xr_types.specs.Results.{◌>>=◌, unless}
use Rattle.xr_types.specs.declared.axis.Axis.{Axis}
use Rattle.xr_types.specs.declared.fault.Fault.{Fault}
use Rattle.xr_types.specs.declared.fault.Fault.TheVariants.{WrongKind, WouldPromote, DoesNotFit}
use Rattle.xr_types.specs.declared.kind.DType.{DType}
use Rattle.xr_types.specs.declared.kind.DType.TheVariants as kinds
use Rattle.xr_types.specs.declared.operation.How.TheVariants as how
use Rattle.xr_types.specs.declared.operation.OpKind.{OpKind}
use Rattle.xr_types.specs.declared.operation.OpKind.TheVariants as ops
use Rattle.xr_arrays.specs.Arrays.{at}
use Rattle.xr_arrays.specs.Elements.{choose, elem}
use Rattle.xr_defs.specs.Arguments.{wrong, unfit, only, as_text, nothing_given}
use Rattle.xr_defs.specs.Building.{argument, bound, is_chars, kind_named, kinds_named, option, required, truth_number}
use Rattle.xr_defs.specs.Carrying.{attr_rule, coord_rule, name_rule}
use Rattle.xr_defs.specs.declared.carrying.Carry.{Carry}
use Rattle.xr_defs.specs.declared.carrying.Carry.TheVariants as carry
use Rattle.xr_defs.specs.Meanings as of
use Rattle.xr_defs.specs.Meanings.{Given, Value}
use Rattle.xr_defs.specs.Selecting.{check_array}
use Rattle.xr_defs.specs.Values.{DataArray, array_of}
use Rattle.xr_operations.specs.Alignment.{aligned, fitted}
use Rattle.xr_operations.specs.Arithmetic.{cell_along, is_truths, mapped}

-- ---- astype(kind), isnull(), notnull()

unfoldable pub tested : OpKind → DataArray → Given → Result DataArray Fault
tested op a g = nothing_given g >>= λ u. Ok (mapped op kinds.Bool false carry.Method a)

unfoldable pub kind_called : List ℕ → Result DType Fault
kind_called t = elim (kind_named t kinds_named) [ None ↦ unfit | Some k ↦ Ok k ]

-- bytes of text have no other kind, and no other kind becomes bytes of text
unfoldable pub cast_called : DataArray → Given → Result DataArray Fault
cast_called a g =
    unless (not (is_chars a.kind)) WrongKind >>= λ u. only (codes "kind") g >>= λ v. as_text v >>= λ t. kind_called t >>= λ k.
    Ok (mapped ops.Cast k a.masked carry.Keep a)

-- ---- a literal for a kind: a truth value for truth values, and a whole number for the others

unfoldable pub literal_for : DType → Value → Result ℤ Fault
literal_for t (of.Number n) = unless (not (is_truths t)) WrongKind >>= λ u. Ok n
literal_for t (of.Truth b) = unless (is_truths t) WrongKind >>= λ u. Ok (truth_number b)
literal_for t v = wrong

unfoldable pub check_fits : DType → ℤ → Result (Unit {0}) Fault
check_fits t n = unless (in_range t n) DoesNotFit

-- ---- fillna(literal)

unfoldable pub one_of : List Value → List (List ℕ × Value) → Result Value Fault
one_of (v ∷ []) [] = Ok v
one_of plain keyed = unfit

abbrev pub the_one : Given → Result Value Fault
the_one g = one_of g.plain g.keyed

abbrev pub filled_with : ℤ → DataArray → DataArray
filled_with n a =
    record a { masked = false; attrs = attr_rule carry.Keep (a ∷ []); cells = tab (shape_over a.axes) (λ p. elem ops.FillNa a.kind (at (array_of a) p) (Some n)) }

unfoldable pub fill_called : DataArray → Given → Result DataArray Fault
fill_called a g = the_one g >>= λ v. literal_for a.kind v >>= λ n. check_fits a.kind n >>= λ u. Ok (filled_with n a)

-- ---- where(cond, x, y)

-- what stands where the condition holds, or where it doesn't
pub data Branch : Type 0 where
  FromArray : DataArray → Branch
  FromNumber : ℤ → Branch
  FromTruth : Bool → Branch
  FromMissing : Branch

unfoldable pub as_branch : Value → Result Branch Fault
as_branch (of.Array a) = Ok (FromArray a)
as_branch (of.Number n) = Ok (FromNumber n)
as_branch (of.Truth b) = Ok (FromTruth b)
as_branch of.Missing = Ok FromMissing
as_branch v = wrong

abbrev pub both_missing : Branch → Branch → Bool
both_missing FromMissing FromMissing = true
both_missing x y = false

-- the kind of the result: that to which two arrays are promoted, an array's, which the literal fits by its sort, or that of literals
unfoldable pub chosen_kind : Branch → Branch → Result DType Fault
chosen_kind (FromArray a) (FromArray b) = elim (promoted a.kind b.kind) [ None ↦ Err WouldPromote | Some t ↦ Ok t ]
chosen_kind (FromArray a) (FromNumber n) = unless (not (is_truths a.kind)) WrongKind >>= λ u. Ok a.kind
chosen_kind (FromArray a) (FromTruth b) = unless (is_truths a.kind) WrongKind >>= λ u. Ok a.kind
chosen_kind (FromArray a) FromMissing = Ok a.kind
chosen_kind (FromNumber n) (FromArray b) = unless (not (is_truths b.kind)) WrongKind >>= λ u. Ok b.kind
chosen_kind (FromNumber n) (FromNumber m) = Ok kinds.Int64
chosen_kind (FromNumber n) (FromTruth b) = wrong
chosen_kind (FromNumber n) FromMissing = Ok kinds.Int64
chosen_kind (FromTruth b) (FromArray a) = unless (is_truths a.kind) WrongKind >>= λ u. Ok a.kind
chosen_kind (FromTruth b) (FromNumber n) = wrong
chosen_kind (FromTruth b) (FromTruth c) = Ok kinds.Bool
chosen_kind (FromTruth b) FromMissing = Ok kinds.Bool
chosen_kind FromMissing (FromArray b) = Ok b.kind
chosen_kind FromMissing (FromNumber n) = Ok kinds.Int64
chosen_kind FromMissing (FromTruth b) = Ok kinds.Bool
chosen_kind FromMissing FromMissing = wrong

unfoldable pub check_branch : DType → Branch → Result (Unit {0}) Fault
check_branch t (FromNumber n) = unless (in_range t n) DoesNotFit
check_branch t (FromArray a) = Ok tt
check_branch t (FromTruth b) = Ok tt
check_branch t FromMissing = Ok tt

abbrev pub arrays_in : Branch → List DataArray
arrays_in (FromArray a) = a ∷ []
arrays_in (FromNumber n) = []
arrays_in (FromTruth b) = []
arrays_in FromMissing = []

abbrev pub may_miss : Branch → Bool
may_miss (FromArray a) = a.masked
may_miss (FromNumber n) = false
may_miss (FromTruth b) = false
may_miss FromMissing = true

abbrev pub branch_cell : DType → List Axis → Branch → List ℕ → Option ℤ
branch_cell t axes (FromArray a) p = cell_along t axes (fitted axes None a) p
branch_cell t axes (FromNumber n) p = Some n
branch_cell t axes (FromTruth b) p = Some (truth_number b)
branch_cell t axes FromMissing p = None

abbrev pub choice_cell : DType → List Axis → DataArray → Branch → Branch → List ℕ → Option ℤ
choice_cell t axes c x y p = choose (cell_along kinds.Bool axes (fitted axes None c) p) (branch_cell t axes x p) (branch_cell t axes y p)

-- the result over joined axes, with what it carries of these operands
unfoldable pub chosen : Carry → List DataArray → DType → List Axis → DataArray → Branch → Branch → DataArray
chosen by operands t axes c x y =
    record {
      name = name_rule by operands;
      axes = axes;
      kind = t;
      masked = c.masked || (may_miss x || may_miss y);
      attrs = attr_rule by operands;
      coords = coord_rule operands axes;
      cells = tab (shape_over axes) (choice_cell t axes c x y);
    }

-- kinds; the axes, joined by `exact` in the order of the operands; literals; the limits
unfoldable pub where_over : Carry → List DataArray → DataArray → Branch → Branch → Result DataArray Fault
where_over by operands c x y =
    unless (not (both_missing x y)) WrongKind >>= λ v. chosen_kind x y >>= λ t.
    aligned how.Exact false (map (λ (a : DataArray). a.axes) operands) >>= λ axes. check_branch t x >>= λ w. check_branch t y >>= λ z.
    (let d = chosen by (map (fitted axes None) operands) t axes c x y in check_array d >>= λ r. Ok d)

-- a condition is an array of truth values
unfoldable pub as_condition : Value → Result DataArray Fault
as_condition (of.Array a) = unless (is_truths a.kind) WrongKind >>= λ u. Ok a
as_condition v = wrong

-- the function: in the order of the condition and the two branches
unfoldable pub where_called : Given → Result DataArray Fault
where_called g =
    bound (codes "cond" ∷ codes "x" ∷ codes "y" ∷ []) g >>= λ vs. required (argument vs 0) >>= λ c. required (argument vs 1) >>= λ v. required (argument vs 2) >>= λ w.
    as_condition c >>= λ cond. as_branch v >>= λ x. as_branch w >>= λ y. where_over carry.Binary (cond ∷ arrays_in x ++ arrays_in y) cond x y

-- the method: in the order of the array, the condition and the other; without another it would promote
unfoldable pub where_method : DataArray → Given → Result DataArray Fault
where_method a g =
    bound (codes "cond" ∷ codes "other" ∷ []) g >>= λ vs. required (argument vs 0) >>= λ c. as_condition c >>= λ cond.
    elim (option vs 1) [
      | None ↦ Err WouldPromote
      | Some w ↦ as_branch w >>= λ y. where_over carry.Where (a ∷ cond ∷ arrays_in y) cond (FromArray a) y
    ]

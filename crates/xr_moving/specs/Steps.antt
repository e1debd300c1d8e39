-- The steps that move cells along dimensions.
use Rattle.std.specs.Prelude.{◌++◌, ◌==◌, ℕ, ℤ, suc, Bool, true, false, not, if◌then◌else◌, List, [], ◌∷◌, length, filter, Option, Some, None, is_none, Result, Ok}
use Rattle.xr_types.specs.Results.{◌>>=◌, unless, all_of}
use Rattle.xr_types.specs.declared.axis.Axis.{Axis}
use Rattle.xr_types.specs.declared.fault.Fault.{Fault}
use Rattle.xr_types.specs.declared.fault.Fault.TheVariants.{BadArgument, WrongKind}
use Rattle.xr_defs.specs.Arguments.{check_dimension}
use Rattle.xr_defs.specs.Meanings.{Given, Value}
use Rattle.xr_defs.specs.Selecting.{axis_called}
use Rattle.xr_defs.specs.Values as values
use Rattle.xr_defs.specs.Values.{axis_position}
use Rattle.xr_operations.specs.Moves as of
use Rattle.xr_operations.specs.Moves.{distance}
use Rattle.xr_formulas.specs.declared.chain.Start.TheVariants as starts
use Rattle.xr_formulas.specs.declared.chain.Step.{Step}
use Rattle.xr_formulas.specs.declared.chain.Step.TheVariants.{Take}
use Rattle.xr_formulas.specs.declared.made.Formula.{Formula}
use Rattle.xr_formulas.specs.declared.made.Formula.TheVariants.{One}
use Rattle.xr_moving.specs.declared.moves.Move.{Move}
use Rattle.xr_moving.specs.declared.moves.Move.TheVariants.{Roll, Shift}
use Rattle.xr_moving.specs.declared.moves.Moves.{Moves}

-- ---- one axis

abbrev pub source_by : Move → ℕ → ℤ → ℕ → Option ℕ
source_by Shift n by i = of.shift_source n by i
source_by Roll n by i = of.roll_source n by i

abbrev pub positions_by : Move → ℤ → ℕ → List (Option ℕ)
positions_by Shift = of.shifted
positions_by Roll = of.rolled

-- whether missing cells move in
abbrev pub hides : Move → Option ℤ → Bool
hides Shift fill = is_none fill
hides Roll fill = false

-- ---- axes by their names

abbrev pub step_at : Move → Option ℤ → ℕ → ℕ → Option ℤ → List Step
step_at how fill k n None = []
step_at how fill k n (Some by) = Take k (positions_by how by n) fill false ∷ []

-- along those of these names, the first of which is number k
abbrev pub steps_along : Moves → List Axis → ℕ → List (List ℕ) → List Step
steps_along m axes k [] = []
steps_along m axes k (d ∷ dims) = step_at m.how m.fill k (axis_called axes d).size (distance m.by d) ++ steps_along m axes (suc k) dims

-- the cells of a node over axes of these names
abbrev pub moved_cells : Moves → List Axis → ℕ → List (List ℕ) → Formula
moved_cells m axes n dims = One (record { start = starts.Node n; steps = steps_along m axes 0 dims })

-- ---- what is read one after the other

abbrev pub behind : {A : Type 0} → List A → Result (List A) Fault → Result (List A) Fault
behind out r = r >>= λ xs. Ok (out ++ xs)

-- ---- arguments

-- those that name dimensions
abbrev pub named : Bool → List (List ℕ × Value) → List (List ℕ × Value)
named true kvs = filter (λ kv. not (of.is_fill kv)) kvs
named false kvs = kvs

-- ---- an array

abbrev pub moved_by : Moves → values.DataArray → values.DataArray
moved_by m a = of.array_moved (positions_by m.how) m.fill (hides m.how m.fill) m.by a

-- ---- shift of a dataset

unfoldable pub check_kind : List (List ℕ × ℤ) → Value → values.Variable → Result (Unit {0}) Fault
check_kind bys w v = if of.is_moved bys v.dims then (of.fill_for v.kind w >>= λ fill. Ok tt) else Ok tt

unfoldable pub check_kinds_by : List (List ℕ × ℤ) → Option Value → List values.Variable → Result (Unit {0}) Fault
check_kinds_by bys None vars = Ok tt
check_kinds_by bys (Some w) vars = unless (of.is_literal w) WrongKind >>= λ u. all_of (check_kind bys w) vars

unfoldable pub check_range : List (List ℕ × ℤ) → Value → values.Variable → Result (Unit {0}) Fault
check_range bys w v = if of.is_moved bys v.dims then (of.fill_for v.kind w >>= λ fill. of.check_fill v.kind fill) else Ok tt

-- where each variable that moves can have the fill
abbrev pub shifted_by : List (List ℕ × ℤ) → Value → values.Dataset → Result values.Dataset Fault
shifted_by bys w set = all_of (check_range bys w) set.vars >>= λ u. Ok (of.set_moved of.shifted (of.fill_cell w) (of.is_missing w) bys set)

unfoldable pub typed_shift_set : values.Dataset → Given → Result values.Dataset Fault
typed_shift_set set g =
    unless (length g.plain == 0) BadArgument >>= λ u. of.distances (named true g.keyed) >>= λ bys. check_kinds_by bys (of.fill_given g) set.vars >>= λ v. all_of (check_dimension set.axes) (named true g.keyed) >>= λ w.
    of.needed (of.fill_given g) >>= λ fill. shifted_by bys fill set

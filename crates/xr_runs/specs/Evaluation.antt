-- The value of an expression: its parts from left to right, a receiver before its arguments, and then the call itself;
-- the first fault is the answer.
use Rattle.std.specs.Prelude.{ℕ, true, false, List, Option, Some, None, Result, Ok, Err}
use Rattle.xr_types.specs.declared.fault.Fault.{Fault}
use Rattle.xr_types.specs.declared.fault.Fault.TheVariants.{UnknownName}
use Rattle.xr_syntax.specs.declared.syntax.Constant.{Constant}
use Rattle.xr_syntax.specs.declared.syntax.Constant.TheVariants as constant
use Rattle.xr_types.specs.Results.{◌>>=◌}
use Rattle.xr_defs.specs.Stores.{Files}
use Rattle.xr_syntax.specs.Syntax as tree
use Rattle.xr_syntax.specs.Syntax.{Tree, Trees, Args}
use Rattle.xr_defs.specs.Meanings.{Value, Values, Entries, Absent, Missing, Truth, Number, Text, Sequence, Table, NoValue, With, NoEntry, Entry, Given, no_arguments, and_plain, and_keyed}
use Rattle.xr_operations.specs.Arithmetic.{binary_called, unary_called}
use Rattle.xr_runs.specs.Calls.{function_called, method_called, part_picked}

-- the value that each name stands for
abbrev pub Names : Type 0
Names = List ℕ → Option Value

abbrev pub named : Names → List ℕ → Result Value Fault
named names name = elim (names name) [ None ↦ Err (UnknownName name) | Some v ↦ Ok v ]

abbrev pub constant_value : Constant → Value
constant_value constant.True = Truth true
constant_value constant.False = Truth false
constant_value constant.None = Absent
constant_value constant.Na = Missing

unfoldable mutual
  pub value_of : Names → Files → Tree → Result Value Fault
  value_of names files (tree.Variable name) = named names name
  value_of names files (tree.Whole n) = Ok (Number n)
  value_of names files (tree.Words t) = Ok (Text t)
  value_of names files (tree.Constantly c) = Ok (constant_value c)
  value_of names files (tree.Unary op a) = value_of names files a >>= λ v. unary_called op v
  value_of names files (tree.Binary op a b) = value_of names files a >>= λ v. value_of names files b >>= λ w. binary_called op v w
  value_of names files (tree.Call name gs) = given_of names files gs >>= λ g. function_called files name g
  value_of names files (tree.Method a name gs) = value_of names files a >>= λ v. given_of names files gs >>= λ g. method_called v name g
  value_of names files (tree.Index a t) = value_of names files a >>= λ v. part_picked v t
  value_of names files (tree.Items xs) = values_of names files xs >>= λ vs. Ok (Sequence vs)
  value_of names files (tree.Table es) = entries_of names files es >>= λ vs. Ok (Table vs)

  pub values_of : Names → Files → Trees → Result Values Fault
  values_of names files tree.NoItem = Ok NoValue
  values_of names files (tree.Item xs e) = values_of names files xs >>= λ vs. value_of names files e >>= λ v. Ok (With vs v)

  pub entries_of : Names → Files → tree.Entries → Result Entries Fault
  entries_of names files tree.NoEntry = Ok NoEntry
  entries_of names files (tree.Entry es t e) = entries_of names files es >>= λ vs. value_of names files e >>= λ v. Ok (Entry vs t v)

  pub given_of : Names → Files → Args → Result Given Fault
  given_of names files tree.NoArg = Ok no_arguments
  given_of names files (tree.Plain gs e) = given_of names files gs >>= λ g. value_of names files e >>= λ v. Ok (and_plain g v)
  given_of names files (tree.Keyed gs name e) = given_of names files gs >>= λ g. value_of names files e >>= λ v. Ok (and_keyed g name v)

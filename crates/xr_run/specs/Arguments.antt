-- The lists of an expression from left to right, as the program walks them.
use Rattle.std.specs.Prelude.{ℕ, List, [], ◌∷◌, Option, Some, None, Result, Ok}
use Rattle.xr_types.specs.declared.text.TextBytes.{TextBytes}
use Rattle.xr_types.specs.declared.fault.Fault.{Fault}
use Rattle.xr_types.specs.declared.operation.OpKind.{OpKind}
use Rattle.xr_syntax.specs.declared.syntax.Expr.{Expr}
use Rattle.xr_types.specs.Results.{◌>>=◌}
use Rattle.xr_defs.specs.Stores.{Files}
use Rattle.xr_syntax.specs.Syntax.{tree_of}
use Rattle.xr_relations.specs.Aligning.{value_assigned}
use Rattle.xr_defs.specs.Meanings.{Value, Values, Entries, With, Entry, Given}
use Rattle.xr_operations.specs.Arithmetic.{binary_called}
use Rattle.xr_runs.specs.Evaluation.{named, value_of, Names}
use Rattle.xr_defs.specs.Meanings.{and_plain, and_keyed}

-- an argument more, by its keyword where it has one
abbrev pub and_argument : Given → Option TextBytes → Value → Given
and_argument g None v = and_plain g v
and_argument g (Some name) v = and_keyed g name v

unfoldable pub given_rest : Names → Files → Given → List (Option TextBytes × Expr) → Result Given Fault
given_rest names files g [] = Ok g
given_rest names files g (a ∷ rest) = value_of names files (tree_of a.1) >>= λ v. given_rest names files (and_argument g a.0 v) rest

unfoldable pub values_rest : Names → Files → Values → List Expr → Result Values Fault
values_rest names files vs [] = Ok vs
values_rest names files vs (e ∷ es) = value_of names files (tree_of e) >>= λ v. values_rest names files (With vs v) es

unfoldable pub entries_rest : Names → Files → Entries → List (TextBytes × Expr) → Result Entries Fault
entries_rest names files vs [] = Ok vs
entries_rest names files vs (e ∷ es) = value_of names files (tree_of e.1) >>= λ v. entries_rest names files (Entry vs e.0 v) es

-- an operator behind a value, once its right operand is told
abbrev pub with_right : OpKind → Value → Result Value Fault → Result Value Fault
with_right op v told = told >>= λ w. binary_called op v w

-- a value put as a variable into the dataset that a name stands for
abbrev pub placed_of : Names → List ℕ → List ℕ → Value → Result Value Fault
placed_of names name variable v = named names name >>= λ w. value_assigned w variable v

-- Lists of numbers, read one after the other.
use Rattle.std.proofs.Common.{◌≡◌, ◌<◌, ◌+◌, ℕ, ℤ, List, [], ◌∷◌, ◌++◌, length, take, get_or, Ok, Err, refl}
use Rattle.xr_types.specs.declared.fault.Fault.{Fault}
use Rattle.xr_arrays.specs.declared.node.Node.{Node}
use Rattle.xr_types.specs.Results.{◌>>=◌}
use Rattle.xr_defs.specs.Meanings as of
use Rattle.xr_defs.specs.Meanings.{Values, With}
use Rattle.xr_defs.specs.Selecting.{as_number, as_numbers}
use Rattle.xr_values.specs.declared.value.Value.{Value}
use Rattle.xr_values.specs.Meaning.{meaning, all_values}
use Rattle.xr_arguments.proofs.Listed.{read_on, read_err}

numbers_more : (vs : Values) (v : of.Value) → as_numbers (With vs v) ≡ (as_numbers vs >>= λ ns. as_number v >>= λ n. Ok (ns ++ n ∷ []))
unfolding as_numbers
numbers_more vs v = refl

pub number_on : (nodes : List Node) (vs : List Value) (i : ℕ) (v : Value) (out new : List ℤ) (n : ℤ) → i < length vs → v ≡ get_or vs i v → as_numbers (all_values nodes (take i vs)) ≡ Ok out → as_number (meaning nodes v) ≡ Ok n → new ≡ out ++ n ∷ []
    → as_numbers (all_values nodes (take (i + 1) vs)) ≡ Ok new
number_on = read_on as_numbers as_number numbers_more

pub number_err : (nodes : List Node) (vs : List Value) (i : ℕ) (v : Value) (out : List ℤ) (e : Fault) → i < length vs → v ≡ get_or vs i v → as_numbers (all_values nodes (take i vs)) ≡ Ok out → as_number (meaning nodes v) ≡ Err e → as_numbers (all_values nodes vs) ≡ Err e
number_err = read_err as_numbers as_number numbers_more

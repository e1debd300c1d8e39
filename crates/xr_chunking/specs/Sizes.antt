-- What is read one after the other.
use Rattle.std.specs.Prelude.{List, ◌++◌, Result, Ok}
use Rattle.xr_types.specs.Results.{◌>>=◌}
use Rattle.xr_types.specs.declared.fault.Fault.{Fault}

abbrev pub behind : {A : Type 0} → List A → Result (List A) Fault → Result (List A) Fault
behind out r = r >>= λ xs. Ok (out ++ xs)

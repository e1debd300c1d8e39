-- What each of a list gives, behind what stands.
use Rattle.std.specs.Prelude.{◌++◌, List, Result, Ok}
use Rattle.xr_types.specs.Results.{◌>>=◌}
use Rattle.xr_types.specs.declared.fault.Fault.{Fault}

abbrev pub behind : {B : Type 0} → List B → Result (List B) Fault → Result (List B) Fault
behind old r = r >>= λ more. Ok (old ++ more)

-- The call of open_dataset, by its parts.
use Rattle.std.specs.Prelude.{Result, Ok}
use Rattle.xr_types.specs.declared.fault.Fault.{Fault}
use Rattle.xr_types.specs.Results.{◌>>=◌}
use Rattle.xr_defs.specs.Stores.{Files}
use Rattle.xr_defs.specs.Values.{Dataset}
use Rattle.xr_runs.specs.Calls.{open_asked, opened_set}
use Rattle.xr_defs.specs.Meanings.{Value, Set, Given}

-- a dataset as a value
abbrev pub set_value : Result Dataset Fault → Result Value Fault
set_value set = set >>= λ s. Ok (Set s)

abbrev pub open_call : Files → Given → Result Value Fault
open_call files g = open_asked g >>= λ w. set_value (opened_set files w.0 w.1)

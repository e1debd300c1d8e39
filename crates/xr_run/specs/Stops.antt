-- Why a statement stops, where a call of it has no value.
use Rattle.xr_types.specs.declared.fault.CallFault.{CallFault}
use Rattle.xr_types.specs.declared.fault.CallFault.TheVariants as calls
use Rattle.xr_run.specs.declared.stopped.Stopped.{Stopped}
use Rattle.xr_run.specs.declared.stopped.Stopped.TheVariants.{Refused, NoMemory}

abbrev pub stopped_by : CallFault → Stopped
stopped_by (calls.Refused f) = Refused f
stopped_by (calls.Declined n) = NoMemory
stopped_by calls.NoMemory = NoMemory

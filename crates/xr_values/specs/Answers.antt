-- What the calls over a plan answer: the value that a definition gives, or its first fault, unless memory runs out.
use Rattle.std.specs.Prelude.{◌≡◌, List, Result, Ok, Err, ⊤}
use Rattle.xr_types.specs.declared.fault.Fault.{Fault}
use Rattle.xr_types.specs.declared.fault.CallFault.{CallFault}
use Rattle.xr_types.specs.declared.fault.CallFault.TheVariants.{Refused, Declined, NoMemory}
use Rattle.xr_arrays.specs.declared.node.Node.{Node}
use Rattle.xr_defs.specs.Values as of
use Rattle.xr_values.specs.declared.data_array.DataArray.{DataArray}
use Rattle.xr_values.specs.declared.dataset.Dataset.{Dataset}
use Rattle.xr_values.specs.Stands.{array_in, dataset_in, IsArrayIn, IsDatasetIn}

-- a call that computes no node declines none
abbrev pub Fails : {Y : Type 0} → CallFault → Result Y Fault → Type 0
Fails (Refused f) means = means ≡ Err f
Fails (Declined n) means = ⊥
Fails NoMemory means = ⊤

-- a call that answers an array of the plan as it is after the call
abbrev pub AnswersArray : List Node → Result DataArray CallFault → Result of.DataArray Fault → Type 0
AnswersArray nodes (Ok a) means = (means ≡ Ok (array_in nodes a)) × IsArrayIn nodes a
AnswersArray nodes (Err e) means = Fails e means

abbrev pub AnswersSet : List Node → Result Dataset CallFault → Result of.Dataset Fault → Type 0
AnswersSet nodes (Ok s) means = (means ≡ Ok (dataset_in nodes s)) × IsDatasetIn nodes s
AnswersSet nodes (Err e) means = Fails e means

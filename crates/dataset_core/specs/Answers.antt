-- What the calls of scripts answer.
use Rattle.std.specs.Prelude.{◌≡◌, ℕ, Bool, true, List, Result, Ok, Err}
use Rattle.std.specs.declared.alloc.Global.{Global}
use Rattle.std.specs.declared.rc.Rc.{Rc}
use Rattle.xr_types.specs.declared.fault.Fault.{Fault}
use Rattle.xr_types.specs.declared.fault.CallFault.{CallFault}
use Rattle.xr_arrays.specs.declared.node.Node.{Node}
use Rattle.xr_types.specs.Results.{◌>>=◌}
use Rattle.xr_files.specs.Files.{is_version}
use Rattle.xr_defs.specs.Meanings as of
use Rattle.xr_defs.specs.Values as sets
use Rattle.xr_types.specs.Results.{◌>>=◌}
use Rattle.xr_runs.specs.Calls.{Asked}
use Rattle.xr_values.specs.declared.dataset.Dataset.{Dataset}
use Rattle.xr_values.specs.declared.value.Value.{Value}
use Rattle.xr_values.specs.Meaning.{meaning, IsValueIn}
use Rattle.xr_values.specs.Stands.{dataset_in, IsDatasetIn}
use Rattle.xr_values.specs.Answers.{Fails}
use Rattle.dataset_core.specs.declared.write.WriteRequest.{WriteRequest}
use Rattle.dataset_core.specs.declared.open.OpenRequest.{OpenRequest}

-- an array and a dataset that a definition gives, as values
abbrev pub array_told : Result sets.DataArray Fault → Result of.Value Fault
array_told r = r >>= λ a. Ok (of.Array a)

abbrev pub set_told : Result sets.Dataset Fault → Result of.Value Fault
set_told r = r >>= λ s. Ok (of.Set s)

-- a call that answers a value of the plan as it is after the call
abbrev pub AnswersValue : List Node → Result Value CallFault → Result of.Value Fault → Type 0
AnswersValue nodes (Ok v) means = (means ≡ Ok (meaning nodes v)) × IsValueIn nodes v
AnswersValue nodes (Err e) means = Fails e means

-- a call that has no value
abbrev pub RefusesValue : CallFault → Result of.Value Fault → Type 0
RefusesValue e means = Fails e means

-- a dataset that is shared
abbrev pub AnswersShared : List Node → Result (Rc Dataset Global) CallFault → Result sets.Dataset Fault → Type 0
AnswersShared nodes (Ok s) means = (means ≡ Ok (dataset_in nodes s.value)) × IsDatasetIn nodes s.value
AnswersShared nodes (Err e) means = Fails e means

-- the name of the file, how it is written, and the dataset of the plan
abbrev pub asked_in : List Node → WriteRequest → Asked
asked_in nodes w = record { name = w.name; options = w.options; set = dataset_in nodes w.set.value }

-- the version is one of the format's
abbrev pub AnswersRequest : List Node → Result WriteRequest CallFault → Result Asked Fault → Type 0
AnswersRequest nodes (Ok w) means = (means ≡ Ok (asked_in nodes w)) × IsDatasetIn nodes w.set.value × (is_version w.options.version ≡ true)
AnswersRequest nodes (Err e) means = Fails e means

abbrev pub AnswersOpening : Result OpenRequest CallFault → Result (List ℕ × Bool) Fault → Type 0
AnswersOpening (Ok o) means = means ≡ Ok (o.name, o.mask)
AnswersOpening (Err e) means = Fails e means

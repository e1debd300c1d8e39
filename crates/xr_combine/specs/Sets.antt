-- Datasets that are shared, as a plan has them.
use Rattle.std.specs.Prelude.{◌≡◌, List, map, Option, Result, Ok, Err, option_map}
use Rattle.std.specs.Borrow.{Bor}
use Rattle.std.specs.List.{AllByRecursion}
use Rattle.std.specs.declared.alloc.Global.{Global}
use Rattle.std.specs.declared.rc.Rc.{Rc}
use Rattle.xr_types.specs.declared.fault.CallFault.{CallFault}
use Rattle.xr_types.specs.declared.fault.Fault.{Fault}
use Rattle.xr_arrays.specs.declared.node.Node.{Node}
use Rattle.xr_defs.specs.Values as of
use Rattle.xr_values.specs.Answers.{Fails}
use Rattle.xr_values.specs.Meaning.{meaning}
use Rattle.xr_values.specs.Stands.{dataset_in, IsDatasetIn}
use Rattle.xr_values.specs.declared.dataset.Dataset.{Dataset}
use Rattle.xr_values.specs.declared.value.Value.{Value}

abbrev pub held : List (Rc Dataset Global) → List Dataset
held ss = map (λ (s : Rc Dataset Global). s.value) ss

abbrev pub sets_in : List Node → List (Rc Dataset Global) → List of.Dataset
sets_in nodes ss = map (dataset_in nodes) (held ss)

abbrev pub AreSetsIn : List Node → List (Rc Dataset Global) → Type 0
AreSetsIn nodes ss = AllByRecursion (IsDatasetIn nodes) (held ss)

-- a value, if there is one, that means the same in every plan
pub record IsFixed (v : Option (Bor Value)) : Type 0 where
  pub means : (nodes others : List Node) → option_map (λ (w : Bor Value). meaning nodes w.now) v ≡ option_map (λ (w : Bor Value). meaning others w.now) v

-- ---- what a call answers: datasets of the plan as it is after the call

abbrev pub AnswersShared : List Node → Result (Rc Dataset Global) CallFault → Result of.Dataset Fault → Type 0
AnswersShared nodes (Ok s) means = (means ≡ Ok (dataset_in nodes s.value)) × IsDatasetIn nodes s.value
AnswersShared nodes (Err e) means = Fails e means

abbrev pub AnswersSeveral : List Node → Result (List (Rc Dataset Global)) CallFault → Result (List of.Dataset) Fault → Type 0
AnswersSeveral nodes (Ok ss) means = (means ≡ Ok (sets_in nodes ss)) × AreSetsIn nodes ss
AnswersSeveral nodes (Err e) means = Fails e means

-- a call that puts some behind others
abbrev pub AnswersBehind : List Node → Result (Unit {0}) CallFault → List (Rc Dataset Global) → Result (List of.Dataset) Fault → Type 0
AnswersBehind nodes (Ok u) ss means = (means ≡ Ok (sets_in nodes ss)) × AreSetsIn nodes ss
AnswersBehind nodes (Err e) ss means = Fails e means

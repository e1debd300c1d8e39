-- From what a call makes to a value of the plan.
use Rattle.std.proofs.Common.{◌∙◌, List, [], ◌∷◌, ◌++◌, Result, Ok, Err, ap, sym}
use Rattle.std.specs.Prelude.{IfOk}
use Rattle.xr_types.specs.declared.fault.Fault.{Fault}
use Rattle.xr_types.specs.declared.fault.CallFault.{CallFault}
use Rattle.xr_types.specs.declared.fault.CallFault.TheVariants.{Refused, Declined, NoMemory}
use Rattle.xr_arrays.specs.declared.node.Node.{Node}
use Rattle.xr_arrays.specs.Added.{AddsAtMost}
use Rattle.xr_defs.specs.Meanings as of
use Rattle.xr_defs.specs.Room.{portions, room, Portion}
use Rattle.xr_defs.specs.Values as arrays
use Rattle.xr_values.specs.Answers.{Fails}
use Rattle.xr_values.specs.Meaning.{meaning, IsValueIn}
use Rattle.xr_values.specs.declared.value.Value.{Value}
use Rattle.xr_formulas.specs.declared.made.Made.{Made}
use Rattle.xr_formulas.specs.Called.{AddsBeside, StandsFor}
use Rattle.xr_formulas.specs.Mades.{made_in, AnswersMade, IsMade}
use Rattle.dataset_core.specs.Answers.{AnswersValue, array_told}

-- a plan takes what is made of it
pub takes_made : (nodes : List Node) (r : Result Made CallFault) (means : Result arrays.DataArray Fault) → AnswersMade nodes r means → IfOk r (IsMade nodes)
takes_made nodes (Ok m) means h = h.1
takes_made nodes (Err e) means h = tt

pub fault_told : (e : CallFault) (means : Result arrays.DataArray Fault) → Fails e means → Fails e (array_told means)
fault_told (Refused f) means h = ap array_told h
fault_told (Declined n) means h = absurd h
fault_told NoMemory means h = tt

-- the value that stands for it answers the call
pub value_told : (old new : List Node) (m : Made) (v : Value) (means : Result arrays.DataArray Fault) → AnswersMade old (Ok m) means → StandsFor new (of.Array (made_in old m)) v → AnswersValue new (Ok v) (array_told means)
value_told old new m v means h stands = (ap array_told h.0 ∙ ap Ok (sym stands.is), stands.inside)

-- what it adds leaves room beside any operands
pub beside_room : (old new : List Node) (ps : List Portion) (r : Result Value CallFault) → IfOk r (λ v. AddsBeside old new (meaning new v)) → IfOk r (λ v. AddsAtMost old new (room (ps ++ portions (meaning new v))))
beside_room old new ps (Ok v) h = h ps
beside_room old new ps (Err e) h = tt

pub beside_one : (old new : List Node) (r : Result Value CallFault) → IfOk r (λ v. AddsBeside old new (meaning new v)) → IfOk r (λ v. (p : Portion) → AddsAtMost old new (room (p ∷ portions (meaning new v))))
beside_one old new (Ok v) h = λ p. h (p ∷ [])
beside_one old new (Err e) h = tt

-- a value that answers a call is of the plan
pub inside_answer : (nodes : List Node) (r : Result Value CallFault) (means : Result of.Value Fault) → AnswersValue nodes r means → IfOk r (IsValueIn nodes)
inside_answer nodes (Ok v) means is = is.1
inside_answer nodes (Err e) means is = tt

-- A fault of a step is that of the call.
use Rattle.std.proofs.Common.{◌≡◌, List, Result, Err, sym, ap, subst}
use Rattle.xr_types.specs.Results.{◌>>=◌, Answers}
use Rattle.xr_types.specs.declared.fault.CallFault.{CallFault}
use Rattle.xr_types.specs.declared.fault.CallFault.TheVariants.{Refused, Declined, NoMemory}
use Rattle.xr_types.specs.declared.fault.Fault.{Fault}
use Rattle.xr_arrays.specs.declared.node.Node.{Node}
use Rattle.xr_defs.specs.Meanings as meant
use Rattle.xr_defs.specs.Values as of
use Rattle.xr_joint.specs.Joint.{AnswersOne}
use Rattle.xr_values.specs.Answers.{AnswersSet, Fails}
use Rattle.xr_values.specs.declared.dataset.Dataset.{Dataset}
use Rattle.xr_values.specs.declared.value.Value.{Value}

pub fails_of : {A B : Type 0} (view : A → B) (e : CallFault) (step : Result B Fault) → Answers view (Err e) step → Fails e step
fails_of view (Refused f) step told = told
fails_of view (Declined n) step told = told
fails_of view NoMemory step told = tt

pub fails_on : {B D : Type 0} (e : CallFault) (step : Result B Fault) (k : B → Result D Fault) → Fails e step → Fails e (step >>= k)
fails_on (Refused f) step k told = ap (λ r. r >>= k) told
fails_on (Declined n) step k told = told
fails_on NoMemory step k told = tt

fails_told : {C D : Type 0} (view : C → D) (e : CallFault) (means : Result D Fault) → Fails e means → Answers view (Err e) means
fails_told view (Refused f) means told = told
fails_told view (Declined n) means told = told
fails_told view NoMemory means told = tt

-- of a step that is what is left of the call
pub answer_fails : {A B C D : Type 0} (seen : C → D) (view : A → B) (r : Result C CallFault) (e : CallFault) (step : Result B Fault) (k : B → Result D Fault) (means : Result D Fault) → r ≡ Err e → means ≡ (step >>= k) → Answers view (Err e) step → Answers seen r means
answer_fails {A} {B} {C} {D} seen view r e step k means fails is told =
    subst (λ (x : Result C CallFault). Answers seen x means) (sym fails) (fails_told seen e means (subst (Fails e) (sym is) (fails_on e step k (fails_of view e step told))))

pub set_fails : {A B : Type 0} (nodes : List Node) (view : A → B) (r : Result Dataset CallFault) (e : CallFault) (step : Result B Fault) (k : B → Result of.Dataset Fault) (means : Result of.Dataset Fault) → r ≡ Err e → means ≡ (step >>= k) → Answers view (Err e) step
    → AnswersSet nodes r means
set_fails nodes view r e step k means fails is told =
    subst (λ (x : Result Dataset CallFault). AnswersSet nodes x means) (sym fails) (subst (Fails e) (sym is) (fails_on e step k (fails_of view e step told)))

pub step_fails : {B : Type 0} (nodes : List Node) (r : Result Value CallFault) (e : CallFault) (step : Result B Fault) (k : B → Result meant.Value Fault) (means : Result meant.Value Fault) → r ≡ Err e → means ≡ (step >>= k) → Fails e step → AnswersOne nodes r means
step_fails nodes r e step k means fails is told = subst (λ (x : Result Value CallFault). AnswersOne nodes x means) (sym fails) (subst (Fails e) (sym is) (fails_on e step k told))

pub one_fails : {A B : Type 0} (nodes : List Node) (view : A → B) (r : Result Value CallFault) (e : CallFault) (step : Result B Fault) (k : B → Result meant.Value Fault) (means : Result meant.Value Fault) → r ≡ Err e → means ≡ (step >>= k) → Answers view (Err e) step
    → AnswersOne nodes r means
one_fails nodes view r e step k means fails is told = step_fails nodes r e step k means fails is (fails_of view e step told)

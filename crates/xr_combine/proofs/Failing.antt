-- A fault of a step, as what a call answers.
use Rattle.std.proofs.Common.{◌≡◌, List, Result, Err, sym, subst}
use Rattle.std.specs.declared.alloc.Global.{Global}
use Rattle.std.specs.declared.rc.Rc.{Rc}
use Rattle.xr_types.specs.declared.fault.CallFault.{CallFault}
use Rattle.xr_types.specs.declared.fault.Fault.{Fault}
use Rattle.xr_arrays.specs.declared.node.Node.{Node}
use Rattle.xr_defs.specs.Values as of
use Rattle.xr_values.specs.Answers.{Fails}
use Rattle.xr_values.specs.declared.dataset.Dataset.{Dataset}
use Rattle.xr_combine.specs.Sets.{AnswersBehind, AnswersSeveral, AnswersShared}

pub shared_fails : (nodes : List Node) (r : Result (Rc Dataset Global) CallFault) (e : CallFault) (means : Result of.Dataset Fault) → r ≡ Err e → Fails e means → AnswersShared nodes r means
shared_fails nodes r e means is fails = subst (λ (x : Result (Rc Dataset Global) CallFault). AnswersShared nodes x means) (sym is) fails

pub several_fail : (nodes : List Node) (r : Result (List (Rc Dataset Global)) CallFault) (e : CallFault) (means : Result (List of.Dataset) Fault) → r ≡ Err e → Fails e means → AnswersSeveral nodes r means
several_fail nodes r e means is fails = subst (λ (x : Result (List (Rc Dataset Global)) CallFault). AnswersSeveral nodes x means) (sym is) fails

pub behind_fails : (nodes : List Node) (r : Result (Unit {0}) CallFault) (e : CallFault) (ss : List (Rc Dataset Global)) (means : Result (List of.Dataset) Fault) → r ≡ Err e → Fails e means → AnswersBehind nodes r ss means
behind_fails nodes r e ss means is fails = subst (λ (x : Result (Unit {0}) CallFault). AnswersBehind nodes x ss means) (sym is) fails

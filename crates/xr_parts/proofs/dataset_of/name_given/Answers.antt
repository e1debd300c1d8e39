use Rattle.xr_parts.proofs.Common.{Answers, Bor, TextBytes, array_in, subst, sym}
use Rattle.xr_parts.proofs.Naming.{name_absent}
use Rattle.xr_parts.proofs.dataset_of.name_given.Goals as goal

pub returns-in-Absent-clause-answers : goal.returns-in-Absent-clause-answers
returns-in-Absent-clause-answers c = λ nodes.
    subst (Answers (λ (t : Bor TextBytes). t.now) c.own_name.result) (sym (name_absent nodes (array_in nodes c.args.on.now) c.args.value.now c.in-Absent.is)) (c.own_name.ensures.answers nodes)

use Rattle.xr_parts.proofs.Common.{Answers, Bor, TextBytes, array_in, given, subst, sym}
use Rattle.xr_parts.proofs.Naming.{bare_name}
use Rattle.xr_parts.proofs.dataset_of.set_name.Goals as goal

pub returns-then-is_bare-clause-answers : goal.returns-then-is_bare-clause-answers
returns-then-is_bare-clause-answers c = λ nodes.
    subst (Answers (λ (t : Bor TextBytes). t.now) c.own_name.result) (sym (bare_name (array_in nodes c.args.on.now) (given nodes c.args.args.now) (sym (c.if-is_bare.ensures nodes)))) (c.own_name.ensures.answers nodes)

use Rattle.std.proofs.Common.{sym, subst, ap, [], length, List, ℕ}
use Rattle.xr_arrays.specs.Nodes.{AllFit, IsNode, values, Pushes}
use Rattle.xr_arrays.specs.declared.node.Node.{Node}
use Rattle.plan_core.proofs.Plans.{all_fit, pushed}
use Rattle.plan_core.proofs.plan.Plan.push.Goals as goal

pub invariant_of-self-2 : goal.invariant_of-self-2
invariant_of-self-2 c =
    subst (λ (ns : List Node). AllFit [] ns) (sym c.in_ok-push.ensures.ok) (all_fit c.self.inside.nodes c.args.node c.self.invariant (subst (λ (ns : List Node). IsNode (values ns) c.args.node) (sym c.self.view_is) c.requires))

pub returns-clause-ok : goal.returns-clause-ok
returns-clause-ok c =
    subst (λ (ns : List Node). Pushes ns c.push.new.self c.args.node (length c.as_slice.result.now)) c.self.view_is
    (subst (λ (k : ℕ). Pushes c.self.inside.nodes c.push.new.self c.args.node k) (ap length (sym c.as_slice.ensures)) (pushed c.self.inside.nodes c.push.new.self c.args.node c.in_ok-push.ensures.ok))

use Rattle.xr_values.proofs.Common.{AreNamed, ap, in_order, subst, sym, with_variable, ◌∙◌}
use Rattle.xr_values.proofs.Named.{puts, stay_named}
use Rattle.xr_values.proofs.variables.Variables.put.Goals as goal

pub invariant_of-self : goal.invariant_of-self
invariant_of-self c =
    subst AreNamed (sym c.in-Ok.ensures.entries) (stay_named c.self.inside.by_name.entries c.in_ok-key.key c.args.variable (c.in_ok-key.ensures.ok ∙ c.as_str.ensures) c.self.invariant)

pub returns-in-Ok-clause-ok : goal.returns-in-Ok-clause-ok
returns-in-Ok-clause-ok c =
    ap in_order c.in-Ok.ensures.entries
    ∙ puts c.self.inside.by_name.entries c.in_ok-key.key c.args.variable (c.in_ok-key.ensures.ok ∙ c.as_str.ensures) c.self.invariant.each
    ∙ ap (λ vs. with_variable vs c.args.variable) c.self.view_is

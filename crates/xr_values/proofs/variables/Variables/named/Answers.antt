use Rattle.xr_values.proofs.Common.{Variable as Var, ap, bytes_eq, find, ◌∙◌}
use Rattle.xr_values.proofs.Named.{finds}
use Rattle.xr_values.proofs.variables.Variables.named.Goals as goal

pub returns : goal.returns
returns c = rw (← c.as_str.ensures) (c.get.ensures.value ∙ finds c.self.inside.by_name.entries c.as_str.result.now c.self.invariant.each ∙ ap (find (λ (v : Var). bytes_eq v.name c.as_str.result.now)) c.self.view_is)

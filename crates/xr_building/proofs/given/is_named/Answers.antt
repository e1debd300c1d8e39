use Rattle.xr_building.proofs.Common.{IsUtf8, ap, length, not, subst, ◌==◌, ◌∙◌}
use Rattle.xr_building.proofs.Names.{named}
use Rattle.xr_building.proofs.given.is_named.Goals as goal

pub returns-clause-name : goal.returns-clause-name
returns-clause-name c = ap not (c.is_empty.ensures ∙ ap (λ t. length t == 0) c.as_str.ensures) ∙ named c.args.text.now (subst (λ t. IsUtf8 t) c.as_str.ensures c.as_str.utf8)

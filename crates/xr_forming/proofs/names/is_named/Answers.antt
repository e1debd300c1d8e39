use Rattle.std.proofs.Common.{ap, not, subst, length, ◌==◌, ◌∙◌}
use Rattle.std.specs.Str.{IsUtf8}
use Rattle.xr_building.proofs.Names.{named}
use Rattle.xr_forming.proofs.names.is_named.Goals as goal

pub returns : goal.returns
returns c = ap not (c.is_empty.ensures ∙ ap (λ t. length t == 0) c.as_str.ensures) ∙ named c.args.text.now (subst (λ t. IsUtf8 t) c.as_str.ensures c.as_str.utf8)

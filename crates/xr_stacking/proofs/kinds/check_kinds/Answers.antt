use Rattle.std.proofs.Common.{◌∙◌, Bor, List, map, rules, ap}
use Rattle.xr_stacking.proofs.Alike.{like}
use Rattle.xr_values.specs.declared.variable.Variable.{Variable}
use Rattle.xr_stacking.proofs.kinds.check_kinds.Goals as goal

abbrev those : List (Bor Variable) → List Variable
those vars = map (λ (v : Bor Variable). v.now) vars

pub returns : goal.returns
returns c = λ nodes.
    like nodes c.args.name.now c.args.sets.now (those c.as_slice-vars.result.now) c.in_ok-kind_of_all.field-0 (ap those c.as_slice-vars.ensures ∙ c.in_ok-vars.ensures) (search rules) c.in_ok-kind_of_all.ensures

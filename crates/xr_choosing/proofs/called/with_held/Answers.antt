use Rattle.std.proofs.Common.{Bor, Option, option_map, sym, ap, subst, ◌∙◌}
use Rattle.std.specs.Prelude.{codes}
use Rattle.xr_defs.specs.Building.{given_value}
use Rattle.xr_defs.specs.Meanings as of
use Rattle.xr_values.specs.declared.value.Value.{Value}
use Rattle.xr_values.specs.Meaning.{meaning}
use Rattle.xr_values.specs.Stands.{array_in}
use Rattle.xr_formulas.specs.Mades.{AnswersMade}
use Rattle.xr_choosing.specs.Called.{with_other}
use Rattle.xr_choosing.proofs.Inside.{held_inside}
use Rattle.xr_choosing.proofs.called.with_held.Goals as goal

pub returns-in-Some : goal.returns-in-Some
returns-in-Some c = λ nodes own is inside.
    subst (λ (o : Option of.Value). AnswersMade nodes c.with_given.result (with_other (array_in nodes c.args.on.now) (array_in nodes c.args.cond.now) (given_value o)))
    (ap (option_map (meaning nodes)) (sym (ap (option_map (λ (v : Bor Value). v.now)) c.in-Some.is) ∙ c.held.ensures))
    (c.with_given.ensures nodes own is (held_inside nodes 1 (codes "other") c.args.args.now c.held.result c.in-Some.other c.held.ensures c.in-Some.is inside))

use Rattle.std.proofs.Common.{map, subst, sym}
use Rattle.xr_types.specs.Results.{Answers}
use Rattle.xr_values.specs.Meaning.{meaning}
use Rattle.xr_values.specs.Stands.{variable_in}
use Rattle.xr_moving.proofs.ShiftedSets.{literal_kinds}
use Rattle.xr_moving.proofs.set_shifts.check_kinds.Goals as goal

pub returns-in_ok-check_literal-in-Some : goal.returns-in_ok-check_literal-in-Some
returns-in_ok-check_literal-in-Some c nodes others =
    rw (c.in-Some.is) (subst (Answers (λ u. u) c.check_each_kind.result) (sym (literal_kinds c.args.bys.now (meaning others c.in-Some.value.now) (map (variable_in nodes) c.args.vars.now) (c.in_ok-check_literal-in-Some.ensures others))) (c.check_each_kind.ensures nodes others))

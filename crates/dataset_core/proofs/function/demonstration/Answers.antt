use Rattle.std.proofs.Common.{◌∷◌, Ok, ap, sym, subst, ◌∙◌}
use Rattle.xr_arrays.specs.Added.{AddsAtMost}
use Rattle.xr_defs.specs.Room.{portions, room}
use Rattle.dataset_core.specs.Answers.{set_told}
use Rattle.dataset_core.proofs.function.demonstration.Goals as goal

pub returns-clause-answers : goal.returns-clause-answers
returns-clause-answers c =
    let new = c.demo.new.plan in
    let told = c.in_ok-set.ensures.answers c.args.plan.now in
    (ap set_told told.0 ∙ ap Ok (sym (c.in_ok-set_value.ensures.means new)), c.in_ok-set_value.ensures.inside new told.1)

pub returns-clause-room : goal.returns-clause-room
returns-clause-room c p =
    let new = c.demo.new.plan in
    subst (λ ps. AddsAtMost c.args.plan.now new (room (p ∷ ps))) (sym (ap portions (c.in_ok-set_value.ensures.means new))) (c.in_ok-set.ensures.room p)

use Rattle.xr_arguments.proofs.Inside.{held_set}
use Rattle.dataset_core.proofs.Shared.{both_set}
use Rattle.dataset_core.proofs.cells.reduction.Goals as goal

pub reduced_set-requires : goal.reduced_set-requires
reduced_set-requires c = held_set c.args.plan.now c.args.on.now c.in-Set.set c.deref-in-Set.result.now c.in-Set.is c.deref-in-Set.ensures c.requires

pub returns-in_ok-set_value-in-Set-clause-answers : goal.returns-in_ok-set_value-in-Set-clause-answers
returns-in_ok-set_value-in-Set-clause-answers c =
    let new = c.reduced_set.new.plan in
    let r = c.in_ok-set_value-in-Set.field-0 in
    let told = c.in_ok-answer-in-Set.ensures.answers c.args.plan.now in
    (both_set c.args.plan.now new c.args.on.now r c.in-Set.set c.deref-in-Set.result.now c.in-Set.is c.deref-in-Set.ensures _ _ c.in_ok-answer-in-Set.answer told.0 (c.in_ok-set_value-in-Set.ensures.means new), c.in_ok-set_value-in-Set.ensures.inside new told.1)

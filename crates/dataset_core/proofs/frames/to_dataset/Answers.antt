use Rattle.std.proofs.Common.{Ok, ap, sym, ◌∙◌}
use Rattle.xr_arguments.proofs.Inside.{held_array}
use Rattle.dataset_core.specs.Answers.{set_told}
use Rattle.dataset_core.proofs.Shared.{on_array}
use Rattle.dataset_core.proofs.frames.to_dataset.Goals as goal

pub returns-in_ok-set_value-in-Array-clause-answers : goal.returns-in_ok-set_value-in-Array-clause-answers
returns-in_ok-set_value-in-Array-clause-answers c =
    let new = c.args.plan.now in
    let r = c.in_ok-set_value-in-Array.field-0 in
    let told = c.in_ok-answer-in-Array.ensures c.args.plan.now (held_array c.args.plan.now c.args.on.now c.in-Array.array c.deref.result.now c.in-Array.is c.deref.ensures c.requires) in
    (on_array c.args.plan.now new c.args.on.now r c.in-Array.array c.deref.result.now c.in-Array.is c.deref.ensures _ (ap set_told told.0 ∙ ap Ok (sym (c.in_ok-set_value-in-Array.ensures.means new))), c.in_ok-set_value-in-Array.ensures.inside new told.1)

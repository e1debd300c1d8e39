use Rattle.std.proofs.Common.{Ok, ap, sym, ◌∙◌}
use Rattle.xr_arguments.proofs.Inside.{held_array}
use Rattle.dataset_core.specs.Answers.{array_told}
use Rattle.dataset_core.proofs.Shared.{on_array}
use Rattle.xr_defs.specs.Room.{portions}
use Rattle.dataset_core.proofs.Rooms.{room_on_array}
use Rattle.dataset_core.proofs.frames.transpose.Goals as goal

pub transposed-requires : goal.transposed-requires
transposed-requires c = held_array c.args.plan.now c.args.on.now c.in-Array.array c.deref.result.now c.in-Array.is c.deref.ensures c.requires

pub returns-in_ok-array_value-in-Array-clause-answers : goal.returns-in_ok-array_value-in-Array-clause-answers
returns-in_ok-array_value-in-Array-clause-answers c =
    let new = c.transposed.new.plan in
    let r = c.in_ok-array_value-in-Array.field-0 in
    let told = c.in_ok-answer-in-Array.ensures.answers c.args.plan.now in
    (on_array c.args.plan.now new c.args.on.now r c.in-Array.array c.deref.result.now c.in-Array.is c.deref.ensures _ (ap array_told told.0 ∙ ap Ok (sym (c.in_ok-array_value-in-Array.ensures.means new))), c.in_ok-array_value-in-Array.ensures.inside new told.1)

pub returns-in_ok-array_value-in-Array-clause-room : goal.returns-in_ok-array_value-in-Array-clause-room
returns-in_ok-array_value-in-Array-clause-room c =
    let new = c.transposed.new.plan in
    let r = c.in_ok-array_value-in-Array.field-0 in
    room_on_array c.args.plan.now new c.args.on.now r _ (ap portions (c.in_ok-array_value-in-Array.ensures.means new)) c.in-Array.array c.deref.result.now c.in-Array.is c.deref.ensures (c.in_ok-answer-in-Array.ensures.room)

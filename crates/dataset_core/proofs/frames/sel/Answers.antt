use Rattle.xr_arguments.proofs.Inside.{held_array, held_set}
use Rattle.dataset_core.proofs.Shared.{both_array, both_set}
use Rattle.std.proofs.Common.{ap}
use Rattle.xr_defs.specs.Room.{portions}
use Rattle.dataset_core.proofs.Rooms.{room_on_array, room_on_set}
use Rattle.dataset_core.proofs.frames.sel.Goals as goal

pub sel_array-requires : goal.sel_array-requires
sel_array-requires c = held_array c.args.plan.now c.args.on.now c.in-Array.array c.deref.result.now c.in-Array.is c.deref.ensures c.requires

pub sel_set-requires : goal.sel_set-requires
sel_set-requires c = held_set c.args.plan.now c.args.on.now c.in-Set.set c.deref-in-Set.result.now c.in-Set.is c.deref-in-Set.ensures c.requires

pub returns-in_ok-array_value-in-Array-clause-answers : goal.returns-in_ok-array_value-in-Array-clause-answers
returns-in_ok-array_value-in-Array-clause-answers c =
    let new = c.sel_array.new.plan in
    let r = c.in_ok-array_value-in-Array.field-0 in
    let told = c.in_ok-answer-in-Array.ensures.answers c.args.plan.now in
    (both_array c.args.plan.now new c.args.on.now r c.in-Array.array c.deref.result.now c.in-Array.is c.deref.ensures _ _ c.in_ok-answer-in-Array.answer told.0 (c.in_ok-array_value-in-Array.ensures.means new), c.in_ok-array_value-in-Array.ensures.inside new told.1)

pub returns-in_ok-set_value-in-Set-clause-answers : goal.returns-in_ok-set_value-in-Set-clause-answers
returns-in_ok-set_value-in-Set-clause-answers c =
    let new = c.sel_set.new.plan in
    let r = c.in_ok-set_value-in-Set.field-0 in
    let told = c.in_ok-answer-in-Set.ensures.answers c.args.plan.now in
    (both_set c.args.plan.now new c.args.on.now r c.in-Set.set c.deref-in-Set.result.now c.in-Set.is c.deref-in-Set.ensures _ _ c.in_ok-answer-in-Set.answer told.0 (c.in_ok-set_value-in-Set.ensures.means new), c.in_ok-set_value-in-Set.ensures.inside new told.1)

pub returns-in_ok-array_value-in-Array-clause-room : goal.returns-in_ok-array_value-in-Array-clause-room
returns-in_ok-array_value-in-Array-clause-room c =
    let new = c.sel_array.new.plan in
    let r = c.in_ok-array_value-in-Array.field-0 in
    room_on_array c.args.plan.now new c.args.on.now r _ (ap portions (c.in_ok-array_value-in-Array.ensures.means new)) c.in-Array.array c.deref.result.now c.in-Array.is c.deref.ensures c.in_ok-answer-in-Array.ensures.room

pub returns-in_ok-set_value-in-Set-clause-room : goal.returns-in_ok-set_value-in-Set-clause-room
returns-in_ok-set_value-in-Set-clause-room c =
    let new = c.sel_set.new.plan in
    let r = c.in_ok-set_value-in-Set.field-0 in
    room_on_set c.args.plan.now new c.args.on.now r _ (ap portions (c.in_ok-set_value-in-Set.ensures.means new)) c.in-Set.set c.deref-in-Set.result.now c.in-Set.is c.deref-in-Set.ensures c.in_ok-answer-in-Set.ensures.room

use Rattle.std.specs.Borrow.{Bor}
use Rattle.xr_types.specs.declared.text.TextBytes.{TextBytes}
use Rattle.xr_runs.specs.Calls.{as_dataset}
use Rattle.xr_defs.specs.Parts.{own_name, as_set}
use Rattle.xr_values.specs.Meaning.{meaning}
use Rattle.xr_values.specs.Stands.{array_in}
use Rattle.std.proofs.Common.{rules}
use Rattle.xr_arguments.proofs.Inside.{held_array, inside_set}
use Rattle.dataset_core.proofs.Shared.{array_as_set, set_as_set, fails_first}
use Rattle.dataset_core.proofs.write.as_dataset.Goals as goal

pub returns-in_err-name-in-Array : goal.returns-in_err-name-in-Array
returns-in_err-name-in-Array c = λ nodes inside.
    let m = array_as_set nodes c.args.on.now c.in-Array.array c.deref.result.now c.in-Array.is c.deref.ensures in
    let f = fails_first (λ (t : Bor TextBytes). t.now) c.in_err-name-in-Array.field-0.0 (own_name (array_in nodes c.deref.result.now)) (λ name. as_set name (array_in nodes c.deref.result.now)) (as_dataset (meaning nodes c.args.on.now)) m (c.in_err-name-in-Array.ensures.answers nodes) in
    search rules

pub returns-in_err-set-in-Array : goal.returns-in_err-set-in-Array
returns-in_err-set-in-Array c = λ nodes inside.
    let m = array_as_set nodes c.args.on.now c.in-Array.array c.deref.result.now c.in-Array.is c.deref.ensures in let d = c.deref.ensures in let f = c.deref-in-Array.ensures in
    let n = c.in_ok-name-in-Array.ensures.answers nodes in
    let k = c.in_ok-name-in-Array.ensures.named nodes (held_array nodes c.args.on.now c.in-Array.array c.deref.result.now c.in-Array.is d inside) in
    let e = c.in_err-set-in-Array.ensures nodes (held_array nodes c.args.on.now c.in-Array.array c.deref-in-Array.result.now c.in-Array.is f inside) k in search rules

pub returns-in_ok-new-in-Array : goal.returns-in_ok-new-in-Array
returns-in_ok-new-in-Array c = λ nodes inside.
    let m = array_as_set nodes c.args.on.now c.in-Array.array c.deref.result.now c.in-Array.is c.deref.ensures in let d = c.deref.ensures in let f = c.deref-in-Array.ensures in
    let n = c.in_ok-name-in-Array.ensures.answers nodes in
    let k = c.in_ok-name-in-Array.ensures.named nodes (held_array nodes c.args.on.now c.in-Array.array c.deref.result.now c.in-Array.is d inside) in
    let e = c.in_ok-set-in-Array.ensures nodes (held_array nodes c.args.on.now c.in-Array.array c.deref-in-Array.result.now c.in-Array.is f inside) k in search rules

pub returns-in_ok-clone-in-Set : goal.returns-in_ok-clone-in-Set
returns-in_ok-clone-in-Set c = λ nodes inside.
    let m = set_as_set nodes c.args.on.now c.in-Set.set c.in-Set.is in let h = inside_set nodes c.args.on.now c.in-Set.set c.in-Set.is inside in search rules

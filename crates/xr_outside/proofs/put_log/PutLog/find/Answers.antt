use Rattle.std.proofs.Common.{◌≡◌, ◌+◌, Bool, true, false, cond, Some, drop, sym, ap, ◌∙◌, rules, tests}
use Rattle.std.specs.Str.{bytes_eq}
use Rattle.xr_outside.specs.PutLog.{found_in}
use Rattle.xr_outside.proofs.Puts.{found_read, found_none}
use Rattle.xr_outside.proofs.put_log.PutLog.find.Goals as goal

pub returns-then-eq : goal.returns-then-eq
returns-then-eq c =
    let same : bytes_eq c.args.name.now c.split_at-in-loop-put.result.1.now ≡ true = search (rules, tests) in
    let read = found_read _ c.args.name.now _ _ c.loop-put.put-index _ _ _ _ _ _ c.loop-put-test.true c.saturating_sub.ensures c.split_at.ensures.front c.split_at.ensures.back c.saturating_sub-in-loop-put.ensures c.split_at-in-loop-put.ensures.front c.split_at-in-loop-put.ensures.back in
    sym c.loop-put.invariant ∙ read ∙ ap (λ (b : Bool). cond b (Some c.split_at.result.1.now) (found_in c.split_at-in-loop-put.result.0.now (drop (c.loop-put.put-index + 1) c.as_slice-put-items.result.now) c.args.name.now)) same

pub loop-put-preserved : goal.loop-put-preserved
loop-put-preserved c =
    let apart : bytes_eq c.args.name.now c.split_at-in-loop-put.result.1.now ≡ false = search (rules, tests) in
    let read = found_read _ c.args.name.now _ _ c.loop-put.put-index _ _ _ _ _ _ c.loop-put-test.true c.saturating_sub.ensures c.split_at.ensures.front c.split_at.ensures.back c.saturating_sub-in-loop-put.ensures c.split_at-in-loop-put.ensures.front c.split_at-in-loop-put.ensures.back in
    sym (read ∙ ap (λ (b : Bool). cond b (Some c.split_at.result.1.now) (found_in c.split_at-in-loop-put.result.0.now (drop (c.loop-put.put-index + 1) c.as_slice-put-items.result.now) c.args.name.now)) apart) ∙ c.loop-put.invariant

pub returns : goal.returns
returns c = sym c.loop-put.invariant ∙ found_none c.loop-put.pool.now c.args.name.now c.as_slice-put-items.result.now c.loop-put.put-index c.loop-put-test.false

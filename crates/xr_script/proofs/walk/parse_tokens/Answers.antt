use Rattle.std.proofs.Common.{◌≡◌, ◌<◌, ◌+◌, get_or, drop, length, arith}
use Rattle.std.proofs.lemmas.Grind.{common_steps}
use Rattle.xr_script.specs.Progress.{spot_of}
use Rattle.xr_script.proofs.Runs.{nothing_walked, number_next, walked_more, walk_stops, ends_parsed, ends_fault}
use Rattle.xr_script.proofs.walk.parse_tokens.Goals as goal

pub loop-i-init : goal.loop-i-init
loop-i-init c = nothing_walked c.args.scan.now.tokens c.new.result.items c.nothing_counted.result c.new.ensures.items c.nothing_counted.ensures

pub loop-i-preserved : goal.loop-i-preserved
loop-i-preserved c =
    let ps = c.args.scan.now.tokens in
    let i = c.loop-i.i in
    let same : c.as_slice-tokens.result.now ≡ ps = cc in
    let here : c.index-tokens-i.result ≡ get_or ps i c.index-tokens-i.result = cc in
    let short : i < length ps = grind (arith, common_steps) in
    let behind : c.split_at.result.1.now ≡ drop (i + 1) ps = cc in
    walked_more ps i c.index-tokens-i.result c.loop-i.walk c.in-Ok.next c.begins_with_number-number_next.result here short (number_next ps _ i _ behind c.begins_with_number-number_next.ensures) c.loop-i.invariant c.in-Ok.ensures

pub returns-in-Err-clause-fault : goal.returns-in-Err-clause-fault
returns-in-Err-clause-fault c = λ f e.
    let ps = c.args.scan.now.tokens in
    let i = c.loop-i.i in
    let same : c.as_slice-tokens.result.now ≡ ps = cc in
    let here : c.index-tokens-i.result ≡ get_or ps i c.index-tokens-i.result = cc in
    let short : i < length ps = grind (arith, common_steps) in
    let behind : c.split_at.result.1.now ≡ drop (i + 1) ps = cc in
    walk_stops c.args.scan.now i c.index-tokens-i.result c.loop-i.walk c.begins_with_number-number_next.result c.in-Err.fault f here short (number_next ps _ i _ behind c.begins_with_number-number_next.ensures) c.loop-i.invariant c.in-Err.ensures cc

pub returns-clause-script : goal.returns-clause-script
returns-clause-script c = ends_parsed c.args.scan.now c.loop-i.i (spot_of c.loop-i.walk.progress) c.loop-i.walk.tally c.finish.result (grind (arith, common_steps)) c.loop-i.invariant c.finish.ensures

pub returns-clause-fault : goal.returns-clause-fault
returns-clause-fault c = λ f e. ends_fault c.args.scan.now c.loop-i.i (spot_of c.loop-i.walk.progress) c.loop-i.walk.tally c.finish.result f (grind (arith, common_steps)) c.loop-i.invariant c.finish.ensures e

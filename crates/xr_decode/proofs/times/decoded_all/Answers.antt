use Rattle.std.proofs.Common.{◌≡◌, ◌++◌, ◌∷◌, [], Some, None, rules, sym}
use Rattle.xr_times.specs.Times.{decoded}
use Rattle.xr_decode.proofs.Counted.{no_time, one_time}
use Rattle.xr_decode.proofs.times.decoded_all.Goals as goal

pub returns-in-None : goal.returns-in-None
returns-in-None g c =
    let value : decoded c.args.units.now (g.T.Elem.number c.count-item.result) ≡ None = search rules in
    sym (no_time c.args.units.now g.T.Elem.number c.args.counts.now c.loop-count.count-index c.count-item.result c.loop-count.times.items c.loop-count-test.true c.count-item.is
    value c.loop-count.invariant)

pub loop-count-preserved : goal.loop-count-preserved
loop-count-preserved g c =
    let value : decoded c.args.units.now (g.T.Elem.number c.count-item.result) ≡ Some c.in-Some.time = search rules in
    let pushed : c.push.new.self.items ≡ c.loop-count.times.items ++ c.in-Some.time ∷ [] = search rules in
    one_time c.args.units.now g.T.Elem.number c.args.counts.now c.loop-count.count-index c.count-item.result c.loop-count.times.items c.push.new.self.items c.in-Some.time c.loop-count-test.true c.count-item.is
    value pushed c.loop-count.invariant

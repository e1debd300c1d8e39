use Rattle.std.proofs.Common.{◌≤◌, take, sym, arith}
use Rattle.std.proofs.lemmas.List.{take_all}
use Rattle.std.proofs.lemmas.List.Elements.{All-same, All-more, All-weaker}
use Rattle.cdf_reader.specs.declared.strips.Strip.{Strip}
use Rattle.cdf_reader.proofs.gather.most_records.Goals as goal

pub loop-strip-preserved : goal.loop-strip-preserved
loop-strip-preserved c =
    let strips = c.args.strips.now in
    let i = c.loop-strip.strip-index in
    let none : Strip = record { begin = 0; size = 0; count = 0 } in
    let P : Strip → Type 0 = λ s. s.count ≤ c.loop-strip.most in
    let Q : Strip → Type 0 = λ s. s.count ≤ c.max-most.result in
    All-more Q strips i none c.loop-strip-test.true (All-weaker P Q (λ s le. omega (arith, le, c.max-most.ensures)) (take i strips) c.loop-strip.invariant) (omega (arith, c.max-most.ensures))

pub returns : goal.returns
returns c =
    let P : Strip → Type 0 = λ s. s.count ≤ c.loop-strip.most in
    All-same P c.args.strips.now (take c.loop-strip.strip-index c.args.strips.now) (sym (take_all c.loop-strip.strip-index c.args.strips.now (omega (arith, c.loop-strip-test.false)))) c.loop-strip.invariant

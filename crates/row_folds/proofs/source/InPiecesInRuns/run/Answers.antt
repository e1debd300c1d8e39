use Rattle.std.proofs.Common.{◌≤◌, ◌+◌, ◌-◌, ◌≡◌, arith}
use Rattle.row_folds.proofs.Sources.{cells_long, run_is}
use Rattle.row_folds.proofs.source.InPiecesInRuns.run.Goals as goal

pub find-part-requires-clause-inside : goal.find-part-requires-clause-inside
find-part-requires-clause-inside g c =
    let long = cells_long c.args.self.kind g.T.Number.spelt c.args.self.pieces.now c.args.self.first.bytes.now c.args.self.first.count (g.F.Fills.numbers c.args.self.fills) c.requires.ready in
    let inside = c.requires.inside in
    let some = c.if-count-eq0.false in
    omega (arith, long, inside, some)

pub returns-clause-same : goal.returns-clause-same
returns-clause-same g c =
    let part = c.find-part.result in
    let from = c.find-part.ensures.from in
    let behind = c.find-part.ensures.behind in
    let there = c.if-part-at.false in
    let inside : c.args.start - part.from + c.args.count ≤ part.run.count = omega (arith, from, behind, there) in
    let is_start : part.from + (c.args.start - part.from) ≡ c.args.start = omega (arith, from) in
    run_is c.args.self.kind g.T.Number.spelt c.args.self.pieces.now c.args.self.first.bytes.now part.run.bytes.now c.args.self.first.count part.from part.run.count c.args.start (c.args.start - part.from) c.args.count (g.F.Fills.numbers c.args.self.fills) c.requires.ready c.find-part.ensures.part c.find-part.ensures.within inside is_start c.requires.few

use Rattle.std.proofs.Common.{◌<◌, ◌+◌, ◌-◌, ◌≡◌, ◌∙◌, arith, subst, sym}
use Rattle.xr_arrays.specs.Pieces.{together}
use Rattle.row_folds.proofs.Sources.{cells_long, part_long, stored_at, value_at_run}
use Rattle.row_folds.proofs.source.InPiecesSource.cell.Goals as goal

pub find-part-requires-clause-inside : goal.find-part-requires-clause-inside
find-part-requires-clause-inside g c =
    subst (λ n. c.args.index < n) (cells_long c.args.self.kind g.T.Number.spelt c.args.self.pieces.now c.args.self.first.bytes.now c.args.self.first.count (g.F.Fills.numbers c.args.self.fills) c.requires.ready) c.requires.inside

pub returns : goal.returns
returns g c =
    let kind = g.T.Number.spelt in
    let fills = g.F.Fills.numbers c.args.self.fills in
    let raw = together c.args.self.kind c.args.self.pieces.now in
    let part = c.find-part.result in
    let from = c.find-part.ensures.from in
    let behind = c.find-part.ensures.behind in
    let at = c.args.index - part.from in
    let lt : at < part.run.count = omega (arith, from, behind) in
    let is_value : part.from + at ≡ c.args.index = omega (arith, from) in
    let long = part_long kind raw part.run.bytes.now part.from part.run.count fills c.requires.ready.whole c.find-part.ensures.part in
    sym (value_at_run c.args.self.kind kind c.args.self.pieces.now c.args.self.first.bytes.now part.run.bytes.now c.args.self.first.count part.from part.run.count c.args.index at fills c.requires.ready c.find-part.ensures.part c.find-part.ensures.within lt is_value)
    ∙ stored_at kind part.run.bytes.now fills at _ c.hide.result (subst (λ n. at < n) (sym long) lt) c.at-cell.ensures c.hide.ensures

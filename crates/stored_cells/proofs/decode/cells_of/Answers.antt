use Rattle.std.proofs.Common.{arith, rules}
use Rattle.stored_cells.proofs.NumbersInBytes.{cells_more}
use Rattle.stored_cells.proofs.decode.cells_of.Goals as goal

pub loop-i-preserved : goal.loop-i-preserved
loop-i-preserved g c = record {
  whole = search rules;
  count = c.loop-i.invariant.count;
  numbers = cells_more g.T.Elem.number g.T.Number.spelt c.args.raw.now c.loop-i.out.items c.loop-i.i c.at.result (omega (arith, c.loop-i-test.true, c.loop-i.invariant.whole)) c.at.ensures c.loop-i.invariant.numbers;
}

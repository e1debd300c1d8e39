use Rattle.xr_arrays.specs.Pieces.{together}
use Rattle.row_concat.proofs.Values.{counted_more}
use Rattle.row_concat.proofs.Whole.{spell_more}
use Rattle.row_concat.proofs.spelt.all_values.Goals as goal

pub loop-array-preserved : goal.loop-array-preserved
loop-array-preserved c = record {
  spell = spell_more c.args.kind c.args.fills.now (λ v. together c.args.kind v.pieces.now) (λ a. a.now) c.loop-array.all.items c.push.new.self.items c.in-Some.values c.args.arrays.now c.loop-array.array-index c.array-item.result c.loop-array-test.true c.array-item.is c.in_ok-push.ensures.items c.in-Some.ensures.spells c.loop-array.invariant.spell;
  counted = counted_more c.args.kind c.loop-array.all.items c.push.new.self.items c.in-Some.values c.in_ok-push.ensures.items c.loop-array.invariant.counted c.in-Some.ensures.counted;
}

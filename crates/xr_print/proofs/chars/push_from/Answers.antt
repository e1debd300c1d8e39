use Rattle.xr_print.proofs.Characters.{next_char}
use Rattle.xr_print.proofs.chars.push_from.Goals as goal

pub loop-i-preserved : goal.loop-i-preserved
loop-i-preserved c = next_char c.args.bytes.now c.split_at.result.1.now c.loop-i.out.items c.push_one.new.out.items _ c.loop-i.left c.in_ok-left.left c.loop-i.i c.split_at.ensures.back c.in_ok-left.ensures c.loop-i.invariant

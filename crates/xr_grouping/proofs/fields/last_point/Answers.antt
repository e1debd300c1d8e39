use Rattle.std.proofs.Common.{refl, ap, ◌+◌}
use Rattle.xr_grouping.proofs.Texts.{next_split, none_split}
use Rattle.xr_grouping.proofs.fields.last_point.Goals as goal

pub loop-byte-init : goal.loop-byte-init
loop-byte-init c = (none_split c.args.text.now, refl)

pub loop-byte-preserved : goal.loop-byte-preserved
loop-byte-preserved c =
    (next_split c.args.text.now c.loop-byte.byte-index c.loop-byte.place c.loop-byte.last c.last_with-last.result c.loop-byte-test.true c.loop-byte.invariant.0 c.loop-byte.invariant.1 c.last_with-last.ensures, ap (λ n. n + 1) c.loop-byte.invariant.1)

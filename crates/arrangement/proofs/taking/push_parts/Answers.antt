use Rattle.std.proofs.Common.{◌++◌, None, get_or}
use Rattle.plan_core.specs.Takes.{part, parts}
use Rattle.plan_core.proofs.Strides.{same_default}
use Rattle.plan_core.proofs.Concats.{gather_more}
use Rattle.arrangement.proofs.taking.push_parts.Goals as goal

pub loop-source-preserved : goal.loop-source-preserved
loop-source-preserved g c =
    let from = c.args.from.now in
    let i = c.loop-source.source-index in
    let source = get_or from i None in
    let lt = c.loop-source-test.true in
    gather_more (part c.args.row c.args.cells.now c.args.hole) from i source c.loop-source.out.items c.push_part.new.out.items (c.args.out.now.items ++ parts c.args.row from c.args.hole c.args.cells.now) lt (same_default from i None source lt) c.in_ok-push_part.ensures c.loop-source.invariant

use Rattle.std.proofs.Common.{length, sym}
use Rattle.values_live.proofs.Naming.{stand_same, stay_values}
use Rattle.values_live.proofs.unnamed.forget_unmarked.Goals as goal

pub returns-clause-same : goal.returns-clause-same
returns-clause-same c = stand_same (length c.args.live.now) c.mark_values.new.live c.args.plan.now c.forget.new.plan (sym c.requires.long) c.forget.ensures c.args.values.now c.mark_values.ensures c.requires.inside

pub returns-clause-inside : goal.returns-clause-inside
returns-clause-inside c = stay_values (length c.args.live.now) c.mark_values.new.live c.args.plan.now c.forget.new.plan (sym c.requires.long) c.forget.ensures c.args.values.now c.mark_values.ensures c.requires.inside

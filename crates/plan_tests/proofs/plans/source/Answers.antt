use Rattle.plan_tests.proofs.Sources.{source_behind}
use Rattle.plan_tests.proofs.plans.source.Goals as goal

pub push-requires : goal.push-requires
push-requires c = source_behind c.new-plan.result c.args.a c.requires.array c.requires.few c.requires.rank

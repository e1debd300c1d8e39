use Rattle.dataset_core.proofs.Making.{beside_one}
use Rattle.dataset_core.proofs.function.uncomputed_function.Goals as goal

pub returns-then-eq-3-clause-room : goal.returns-then-eq-3-clause-room
returns-then-eq-3-clause-room c = beside_one c.args.plan.now c.choice.new.plan c.choice.result c.choice.ensures.room

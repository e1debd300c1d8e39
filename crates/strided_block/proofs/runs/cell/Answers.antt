use Rattle.strided_block.proofs.Holdings.{one_run}
use Rattle.strided_block.proofs.runs.cell.Goals as goal

pub run-requires : goal.run-requires
run-requires g c = (c.requires.0, one_run _ _ c.requires.1)

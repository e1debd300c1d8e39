use Rattle.xr_encode.proofs.Written.{all_seen}
use Rattle.xr_encode.proofs.plain.integers_var.Goals as goal

pub run_var-requires-clause-seen : goal.run_var-requires-clause-seen
run_var-requires-clause-seen c = all_seen _

pub run_var-requires-in-Unsigned-clause-seen : goal.run_var-requires-in-Unsigned-clause-seen
run_var-requires-in-Unsigned-clause-seen c = all_seen _

use Rattle.xr_arguments.proofs.Common.{length}
use Rattle.xr_arguments.proofs.parameters.+push_keywords.Given as goal

abbrev pub decreases-push_keywords : goal.decreases-push_keywords
decreases-push_keywords l = length l.names.now

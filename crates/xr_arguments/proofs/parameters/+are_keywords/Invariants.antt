use Rattle.xr_arguments.proofs.Common.{length}
use Rattle.xr_arguments.proofs.parameters.+are_keywords.Given as goal

abbrev pub decreases-are_keywords : goal.decreases-are_keywords
decreases-are_keywords l = length l.keyed.now

use Rattle.std.proofs.Common.{length}
use Rattle.xr_chunking.proofs.sizes.+push_sizes.Given as goal

abbrev pub decreases-push_sizes : goal.decreases-push_sizes
decreases-push_sizes l = length l.keyed.now

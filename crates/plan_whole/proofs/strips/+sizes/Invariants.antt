use Rattle.std.proofs.Common.{◌+◌, ◌*◌}
use Rattle.plan_whole.proofs.strips.+sizes.Given as goal

abbrev pub decreases-sizes_at : goal.decreases-sizes_at
decreases-sizes_at l = 4 * l.at + 2

abbrev pub decreases-computed_sizes : goal.decreases-computed_sizes
decreases-computed_sizes l = 4 * l.at + 1

abbrev pub decreases-widened_sizes : goal.decreases-widened_sizes
decreases-widened_sizes l = 4 * l.at

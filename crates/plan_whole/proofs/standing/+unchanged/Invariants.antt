use Rattle.std.proofs.Common.{◌+◌, ◌*◌}
use Rattle.plan_whole.proofs.standing.+unchanged.Given as goal

abbrev pub decreases-unchanged : goal.decreases-unchanged
decreases-unchanged l = 2 * l.at + 1

abbrev pub decreases-unchanged_input : goal.decreases-unchanged_input
decreases-unchanged_input l = 2 * l.at

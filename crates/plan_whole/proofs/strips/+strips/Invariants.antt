use Rattle.std.proofs.Common.{◌+◌, ◌*◌}
use Rattle.plan_whole.proofs.strips.+strips.Given as goal

abbrev pub decreases-strip_at : goal.decreases-strip_at
decreases-strip_at l = 4 * l.at + 3

abbrev pub decreases-computed_strip : goal.decreases-computed_strip
decreases-computed_strip l = 4 * l.at + 2

abbrev pub decreases-operated_strip : goal.decreases-operated_strip
decreases-operated_strip l = 4 * l.at + 1

abbrev pub decreases-unary_strip : goal.decreases-unary_strip
decreases-unary_strip l = 4 * l.at

abbrev pub decreases-binary_strip : goal.decreases-binary_strip
decreases-binary_strip l = 4 * l.at

abbrev pub decreases-choose_strip : goal.decreases-choose_strip
decreases-choose_strip l = 4 * l.at

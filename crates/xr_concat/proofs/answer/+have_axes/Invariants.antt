use Rattle.std.proofs.Common.{length}
use Rattle.xr_concat.proofs.answer.+have_axes.Given as goal

abbrev pub decreases-have_axes : goal.decreases-have_axes
decreases-have_axes l = length l.axes.now

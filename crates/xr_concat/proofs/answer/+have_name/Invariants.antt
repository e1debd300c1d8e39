use Rattle.std.proofs.Common.{length}
use Rattle.xr_concat.proofs.answer.+have_name.Given as goal

abbrev pub decreases-have_name : goal.decreases-have_name
decreases-have_name l = length l.values.now

use Rattle.xr_formulas.proofs.Common.{made_in, refl}
use Rattle.xr_formulas.proofs.Rooms.{array_placed}
use Rattle.xr_formulas.proofs.valued.called.Goals as goal

pub returns-clause-means : goal.returns-clause-means
returns-clause-means c = array_placed c.realize.new.plan _ c.in_ok-new.field-0 refl (made_in c.args.plan.now c.args.made) (rw c.in_ok-new.ensures.ok c.in_ok-array.ensures.made)

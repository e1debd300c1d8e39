use Rattle.std.proofs.Common.{sym, subst, length, List, ℕ}
use Rattle.xr_arrays.specs.Nodes.{IsOrder}
use Rattle.plan_core.proofs.Moves.{moving_inside}
use Rattle.arrangement.proofs.axes.reorder.Goals as goal

pub rearrange-requires-clause-inside : goal.rearrange-requires-clause-inside
rearrange-requires-clause-inside c = moving_inside c.shape.result.now c.args.order.now (subst (λ (s : List ℕ). IsOrder (length s) c.args.order.now) (sym c.shape.ensures) c.requires.each)

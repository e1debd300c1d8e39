use Rattle.std.proofs.Common.{◌≤◌, sym, subst, length, List, ℕ}
use Rattle.plan_core.proofs.Widens.{widening_inside}
use Rattle.arrangement.proofs.axes.widen.Goals as goal

pub rearrange-requires-clause-inside : goal.rearrange-requires-clause-inside
rearrange-requires-clause-inside c = widening_inside c.shape.result.now c.args.axis c.args.positions (subst (λ (s : List ℕ). c.args.axis ≤ length s) (sym c.shape.ensures) c.requires.axis_is)

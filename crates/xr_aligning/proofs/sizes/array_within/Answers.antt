use Rattle.xr_aligning.proofs.Common.{AllByRecursion, IsThere, subst, sym}
use Rattle.xr_aligning.proofs.Holes.{own_there}
use Rattle.xr_aligning.proofs.sizes.array_within.Goals as goal

pub axes_within-requires-clause-axes : goal.axes_within-requires-clause-axes
axes_within-requires-clause-axes c =
    let own = c.args.change.now.own.now in
    subst (AllByRecursion (IsThere own)) (sym c.as_slice.ensures) (own_there own c.args.array.now.axes c.args.array.now.coords c.requires.own c.requires.frame)

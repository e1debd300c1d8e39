use Rattle.std.proofs.Common.{◌<◌, subst}
use Rattle.std.specs.List.{All}
use Rattle.xr_arrays.specs.FeedPositions.{listed}
use Rattle.row_folds.proofs.Strips.{last_below}
use Rattle.row_folds.proofs.lists.absorb_place.Goals as goal

pub absorb_window-requires-clause-end : goal.absorb_window-requires-clause-end
absorb_window-requires-clause-end g c =
    last_below c.in-Range.from c.in-Range.to c.args.strip.size (c.is_short.ensures.some c.if-is_short.true) (subst (λ p. All (λ k. k < c.args.strip.size) (listed p)) c.in-Range.is c.requires.positions)

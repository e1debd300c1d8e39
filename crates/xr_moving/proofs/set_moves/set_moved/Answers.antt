use Rattle.xr_moving.proofs.VarsMoved.{set_makes}
use Rattle.xr_moving.proofs.set_moves.set_moved.Goals as goal

pub returns : goal.returns
returns c nodes is fits =
    rw (c.in_ok-deep_copy.ensures, c.in_ok-copy_coords.ensures, c.in_ok-vars_made.ensures, c.in_ok-deep_copy-2.ensures, c.in_ok-deep_copy-3.ensures, c.as_slice.ensures, c.as_slice-2.ensures, c.as_slice-3.ensures.variables) (set_makes nodes c.args.on.now c.args.moves.now is fits)

use Rattle.xr_moving.proofs.VarsMoved.{array_makes}
use Rattle.xr_moving.proofs.arrays.array_moved.Goals as goal

pub returns : goal.returns
returns c nodes is fits =
    rw (c.in_ok-made.ensures, c.in_ok-attrs.ensures, c.masked_after-masked.ensures, c.in_ok-cells.ensures, c.as_slice-dims.ensures, c.in_ok-names.ensures, c.as_slice-axes.ensures) (array_makes nodes c.args.on.now c.args.moves.now is fits)

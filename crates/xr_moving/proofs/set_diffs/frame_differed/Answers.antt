use Rattle.std.proofs.Common.{◌∙◌, sym}
use Rattle.xr_moving.proofs.SetDifferences.{differed_told}
use Rattle.xr_moving.proofs.set_diffs.frame_differed.Goals as goal

pub returns-in_ok-made-in-Some : goal.returns-in_ok-made-in-Some
returns-in_ok-made-in-Some c nodes is =
    differed_told nodes c.args.on.now c.args.frame.now c.as_slice.result.now c.as_slice-in-Some.result.now c.args.asked.now.dim.now c.args.asked.now.upper c.in-Some.k c.in_ok-made-in-Some.made is c.as_slice.ensures c.as_slice-in-Some.ensures
    (sym c.position_of.ensures.place ∙ c.in-Some.is) (c.in_ok-check_numbers-in-Some.ensures nodes) c.in_ok-made-in-Some.ensures.is c.in_ok-made-in-Some.ensures.framed

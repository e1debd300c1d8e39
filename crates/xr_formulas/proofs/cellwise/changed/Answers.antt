use Rattle.xr_formulas.proofs.Changes.{change_makes}
use Rattle.xr_formulas.proofs.cellwise.changed.Goals as goal

pub returns : goal.returns
returns c nodes is are = rw (c.in_ok-made.ensures, c.in_ok-chain.ensures, c.masked_after-masked.ensures) (change_makes nodes c.args.on.now c.args.op c.args.kind c.requires is c.args.attrs are)

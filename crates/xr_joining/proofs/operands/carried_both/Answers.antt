use Rattle.std.proofs.Common.{refl}
use Rattle.xr_joining.proofs.operands.carried_both.Goals as goal

pub returns : goal.returns
returns c nodes = rw (c.in_ok-parts.ensures.carried nodes, c.in_ok-carrier.ensures, c.in_ok-carrier-2.ensures) refl

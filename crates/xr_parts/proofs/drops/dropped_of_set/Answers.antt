use Rattle.xr_parts.proofs.Common.{rules}
use Rattle.xr_parts.proofs.Left.{set_dropped, set_dropped_is}
use Rattle.xr_parts.proofs.drops.dropped_of_set.Goals as goal

pub returns : goal.returns
returns c = λ nodes is. (search (rules, set_dropped_is), set_dropped nodes c.args.on.now _ _ c.in_ok-set_without.ensures is)

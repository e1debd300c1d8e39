use Rattle.xr_parts.proofs.Common.{length}
use Rattle.xr_parts.proofs.orders.+is_once.Given as goal

abbrev pub decreases-is_once : goal.decreases-is_once
decreases-is_once l = length l.order.now

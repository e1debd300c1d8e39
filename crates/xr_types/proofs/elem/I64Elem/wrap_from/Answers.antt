use Rattle.std.proofs.Common.{rules}
use Rattle.std.specs.Int.{int_wrap}
use Rattle.xr_types.proofs.elem.I64Elem.wrap_from.Goals as goal

pub returns : goal.returns
unfolding int_wrap
returns c = search rules

use Rattle.std.proofs.Common.{rules}
use Rattle.std.specs.Int.{int_wrap}
use Rattle.xr_types.proofs.kind.wrap.Goals as goal

pub returns-in-Int8 : goal.returns-in-Int8
unfolding int_wrap
returns-in-Int8 c = search rules

pub returns-in-Int16 : goal.returns-in-Int16
unfolding int_wrap
returns-in-Int16 c = search rules

pub returns-in-Int32 : goal.returns-in-Int32
unfolding int_wrap
returns-in-Int32 c = search rules

pub returns-in-Int64 : goal.returns-in-Int64
unfolding int_wrap
returns-in-Int64 c = search rules

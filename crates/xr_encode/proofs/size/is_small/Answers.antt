use Rattle.std.proofs.Common.{arith}
use Rattle.xr_encode.proofs.Sizes.{small_is}
use Rattle.xr_encode.proofs.size.is_small.Goals as goal

pub returns-then-whole : goal.returns-then-whole
returns-then-whole c =
    small_is c.args.file.now c.record_size-record.result c.saturating_mul-records.result c.header_size.result c.fixed_size.result c.saturating_add-whole.result
    c.record_size-record.ensures c.saturating_mul-records.ensures c.header_size.ensures c.fixed_size.ensures (omega arith) c.if-whole.true

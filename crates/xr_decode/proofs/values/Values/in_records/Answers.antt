use Rattle.std.proofs.Common.{subst}
use Rattle.xr_decode.specs.Stored.{AreBytes}
use Rattle.xr_decode.proofs.AreBytes.{values_are_bytes}
use Rattle.xr_decode.proofs.values.Values.in_records.Goals as goal

pub invariant_of-result : goal.invariant_of-result
invariant_of-result c = record {
  short = c.requires;
  bytes = values_are_bytes c.args.bytes.now c.args.head.now c.args.var.now (subst AreBytes c.as_slice.ensures c.are_bytes.ensures);
}

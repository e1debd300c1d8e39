use Rattle.std.proofs.Common.{length}
use Rattle.xrs.proofs.to_disk.write_all_of.Given as goal

abbrev pub decreases-loop-bytes : goal.decreases-loop-bytes
decreases-loop-bytes g l = length (g.B.Buf.unread l.bytes)

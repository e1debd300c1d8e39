use Rattle.std.proofs.Common.{◌≡◌, drop}
use Rattle.xr_outside.specs.Memory.{put_all, nothing}
use Rattle.xr_outside.specs.PutLog.{found_in}
use Rattle.xr_outside.proofs.memory.log_of.Given as goal

abbrev pub invariant-loop-file : goal.invariant-loop-file
invariant-loop-file l = put_all (drop l.file-index l.files) (found_in l.log.pool.items l.log.puts.items) ≡ put_all l.files nothing

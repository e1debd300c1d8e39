use Rattle.std.proofs.Common.{◌≡◌, drop}
use Rattle.xr_outside.specs.PutLog.{found_in}
use Rattle.xr_outside.proofs.put_log.PutLog.find.Given as goal

abbrev pub invariant-loop-put : goal.invariant-loop-put
invariant-loop-put l = found_in l.pool (drop l.put-index l.put-items) l.name ≡ found_in l.fn.self.pool.items l.fn.self.puts.items l.name

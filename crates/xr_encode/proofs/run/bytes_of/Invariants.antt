use Rattle.std.proofs.Common.{◌≡◌, ◌<◌, ◌≤◌, ◌-◌, length, take}
use Rattle.xr_encode.specs.Rows.{cells_bytes}
use Rattle.xr_encode.proofs.run.bytes_of.Given as goal

abbrev pub invariant-strips : goal.invariant-strips
invariant-strips g l = record {
  inside : l.from ≤ l.total;
  room : 0 < length l.strip;
  bytes : l.out.items ≡ cells_bytes g.W.Written.kind l.fill (take l.from (g.R.Run.cells l.run));
}

abbrev pub decreases-strips : goal.decreases-strips
decreases-strips g l = l.total - l.from

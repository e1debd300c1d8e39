use Rattle.std.proofs.Common.{◌≡◌, ◌-◌, ◌%◌, ◌≤◌, map}
use Rattle.xr_indexing.proofs.Walks.{met, turned}
use Rattle.xr_indexing.proofs.slices.walk.Given as goal

abbrev pub invariant-walk : goal.invariant-walk
invariant-walk l = record {
  so_far : l.out.items ≡ map (turned l.n l.back) (met l.start l.stop l.step l.at);
  from : l.start ≤ l.at;
  on : (l.at - l.start) % l.step ≡ 0;
}

abbrev pub decreases-walk : goal.decreases-walk
decreases-walk l = l.stop - l.at

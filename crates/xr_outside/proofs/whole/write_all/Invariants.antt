use Rattle.std.proofs.Common.{◌≡◌, ◌≤◌, ◌-◌, ◌++◌, length, take}
use Rattle.std.specs.Prelude.{IsTrue}
use Rattle.xr_outside.proofs.whole.write_all.Given as goal

abbrev pub invariant-loop-at : goal.invariant-loop-at
invariant-loop-at g l = record {
  within : l.at ≤ length l.bytes;
  taken : IsTrue (g.K.Sink.tells l.fn.sink) → g.K.Sink.taken l.sink ≡ g.K.Sink.taken l.fn.sink ++ take l.at l.bytes;
  tells : g.K.Sink.tells l.sink ≡ g.K.Sink.tells l.fn.sink;
  faults : g.K.Sink.faults l.sink ≡ g.K.Sink.faults l.fn.sink;
}

abbrev pub decreases-loop-at : goal.decreases-loop-at
decreases-loop-at g l = length l.bytes - l.at

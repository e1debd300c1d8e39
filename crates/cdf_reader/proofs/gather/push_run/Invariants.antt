use Rattle.std.proofs.Common.{◌≡◌, ◌+◌, ◌*◌, drop}
use Rattle.xr_arrays.specs.Pieces.{pieces}
use Rattle.cdf_reader.proofs.gather.push_run.Given as goal

abbrev pub invariant-loop-r : goal.invariant-loop-r
invariant-loop-r l = record {
  rest : l.rest ≡ drop (l.begin + l.r * l.step) l.bytes;
  raw : l.raw.items ≡ pieces l.bytes l.begin l.step l.n l.r;
}

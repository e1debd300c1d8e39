use Rattle.std.proofs.Common.{◌≡◌, length, take, drop, map}
use Rattle.xr_defs.specs.Encoding.{value_bytes}
use Rattle.xr_encode.specs.Rows.{number_or}
use Rattle.xr_encode.proofs.run.fill_strip.Given as goal

abbrev pub invariant-loop-i : goal.invariant-loop-i
invariant-loop-i g l = record {
  room : length l.strip ≡ length l.fn.strip;
  bytes : take l.i l.strip ≡ map (λ c. value_bytes g.W.Written.kind (number_or l.fill c)) (take l.i (drop l.from (g.R.Run.cells l.run)));
}

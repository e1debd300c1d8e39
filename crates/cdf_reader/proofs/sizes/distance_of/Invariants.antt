use Rattle.std.proofs.Common.{◌≤◌, length, drop}
use Rattle.cdf_reader.specs.Sizes.{record_sizes}
use Rattle.cdf_reader.specs.Together.{Sum}
use Rattle.cdf_reader.proofs.sizes.distance_of.Given as goal

abbrev pub invariant-loop-i : goal.invariant-loop-i
invariant-loop-i l = record {
  within : l.i ≤ length l.vars;
  sum : Sum l.sizes (record_sizes l.dims (drop l.i l.vars));
}

abbrev pub decreases-loop-i : goal.decreases-loop-i
decreases-loop-i l = l.i

use Rattle.std.proofs.Common.{◌≡◌, ℕ, List, map, take}
use Rattle.std.specs.List.{All}
use Rattle.cdf_reader.specs.Gathered.{strip_of, Holds}
use Rattle.cdf_reader.proofs.gather.columns_of.Given as goal

abbrev pub invariant-loop-strip : goal.invariant-loop-strip
invariant-loop-strip l = record {
  strips : map strip_of l.columns.items ≡ take l.strip-index l.strips;
  held : (bytes : List ℕ) (step : ℕ) → All (Holds bytes step 0) l.columns.items;
}

use Rattle.std.proofs.Common.{◌≡◌, ◌≤◌, ◌-◌, map}
use Rattle.std.specs.List.{All}
use Rattle.cdf_reader.specs.Gathered.{strip_of, Holds}
use Rattle.cdf_reader.proofs.gather.gather.Given as goal

abbrev pub invariant-loop-from : goal.invariant-loop-from
invariant-loop-from l = record {
  within : l.from ≤ l.records;
  strips : map strip_of l.columns.items ≡ l.strips;
  held : All (Holds l.bytes l.step l.from) l.columns.items;
}

abbrev pub decreases-loop-from : goal.decreases-loop-from
decreases-loop-from l = l.records - l.from

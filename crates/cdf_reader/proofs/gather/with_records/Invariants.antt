use Rattle.std.proofs.Common.{◌≡◌, ◌++◌, map, reverse, length}
use Rattle.std.specs.List.{All}
use Rattle.cdf_reader.specs.Gathered.{strip_of, Holds}
use Rattle.cdf_reader.proofs.gather.with_records.Given as goal

abbrev pub invariant-loop-column : goal.invariant-loop-column
invariant-loop-column l = record {
  left : All (Holds l.bytes l.step l.from) l.columns.items;
  done : All (Holds l.bytes l.step l.to) l.more.items;
  strips : map strip_of l.columns.items ++ reverse (map strip_of l.more.items) ≡ map strip_of l.fn.columns.items;
}

abbrev pub decreases-loop-column : goal.decreases-loop-column
decreases-loop-column l = length l.columns.items

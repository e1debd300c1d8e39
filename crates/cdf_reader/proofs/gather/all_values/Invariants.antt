use Rattle.std.proofs.Common.{◌≡◌, ◌++◌, ℕ, map, reverse, length}
use Rattle.std.specs.List.{All}
use Rattle.cdf_reader.specs.declared.gather.Column.{Column}
use Rattle.cdf_reader.specs.Strips.{strip_values}
use Rattle.cdf_reader.specs.Gathered.{IsFull}
use Rattle.cdf_reader.proofs.gather.all_values.Given as goal

abbrev pub invariant-loop-column : goal.invariant-loop-column
invariant-loop-column l = (step : ℕ) → All (IsFull l.bytes step) l.fn.columns.items
    → All (IsFull l.bytes step) l.columns.items
    × (map (λ (c : Column). strip_values l.bytes step c.strip) l.columns.items ++ reverse l.raws.items ≡ map (λ (c : Column). strip_values l.bytes step c.strip) l.fn.columns.items)

abbrev pub decreases-loop-column : goal.decreases-loop-column
decreases-loop-column l = length l.columns.items

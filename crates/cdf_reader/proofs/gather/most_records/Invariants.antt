use Rattle.std.proofs.Common.{◌≤◌, take}
use Rattle.std.specs.List.{All}
use Rattle.cdf_reader.specs.declared.strips.Strip.{Strip}
use Rattle.cdf_reader.proofs.gather.most_records.Given as goal

abbrev pub invariant-loop-strip : goal.invariant-loop-strip
invariant-loop-strip l = All (λ (s : Strip). s.count ≤ l.most) (take l.strip-index l.strips)

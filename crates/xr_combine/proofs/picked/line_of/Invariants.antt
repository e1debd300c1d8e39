use Rattle.std.proofs.Common.{◌≡◌}
use Rattle.xr_combine.specs.Steps.{line_of}
use Rattle.xr_combine.proofs.picked.line_of.Given as goal

abbrev pub invariant-loop-place : goal.invariant-loop-place
invariant-loop-place l = l.positions ≡ line_of l.place l.step l.start

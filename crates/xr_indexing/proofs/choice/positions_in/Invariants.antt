use Rattle.std.proofs.Common.{◌≡◌, drop}
use Rattle.xr_defs.specs.Selecting.{positions_in}
use Rattle.xr_indexing.specs.Choices.{behind}
use Rattle.xr_indexing.proofs.choice.positions_in.Given as goal

abbrev pub invariant-loop-n : goal.invariant-loop-n
invariant-loop-n l = behind l.out (positions_in l.size (drop l.n-index l.list)) ≡ positions_in l.size l.list

use Rattle.std.proofs.Common.{◌≡◌, drop}
use Rattle.std.specs.List.{list_all}
use Rattle.xr_defs.specs.Encoding.{holds_cell}
use Rattle.xr_encode.proofs.run.are_held.Given as goal

abbrev pub invariant-loop-i : goal.invariant-loop-i
invariant-loop-i g l = list_all (holds_cell l.kind) (drop l.i (g.R.Run.cells l.run)) ≡ list_all (holds_cell l.kind) (g.R.Run.cells l.run)

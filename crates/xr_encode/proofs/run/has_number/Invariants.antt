use Rattle.std.proofs.Common.{◌≡◌, take}
use Rattle.std.specs.List.{list_any}
use Rattle.xr_encode.specs.Rows.{is_number}
use Rattle.xr_encode.proofs.run.has_number.Given as goal

abbrev pub invariant-loop-i : goal.invariant-loop-i
invariant-loop-i g l = l.found ≡ list_any (is_number l.number) (take l.i (g.R.Run.cells l.run))

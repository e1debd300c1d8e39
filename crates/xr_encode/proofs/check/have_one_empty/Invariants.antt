use Rattle.std.proofs.Common.{◌≡◌, drop}
use Rattle.std.specs.Prelude.{option_copied}
use Rattle.std.specs.List.{list_all}
use Rattle.xr_defs.specs.Encoding.{is_that, empty_axes}
use Rattle.xr_encode.specs.Checks.{over}
use Rattle.xr_encode.proofs.check.have_one_empty.Given as goal

abbrev pub invariant-loop-axis : goal.invariant-loop-axis
invariant-loop-axis l = list_all (is_that (option_copied l.records)) (empty_axes (over (drop l.axis-index l.axes))) ≡ list_all (is_that (option_copied l.records)) (empty_axes (over l.axes))

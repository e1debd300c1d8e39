use Rattle.std.proofs.Common.{◌≡◌, drop}
use Rattle.std.specs.List.{list_all}
use Rattle.xr_defs.specs.Encoding.{has_width}
use Rattle.xr_encode.specs.Checks.{over}
use Rattle.xr_encode.proofs.check.have_widths.Given as goal

abbrev pub invariant-loop-width : goal.invariant-loop-width
invariant-loop-width l = list_all (has_width (over l.axes)) (drop l.width-index l.widths) ≡ list_all (has_width (over l.axes)) l.widths

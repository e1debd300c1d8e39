use Rattle.std.proofs.Common.{◌≡◌, drop}
use Rattle.std.specs.List.{filter_map}
use Rattle.xr_defs.specs.Encoding.{index_width}
use Rattle.xr_encode.specs.Widths.{each_once_more}
use Rattle.xr_encode.proofs.widths.push_axes.Given as goal

abbrev pub invariant-loop-axis : goal.invariant-loop-axis
invariant-loop-axis l = each_once_more l.widths (filter_map index_width (drop l.axis-index l.axes)) ≡ each_once_more l.fn.widths (filter_map index_width l.axes)

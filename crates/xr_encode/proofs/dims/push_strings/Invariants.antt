use Rattle.std.proofs.Common.{◌≡◌, ◌++◌, map, drop}
use Rattle.std.specs.Prelude.{filter}
use Rattle.xr_defs.specs.Encoding.{string_dim}
use Rattle.xr_encode.specs.Dimensions.{is_axisless}
use Rattle.xr_encode.proofs.dims.push_strings.Given as goal

abbrev pub invariant-loop-width : goal.invariant-loop-width
invariant-loop-width l = l.dims ++ map string_dim (filter (is_axisless l.axes) (drop l.width-index l.widths)) ≡ l.fn.dims ++ map string_dim (filter (is_axisless l.axes) l.widths)

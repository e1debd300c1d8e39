-- Coordinates over joined axes, as they are made.
use Rattle.std.specs.Prelude.{List, [], map}
use Rattle.xr_types.specs.declared.axis.Axis.{Axis}
use Rattle.xr_defs.specs.declared.value.Content.{Content}
use Rattle.xr_defs.specs.declared.value.Content.TheVariants as contents
use Rattle.xr_defs.specs.declared.value.Coord.{Coord}
use Rattle.xr_operations.specs.Alignment.{joined_in}
use Rattle.xr_values.specs.declared.data_array.DataArray.{DataArray}
use Rattle.xr_formulas.specs.Chains.{steps_value}
use Rattle.xr_joining.specs.Fitted.{takes}

abbrev pub content_after : List Axis → List Axis → Content → Content
content_after joined own (contents.Cells a masked) = contents.Cells (steps_value (takes joined 0 own) a) masked
content_after joined own (contents.Text t) = contents.Text t
content_after joined own (contents.Time coding t) = contents.Time coding t

abbrev pub coord_after : List Axis → Coord → Coord
coord_after joined c = record c { axes = map (joined_in joined) c.axes; content = content_after joined c.axes c.content }

-- the name, attributes and coordinates of an array over joined axes
abbrev pub carrier : List Axis → DataArray → DataArray
carrier joined a = record a { axes = []; coords = map (coord_after joined) a.coords }

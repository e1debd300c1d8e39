-- Data variables as arrays over their own axes.
use Rattle.std.specs.Prelude.{List, [], None}
use Rattle.xr_types.specs.declared.axis.Axis.{Axis}
use Rattle.xr_defs.specs.Parts.{axes_called}
use Rattle.xr_values.specs.declared.data_array.DataArray.{DataArray}
use Rattle.xr_values.specs.declared.variable.Variable.{Variable}

-- without coordinates
abbrev pub own_array : List Axis → Variable → DataArray
own_array axes v = record { name = None; axes = axes_called axes v.dims; kind = v.kind; masked = v.masked; attrs = v.attrs; coords = []; node = v.node }

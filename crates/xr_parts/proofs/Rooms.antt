-- One node more for an array.
use Rattle.xr_parts.proofs.Common.{DataArray, IsArrayIn, List, Node, Pushes, array_in}
use Rattle.xr_defs.specs.Room.{AddsForAny}
use Rattle.xr_values.proofs.Rooms.{array_added}

pub node_added : (old new : List Node) (node : Node) (b : DataArray) → Pushes old new node b.node → IsArrayIn new b → AddsForAny old new (array_in new b)
node_added old new node b pushes is = array_added old new node b.node (array_in new b) pushes is.node.has_shape is.formed.axes.distinct

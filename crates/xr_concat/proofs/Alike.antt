-- As many values as what they stand for.
use Rattle.std.proofs.Common.{◌≡◌, List, length, map}
use Rattle.std.proofs.lemmas.List.{length-map}
use Rattle.xr_arrays.specs.declared.node.Node.{Node}
use Rattle.xr_values.specs.Meaning.{meaning}
use Rattle.xr_values.specs.declared.value.Value.{Value}

pub counted : (nodes : List Node) (vs : List Value) → length (map (meaning nodes) vs) ≡ length vs
counted nodes vs = length-map vs (meaning nodes)

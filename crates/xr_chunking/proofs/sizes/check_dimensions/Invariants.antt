use Rattle.std.proofs.Common.{◌≡◌, List, map, drop}
use Rattle.xr_arrays.specs.declared.node.Node.{Node}
use Rattle.xr_types.specs.Results.{all_of}
use Rattle.xr_defs.specs.Arguments.{check_dimension}
use Rattle.xr_values.specs.Meaning.{with_key}
use Rattle.xr_chunking.proofs.sizes.check_dimensions.Given as goal

abbrev pub invariant-loop-argument : goal.invariant-loop-argument
invariant-loop-argument l =
    (nodes : List Node) → all_of (check_dimension l.axes) (map (with_key nodes) (drop l.argument-index l.keyed)) ≡ all_of (check_dimension l.axes) (map (with_key nodes) l.keyed)

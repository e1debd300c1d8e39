use Rattle.std.proofs.Common.{◌≡◌, List, map, drop, filter}
use Rattle.xr_arrays.specs.declared.node.Node.{Node}
use Rattle.xr_types.specs.Results.{all_of}
use Rattle.xr_defs.specs.Arguments.{check_dimension}
use Rattle.xr_operations.specs.Selection.{check_kind, each_located, names_dimension}
use Rattle.xr_values.specs.Meaning.{with_key}
use Rattle.xr_indexing.specs.Choices.{behind}
use Rattle.xr_selecting.specs.Searches.{search_in}
use Rattle.xr_selecting.proofs.positions.positions_given.Given as goal

abbrev pub invariant-kinds : goal.invariant-kinds
invariant-kinds l =
    (nodes : List Node) → all_of (check_kind l.axes) (filter names_dimension (map (with_key nodes) (drop l.argument-index l.keyed))) ≡ all_of (check_kind l.axes) (filter names_dimension (map (with_key nodes) l.keyed))

abbrev pub invariant-names : goal.invariant-names
invariant-names l =
    (nodes : List Node) → all_of (check_dimension l.axes) (filter names_dimension (map (with_key nodes) (drop l.argument-index l.keyed))) ≡ all_of (check_dimension l.axes) (filter names_dimension (map (with_key nodes) l.keyed))

abbrev pub invariant-places : goal.invariant-places
invariant-places l = (nodes : List Node)
    → behind (map (with_key nodes) l.located.items) (each_located (search_in l.by) l.axes (filter names_dimension (map (with_key nodes) (drop l.argument-index l.keyed)))) ≡ each_located (search_in l.by) l.axes (filter names_dimension (map (with_key nodes) l.keyed))

use Rattle.std.proofs.Common.{◌≡◌, List, map, drop, filter}
use Rattle.xr_arrays.specs.declared.node.Node.{Node}
use Rattle.xr_types.specs.Results.{all_of}
use Rattle.xr_defs.specs.Arguments.{check_dimension}
use Rattle.xr_relations.specs.Reindexing.{check_list}
use Rattle.xr_values.specs.Meaning.{with_key}
use Rattle.xr_reindexing.specs.Asked.{names_dimension}
use Rattle.xr_reindexing.proofs.changes.changes_given.Given as goal

abbrev pub invariant-lists : goal.invariant-lists
invariant-lists l = (nodes : List Node) → all_of check_list (filter names_dimension (map (with_key nodes) (drop l.argument-index l.keyed))) ≡ all_of check_list (filter names_dimension (map (with_key nodes) l.keyed))

abbrev pub invariant-names : goal.invariant-names
invariant-names l =
    (nodes : List Node) → all_of (check_dimension l.axes) (filter names_dimension (map (with_key nodes) (drop l.argument-index l.keyed))) ≡ all_of (check_dimension l.axes) (filter names_dimension (map (with_key nodes) l.keyed))

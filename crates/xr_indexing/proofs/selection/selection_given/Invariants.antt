use Rattle.std.proofs.Common.{◌≡◌, List, map, drop, []}
use Rattle.xr_arrays.specs.declared.node.Node.{Node}
use Rattle.xr_types.specs.Results.{all_of}
use Rattle.xr_defs.specs.Arguments.{check_dimension}
use Rattle.xr_defs.specs.Selecting.{check_selector}
use Rattle.xr_operations.specs.Indexing.{selection_from}
use Rattle.xr_values.specs.Meaning.{with_key}
use Rattle.xr_indexing.proofs.selection.selection_given.Given as goal

abbrev pub invariant-kinds : goal.invariant-kinds
invariant-kinds l = (nodes : List Node) → all_of check_selector (map (with_key nodes) (drop l.argument-index l.keyed)) ≡ all_of check_selector (map (with_key nodes) l.keyed)

abbrev pub invariant-names : goal.invariant-names
invariant-names l = (nodes : List Node) → all_of (check_dimension l.axes) (map (with_key nodes) (drop l.argument-index l.keyed)) ≡ all_of (check_dimension l.axes) (map (with_key nodes) l.keyed)

abbrev pub invariant-choices : goal.invariant-choices
invariant-choices l =
    (nodes : List Node) → selection_from l.axes l.selection (map (with_key nodes) (drop l.argument-index l.keyed)) ≡ selection_from l.axes (record { changes = []; gone = [] }) (map (with_key nodes) l.keyed)

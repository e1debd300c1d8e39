-- The values of a list.
use Rattle.std.proofs.Common.{◌≡◌, List, [], ◌∷◌, ◌++◌, map, Result, Ok, Err, sym, ap, ◌∙◌, append_assoc}
use Rattle.std.proofs.lemmas.List.{append-nil}
use Rattle.xr_arrays.specs.declared.node.Node.{Node}
use Rattle.xr_defs.specs.Building.{items}
use Rattle.xr_defs.specs.Meanings as of
use Rattle.xr_defs.specs.Meanings.{Values, NoValue, With, Sequence}
use Rattle.xr_values.specs.declared.value.Value.{Value}
use Rattle.xr_values.specs.Meaning.{all_values, meaning, values}
use Rattle.xr_combination.specs.Arguments.{list_given}

items_from : (ws : Values) (vs : List of.Value) → items (values ws vs) ≡ items ws ++ vs
items_from ws [] = sym (append-nil (items ws))
items_from ws (v ∷ vs) = items_from (With ws v) vs ∙ append_assoc (items ws) (v ∷ []) vs

items_all : (nodes : List Node) (vs : List Value) → items (all_values nodes vs) ≡ map (meaning nodes) vs
unfolding all_values
items_all nodes vs = items_from NoValue (map (meaning nodes) vs)

pub list_told : (nodes : List Node) (v : of.Value) (vs : List Value) → v ≡ Sequence (all_values nodes vs) → list_given v ≡ Ok (map (meaning nodes) vs)
unfolding list_given
list_told nodes v vs is = ap list_given is ∙ ap Ok (items_all nodes vs)

-- The first item of two lists, one behind the other, that passes a test.
use Rattle.std.proofs.Common.{◌≡◌, ◌∙◌, ◌≤◌, ℕ, Bool, List, ◌∷◌, ◌++◌, Option, Some, None, Bor, find, flat_map, get_or, length, map, option_map, ap, sym}
use Rattle.std.specs.Option.{option_or}
use Rattle.std.proofs.lemmas.List.Folds.{find-append}
use Rattle.xr_arrays.specs.declared.node.Node.{Node}
use Rattle.xr_combination.specs.Concat.{set_names}
use Rattle.xr_values.specs.Stands.{dataset_in}
use Rattle.xr_values.specs.declared.dataset.Dataset.{Dataset}
use Rattle.xr_values.specs.declared.variable.Variable.{Variable}
use Rattle.xr_chaining.specs.Sets.{names_in}
use Rattle.xr_chaining.proofs.Firsts.{behind, whole_list}

pub found_here : {X : Type 0} (p : X → Bool) (xs ys : List X) (x : X) → find p xs ≡ Some x → find p (xs ++ ys) ≡ Some x
found_here p xs ys x here = find-append p xs ys ∙ ap (λ o. option_or o (find p ys)) here

found_behind : {X : Type 0} (p : X → Bool) (xs ys : List X) → find p xs ≡ None → find p (xs ++ ys) ≡ find p ys
found_behind p xs ys none = find-append p xs ys ∙ ap (λ o. option_or o (find p ys)) none

-- no name of the first dataset passes it
pub found_later : (nodes : List Node) (p : List ℕ → Bool) (ss : List Dataset) (s : Dataset) (vs : List Variable) (here : Option (Bor (List ℕ))) (later : Option (List ℕ)) → 1 ≤ length ss → s ≡ get_or ss 0 s → vs ≡ s.vars
    → here ≡ None → option_map (λ (n : Bor (List ℕ)). n.now) here ≡ find p (names_in nodes vs)
    → later ≡ find p (flat_map set_names (map (dataset_in nodes) (behind ss))) → later ≡ find p (flat_map set_names (map (dataset_in nodes) ss))
found_later nodes p ss s vs here later some is own none first rest =
    let lacks : find p (names_in nodes s.vars) ≡ None = ap (λ us. find p (names_in nodes us)) (sym own) ∙ sym first ∙ ap (option_map (λ (n : Bor (List ℕ)). n.now)) none in
    rest ∙ sym (found_behind p (names_in nodes s.vars) (flat_map set_names (map (dataset_in nodes) (behind ss))) lacks) ∙ ap (λ us. find p (flat_map set_names (map (dataset_in nodes) us))) (sym (whole_list ss s some is))

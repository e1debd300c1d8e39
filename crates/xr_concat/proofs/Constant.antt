-- Variables without the dimension, which are the same in all datasets.
use Rattle.std.proofs.Common.{◌≡◌, ◌∙◌, ◌||◌, ℕ, Bool, true, false, not, cond, List, map, Result, Ok, Err, sym, ap}
use Rattle.xr_types.specs.Names.{among}
use Rattle.xr_types.specs.Results.{unless}
use Rattle.xr_types.specs.declared.fault.Fault.{Fault}
use Rattle.xr_types.specs.declared.fault.Fault.TheVariants.{Conflict}
use Rattle.xr_arrays.specs.Arrays.{Array}
use Rattle.xr_arrays.specs.declared.node.Node.{Node}
use Rattle.xr_combination.specs.Concat.{check_constant, is_new}
use Rattle.xr_combination.specs.Pieces.{all_same, first_piece, in_first_order}
use Rattle.xr_merging.specs.Members.{piece_in, variables_called}
use Rattle.xr_values.specs.Stands.{dataset_in}
use Rattle.xr_values.specs.declared.dataset.Dataset.{Dataset}
use Rattle.xr_values.specs.declared.variable.Variable.{Variable}
use Rattle.xr_concat.specs.Named.{AreHeldIn}
use Rattle.xr_concat.proofs.Members.{pieces_same}

-- by the tests
abbrev tested : Bool → Bool → Result (Unit {0}) Fault
tested along same = cond (not along) (unless same Conflict) (Ok tt)

module _ (nodes : List Node) (dim name : List ℕ) (ss : List Dataset) (vs : List Variable) (are : vs ≡ variables_called name ss) (held : AreHeldIn nodes ss) where
  abbrev is_along : Bool
  is_along = is_new dim (map (dataset_in nodes) ss) || among (first_piece (map (piece_in nodes) vs)).dims dim

  checked : check_constant dim (map (dataset_in nodes) ss) name ≡ tested is_along (all_same (in_first_order (map (piece_in nodes) vs)))
  unfolding check_constant
  checked = ap (λ ps. tested (is_new dim (map (dataset_in nodes) ss) || among (first_piece ps).dims dim) (all_same (in_first_order ps))) (pieces_same nodes name ss vs are held)

  pub no_constant : is_along ≡ true → check_constant dim (map (dataset_in nodes) ss) name ≡ Ok tt
  no_constant along = checked ∙ ap (λ b. tested b (all_same (in_first_order (map (piece_in nodes) vs)))) along

  module _ (constant : is_along ≡ false) (arrays : List Array) (arrays_are : arrays ≡ in_first_order (map (piece_in nodes) vs)) where
    by_cells : (b : Bool) → all_same arrays ≡ b → check_constant dim (map (dataset_in nodes) ss) name ≡ unless b Conflict
    by_cells b same =
        checked ∙ ap (λ c. tested c (all_same (in_first_order (map (piece_in nodes) vs)))) constant
        ∙ ap (λ c. unless c Conflict) (sym (ap all_same arrays_are) ∙ same)

    pub unequal : all_same arrays ≡ false → check_constant dim (map (dataset_in nodes) ss) name ≡ Err Conflict
    unfolding unless
    unequal differ = by_cells false differ

    pub equal : all_same arrays ≡ true → check_constant dim (map (dataset_in nodes) ss) name ≡ Ok tt
    unfolding unless
    equal same = by_cells true same

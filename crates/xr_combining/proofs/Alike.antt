-- What values are, and lists of them, whatever the plan.
use Rattle.std.proofs.Common.{◌≡◌, ◌&&◌, ◌||◌, ◌==◌, Bool, true, false, not, ℕ, List, [], ◌∷◌, length, map, Result, Ok, Err, refl, ap, ◌∙◌}
use Rattle.std.proofs.lemmas.List.{length-map}
use Rattle.std.specs.List.{list_all}
use Rattle.xr_types.specs.Results.{◌>>=◌, unless}
use Rattle.xr_types.specs.declared.fault.Fault.{Fault}
use Rattle.xr_types.specs.declared.fault.Fault.TheVariants.{BadArgument, WrongKind}
use Rattle.xr_arrays.specs.declared.node.Node.{Node}
use Rattle.xr_defs.specs.Meanings as of
use Rattle.xr_combination.specs.Arguments.{check_alike, check_named, check_sets, is_labelled, is_named}
use Rattle.xr_combination.specs.Pieces.{is_array, is_set}
use Rattle.xr_values.specs.declared.value.Value.{Value}
use Rattle.xr_values.specs.Meaning.{meaning, means}
use Rattle.xr_values.specs.Trees as tree
use Rattle.xr_values.specs.Trees.{Tree, tree as tree_of}
use Rattle.xr_combining.specs.Held.{are_alike, holds_array, holds_labelled, holds_named, holds_set}

array_tree : (nodes : List Node) (t : Tree) → is_array (means nodes t) ≡ is_array (means [] t)
unfolding means
array_tree nodes tree.Absent = refl
array_tree nodes tree.Missing = refl
array_tree nodes (tree.Truth b) = refl
array_tree nodes (tree.Number n) = refl
array_tree nodes (tree.Text t) = refl
array_tree nodes (tree.Sequence ts) = refl
array_tree nodes (tree.Table es) = refl
array_tree nodes (tree.Slice start stop step) = refl
array_tree nodes (tree.Array a) = refl
array_tree nodes (tree.Set s) = refl
array_tree nodes (tree.Times coding ts) = refl
array_tree nodes (tree.GroupedArray a g) = refl
array_tree nodes (tree.GroupedSet s g) = refl

set_tree : (nodes : List Node) (t : Tree) → is_set (means nodes t) ≡ is_set (means [] t)
unfolding means
set_tree nodes tree.Absent = refl
set_tree nodes tree.Missing = refl
set_tree nodes (tree.Truth b) = refl
set_tree nodes (tree.Number n) = refl
set_tree nodes (tree.Text t) = refl
set_tree nodes (tree.Sequence ts) = refl
set_tree nodes (tree.Table es) = refl
set_tree nodes (tree.Slice start stop step) = refl
set_tree nodes (tree.Array a) = refl
set_tree nodes (tree.Set s) = refl
set_tree nodes (tree.Times coding ts) = refl
set_tree nodes (tree.GroupedArray a g) = refl
set_tree nodes (tree.GroupedSet s g) = refl

labelled_tree : (nodes : List Node) (t : Tree) → is_labelled (means nodes t) ≡ is_labelled (means [] t)
unfolding means
labelled_tree nodes tree.Absent = refl
labelled_tree nodes tree.Missing = refl
labelled_tree nodes (tree.Truth b) = refl
labelled_tree nodes (tree.Number n) = refl
labelled_tree nodes (tree.Text t) = refl
labelled_tree nodes (tree.Sequence ts) = refl
labelled_tree nodes (tree.Table es) = refl
labelled_tree nodes (tree.Slice start stop step) = refl
labelled_tree nodes (tree.Array a) = refl
labelled_tree nodes (tree.Set s) = refl
labelled_tree nodes (tree.Times coding ts) = refl
labelled_tree nodes (tree.GroupedArray a g) = refl
labelled_tree nodes (tree.GroupedSet s g) = refl

named_tree : (nodes : List Node) (t : Tree) → is_named (means nodes t) ≡ is_named (means [] t)
unfolding means
named_tree nodes tree.Absent = refl
named_tree nodes tree.Missing = refl
named_tree nodes (tree.Truth b) = refl
named_tree nodes (tree.Number n) = refl
named_tree nodes (tree.Text t) = refl
named_tree nodes (tree.Sequence ts) = refl
named_tree nodes (tree.Table es) = refl
named_tree nodes (tree.Slice start stop step) = refl
named_tree nodes (tree.Array a) = refl
named_tree nodes (tree.Set s) = refl
named_tree nodes (tree.Times coding ts) = refl
named_tree nodes (tree.GroupedArray a g) = refl
named_tree nodes (tree.GroupedSet s g) = refl

-- ---- of all values of a list

all_same : (test : of.Value → Bool) → ((nodes : List Node) (t : Tree) → test (means nodes t) ≡ test (means [] t)) → (nodes : List Node) (vs : List Value) → list_all test (map (meaning nodes) vs) ≡ list_all (λ v. test (meaning [] v)) vs
all_same test same nodes [] = refl
all_same test same nodes (v ∷ vs) = ap (λ b. b && list_all test (map (meaning nodes) vs)) (same nodes (tree_of v)) ∙ ap (λ b. test (meaning [] v) && b) (all_same test same nodes vs)

module _ (nodes : List Node) (vs : List Value) where
  counted : length (map (meaning nodes) vs) ≡ length vs
  counted = length-map vs (meaning nodes)

  pub alike_is : check_alike (map (meaning nodes) vs) ≡ (unless (are_alike vs) WrongKind >>= λ u. unless (not (length vs == 0)) BadArgument)
  unfolding check_alike
  alike_is =
      ap (λ b. unless (b || list_all is_set (map (meaning nodes) vs)) WrongKind >>= λ u. unless (not (length (map (meaning nodes) vs) == 0)) BadArgument) (all_same is_array array_tree nodes vs)
      ∙ ap (λ b. unless (list_all holds_array vs || b) WrongKind >>= λ u. unless (not (length (map (meaning nodes) vs) == 0)) BadArgument) (all_same is_set set_tree nodes vs)
      ∙ ap (λ n. unless (are_alike vs) WrongKind >>= λ u. unless (not (n == 0)) BadArgument) counted

  pub sets_is : check_sets (map (meaning nodes) vs) ≡ (unless (list_all holds_set vs) WrongKind >>= λ u. unless (not (length vs == 0)) BadArgument)
  unfolding check_sets
  sets_is =
      ap (λ b. unless b WrongKind >>= λ u. unless (not (length (map (meaning nodes) vs) == 0)) BadArgument) (all_same is_set set_tree nodes vs)
      ∙ ap (λ n. unless (list_all holds_set vs) WrongKind >>= λ u. unless (not (n == 0)) BadArgument) counted

  pub named_is : check_named (map (meaning nodes) vs) ≡ (unless (list_all holds_labelled vs) WrongKind >>= λ u. unless (not (length vs == 0) && list_all holds_named vs) BadArgument)
  unfolding check_named
  named_is =
      ap (λ b. unless b WrongKind >>= λ u. unless (not (length (map (meaning nodes) vs) == 0) && list_all is_named (map (meaning nodes) vs)) BadArgument) (all_same is_labelled labelled_tree nodes vs)
      ∙ ap (λ b. unless (list_all holds_labelled vs) WrongKind >>= λ u. unless (not (length (map (meaning nodes) vs) == 0) && b) BadArgument) (all_same is_named named_tree nodes vs)
      ∙ ap (λ n. unless (list_all holds_labelled vs) WrongKind >>= λ u. unless (not (n == 0) && list_all holds_named vs) BadArgument) counted

-- What calls on arrays and datasets that values share leave room for.
use Rattle.std.proofs.Common.{◌≡◌, List, [], ◌∷◌, ◌++◌, ap, sym, subst, ◌∙◌}
use Rattle.std.specs.declared.alloc.Global.{Global}
use Rattle.std.specs.declared.rc.Rc.{Rc}
use Rattle.xr_arrays.specs.declared.node.Node.{Node}
use Rattle.xr_defs.specs.Meanings as of
use Rattle.xr_arrays.specs.Added.{AddsAtMost}
use Rattle.xr_defs.specs.Room.{of_array, of_set, portions, room, AddsForAny, Portion}
use Rattle.xr_arguments.proofs.Variants.{is_array, is_set}
use Rattle.xr_values.specs.declared.data_array.DataArray.{DataArray}
use Rattle.xr_values.specs.declared.dataset.Dataset.{Dataset}
use Rattle.xr_values.specs.declared.value.Value.{Value}
use Rattle.xr_values.specs.declared.value.Value.TheVariants as variants
use Rattle.xr_values.specs.Meaning.{meaning}
use Rattle.xr_values.specs.Stands.{array_in, dataset_in}

pub in_one : (old new : List Node) (v r : of.Value) (p q : Portion) → portions v ≡ p ∷ [] → portions r ≡ q ∷ [] → AddsAtMost old new (room (p ∷ q ∷ [])) → AddsAtMost old new (room (portions v ++ portions r))
in_one old new v r p q first second adds = subst (λ ps. AddsAtMost old new (room ps)) (sym (ap (λ ps. ps ++ portions r) first ∙ ap (λ ps. p ∷ ps) second)) adds

module _ (nodes new : List Node) (v r : Value) (q : Portion) (answer : portions (meaning new r) ≡ q ∷ []) where
  pub room_on_array : (a : Rc DataArray Global) (x : DataArray) → v ≡ variants.Array a → x ≡ a.value → AddsAtMost nodes new (room (of_array (array_in nodes x) ∷ q ∷ [])) → AddsAtMost nodes new (room (portions (meaning nodes v) ++ portions (meaning new r)))
  room_on_array a x is same = in_one nodes new (meaning nodes v) (meaning new r) (of_array (array_in nodes x)) q (ap portions (is_array nodes v a is) ∙ ap (λ (y : DataArray). of_array (array_in nodes y) ∷ []) (sym same)) answer

  pub room_on_set : (s : Rc Dataset Global) (x : Dataset) → v ≡ variants.Set s → x ≡ s.value → AddsAtMost nodes new (room (of_set (dataset_in nodes x) ∷ q ∷ [])) → AddsAtMost nodes new (room (portions (meaning nodes v) ++ portions (meaning new r)))
  room_on_set s x is same = in_one nodes new (meaning nodes v) (meaning new r) (of_set (dataset_in nodes x)) q (ap portions (is_set nodes v s is) ∙ ap (λ (y : Dataset). of_set (dataset_in nodes y) ∷ []) (sym same)) answer

pub room_of_written : (old new : List Node) (r : Value) (b : DataArray) → meaning new r ≡ of.Array (array_in new b) → AddsForAny old new (array_in new b) → (p : Portion) → AddsAtMost old new (room (p ∷ portions (meaning new r)))
room_of_written old new r b means adds p = subst (λ ps. AddsAtMost old new (room (p ∷ ps))) (sym (ap portions means)) (adds p)

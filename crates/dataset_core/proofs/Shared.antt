-- Calls on arrays and datasets that values share.
use Rattle.std.proofs.Common.{◌≡◌, List, Result, Ok, Err, ap, sym, ◌∙◌}
use Rattle.std.specs.declared.alloc.Global.{Global}
use Rattle.std.specs.declared.rc.Rc.{Rc}
use Rattle.xr_types.specs.declared.fault.Fault.{Fault}
use Rattle.xr_arrays.specs.declared.node.Node.{Node}
use Rattle.xr_types.specs.declared.fault.CallFault.{CallFault}
use Rattle.xr_types.specs.declared.fault.CallFault.TheVariants.{Refused, Declined, NoMemory}
use Rattle.xr_types.specs.Results.{◌>>=◌, Answers}
use Rattle.xr_values.specs.Answers.{Fails}
use Rattle.xr_defs.specs.Meanings as of
use Rattle.xr_defs.specs.Values as values
use Rattle.xr_runs.specs.Calls.{of_array, of_both, as_dataset}
use Rattle.xr_defs.specs.Parts.{own_name, as_set}
use Rattle.xr_arguments.proofs.Variants.{is_array, is_set}
use Rattle.xr_values.specs.declared.data_array.DataArray.{DataArray}
use Rattle.xr_values.specs.declared.dataset.Dataset.{Dataset}
use Rattle.xr_values.specs.declared.value.Value.{Value}
use Rattle.xr_values.specs.declared.value.Value.TheVariants as variants
use Rattle.xr_values.specs.Meaning.{meaning}
use Rattle.xr_values.specs.Stands.{array_in, dataset_in}

module _ (nodes new : List Node) (v r : Value) where
  module _ (a : Rc DataArray Global) (x : DataArray) (is : v ≡ variants.Array a) (same : x ≡ a.value) where
    pub both_array : (f : values.DataArray → Result values.DataArray Fault) (h : values.Dataset → Result values.Dataset Fault) (b : DataArray)
        → f (array_in nodes x) ≡ Ok (array_in new b) → meaning new r ≡ of.Array (array_in new b) → of_both f h (meaning nodes v) ≡ Ok (meaning new r)
    unfolding of_both
    both_array f h b told means =
        ap (of_both f h) (is_array nodes v a is) ∙ ap (λ (y : DataArray). of_both f h (of.Array (array_in nodes y))) (sym same)
        ∙ ap (λ o. o >>= λ z. Ok (of.Array z)) told ∙ ap Ok (sym means)

    pub on_array : (f : values.DataArray → Result of.Value Fault) → f (array_in nodes x) ≡ Ok (meaning new r) → of_array f (meaning nodes v) ≡ Ok (meaning new r)
    unfolding of_array
    on_array f told = ap (of_array f) (is_array nodes v a is) ∙ ap (λ (y : DataArray). of_array f (of.Array (array_in nodes y))) (sym same) ∙ told

  module _ (s : Rc Dataset Global) (x : Dataset) (is : v ≡ variants.Set s) (same : x ≡ s.value) where
    pub both_set : (f : values.DataArray → Result values.DataArray Fault) (h : values.Dataset → Result values.Dataset Fault) (t : Dataset)
        → h (dataset_in nodes x) ≡ Ok (dataset_in new t) → meaning new r ≡ of.Set (dataset_in new t) → of_both f h (meaning nodes v) ≡ Ok (meaning new r)
    unfolding of_both
    both_set f h t told means =
        ap (of_both f h) (is_set nodes v s is) ∙ ap (λ (y : Dataset). of_both f h (of.Set (dataset_in nodes y))) (sym same)
        ∙ ap (λ o. o >>= λ z. Ok (of.Set z)) told ∙ ap Ok (sym means)

pub array_as_set : (nodes : List Node) (v : Value) (a : Rc DataArray Global) (x : DataArray) → v ≡ variants.Array a → x ≡ a.value
    → as_dataset (meaning nodes v) ≡ (own_name (array_in nodes x) >>= λ name. as_set name (array_in nodes x))
unfolding as_dataset
array_as_set nodes v a x is same =
    ap as_dataset (is_array nodes v a is) ∙ ap (λ (y : DataArray). own_name (array_in nodes y) >>= λ name. as_set name (array_in nodes y)) (sym same)

pub set_as_set : (nodes : List Node) (v : Value) (s : Rc Dataset Global) → v ≡ variants.Set s → as_dataset (meaning nodes v) ≡ Ok (dataset_in nodes s.value)
unfolding as_dataset
set_as_set nodes v s is = ap as_dataset (is_set nodes v s is)

-- a fault of the first step is that of the whole
pub fails_first : {A B C : Type 0} (view : A → B) (e : CallFault) (told : Result B Fault) (k : B → Result C Fault) (whole : Result C Fault) → whole ≡ (told >>= k) → Answers view (Err e) told → Fails e whole
fails_first view (Refused f) told k whole is h = is ∙ ap (λ o. o >>= k) h
fails_first view (Declined n) told k whole is h = absurd h
fails_first view NoMemory told k whole is h = tt

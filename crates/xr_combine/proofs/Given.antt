-- The datasets that the call is given in a list, and a fill that means the same in every plan.
use Rattle.std.proofs.Common.{◌≡◌, ◌∙◌, List, [], map, Option, Some, None, Result, Ok, Err, Bor, refl, sym, ap}
use Rattle.std.specs.Prelude.{IfOk, option_map}
use Rattle.xr_types.specs.Results.{◌>>=◌, Answers}
use Rattle.xr_types.specs.declared.fault.CallFault.{CallFault}
use Rattle.xr_types.specs.declared.fault.Fault.{Fault}
use Rattle.xr_arrays.specs.declared.node.Node.{Node}
use Rattle.xr_combination.specs.Arguments.{check_sets, sets_given}
use Rattle.xr_combining.proofs.Listed.{list_told}
use Rattle.xr_defs.specs.Meanings as of
use Rattle.xr_relations.specs.Aligning.{check_literal, fill_given}
use Rattle.xr_values.specs.Meaning.{all_values, layer, meaning}
use Rattle.xr_values.specs.declared.value.Value.{Value}
use Rattle.xr_values.specs.declared.value.Value.TheOpen as held
use Rattle.xr_values.specs.declared.value.Value.TheOpen.{Value-F}
use Rattle.xr_values.specs.declared.value.Value.TheViews.{out-Value}
use Rattle.xr_values.proofs.Meaning.{meaning_out}
use Rattle.xr_combine.specs.Sets.{IsFixed}

-- a list that is taken is the one that was checked
taken : (r : Result (Unit {0}) Fault) (vs ws : List of.Value) → (r >>= λ u. Ok vs) ≡ Ok ws → (r >>= λ u. Ok vs) ≡ Ok vs
taken (Ok u) vs ws is = refl
taken (Err e) vs ws is = absurd cc

pub sets_listed : (nodes : List Node) (v : of.Value) (vs : List Value) (ws : List of.Value) → v ≡ of.Sequence (all_values nodes vs) → sets_given v ≡ Ok ws → sets_given v ≡ Ok (map (meaning nodes) vs)
unfolding sets_given
sets_listed nodes v vs ws is checked =
    let told : sets_given v ≡ (check_sets (map (meaning nodes) vs) >>= λ u. Ok (map (meaning nodes) vs)) = ap (λ r. r >>= λ us. check_sets us >>= λ u. Ok us) (list_told nodes v vs is) in
    told ∙ taken (check_sets (map (meaning nodes) vs)) (map (meaning nodes) vs) ws (sym told ∙ checked)

-- ---- the fill

-- numbers, truth values and missing cells are what they are
literal_layer : (x : Value-F Value) → check_literal (layer [] x) ≡ Ok tt → (nodes : List Node) → layer nodes x ≡ layer [] x
unfolding check_literal
literal_layer held.Absent is nodes = refl
literal_layer held.Missing is nodes = refl
literal_layer (held.Truth b) is nodes = refl
literal_layer (held.Number n) is nodes = refl
literal_layer (held.Text t) is nodes = refl
literal_layer (held.List vs) is nodes = absurd cc
literal_layer (held.Table es) is nodes = absurd cc
literal_layer (held.Slice start stop step) is nodes = refl
literal_layer (held.Array a) is nodes = absurd cc
literal_layer (held.Set s) is nodes = absurd cc
literal_layer (held.Times coding ts) is nodes = refl
literal_layer (held.GroupedArray a g) is nodes = absurd cc
literal_layer (held.GroupedSet s g) is nodes = absurd cc

literal_means : (v : Value) → check_literal (meaning [] v) ≡ Ok tt → (nodes : List Node) → meaning nodes v ≡ meaning [] v
literal_means v is nodes = meaning_out nodes v ∙ literal_layer (out-Value v) (ap check_literal (sym (meaning_out [] v)) ∙ is) nodes ∙ sym (meaning_out [] v)

passed : (r : Result (Unit {0}) Fault) (v : of.Value) (o : Option of.Value) → (r >>= λ u. Ok (Some v)) ≡ Ok o → (r ≡ Ok tt) × (o ≡ Some v)
passed (Ok u) v o is = (refl, cc)
passed (Err e) v o is = absurd cc

none_is : (o : Option (Bor Value)) → ◌≡◌ {A = Result (Option of.Value) Fault} (Ok None) (Ok (option_map (λ (v : Bor Value). meaning [] v.now) o)) → IsFixed o
none_is None is = record { means = λ nodes others. refl }
none_is (Some v) is = absurd cc

some_is : (o : Option (Bor Value)) (v : Bor Value) → check_literal (meaning [] v.now) ≡ Ok tt → ((nodes : List Node) → option_map (λ (w : Bor Value). meaning nodes w.now) o ≡ Some (meaning nodes v.now)) → IsFixed o
some_is o v literal are = record { means = λ nodes others. are nodes ∙ ap Some (literal_means v.now literal nodes ∙ sym (literal_means v.now literal others)) ∙ sym (are others) }

-- a fill that is taken means the same in every plan
pub fill_fixed : (value : Option (Bor Value)) (r : Result (Option (Bor Value)) CallFault)
    → ((nodes : List Node) → Answers (option_map (λ (v : Bor Value). meaning nodes v.now)) r (fill_given (option_map (λ (v : Bor Value). meaning nodes v.now) value))) → IfOk r IsFixed
unfolding fill_given
fill_fixed value (Err e) told = tt
fill_fixed None (Ok o) told = none_is o (told [])
fill_fixed (Some v) (Ok o) told =
    let parts : (nodes : List Node) → (check_literal (meaning nodes v.now) ≡ Ok tt) × (option_map (λ (w : Bor Value). meaning nodes w.now) o ≡ Some (meaning nodes v.now)) =
    λ nodes. passed (check_literal (meaning nodes v.now)) (meaning nodes v.now) (option_map (λ (w : Bor Value). meaning nodes w.now) o) (told nodes) in
    some_is o v (parts []).0 (λ nodes. (parts nodes).1)

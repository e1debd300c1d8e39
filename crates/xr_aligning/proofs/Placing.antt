-- Values over joined axes, added to a plan one after the other.
use Rattle.xr_aligning.proofs.Common.{All, All-append, All-cons, All-head, All-nil, All-tail, AllByRecursion, ArePlaced, Coming, Grows, IsLabelledIn, IsReady, IsValueIn, Labelled, List, Node, Option, [], ap, append-nil, append_assoc, array_kept, come, dataset_kept, fitted_by, grows_by_none, grows_on, labelled_in, map, map-append, meaning, meaning_kept, refl, stays_array, stays_dataset, stays_value, subst, sym, ℤ, ◌++◌, ◌∙◌, ◌∷◌, ◌≡◌}
use Rattle.xr_defs.specs.Meanings as of
use Rattle.xr_values.specs.declared.value.Value.{Value}
use Rattle.xr_aligning.specs.declared.labelled.Labelled.TheVariants as labelled

module _ (old new : List Node) (grows : Grows old new) where
  stays_labelled : (l : Labelled) → IsLabelledIn old l → IsLabelledIn new l
  stays_labelled (labelled.Array a) is = stays_array old new a.now grows is
  stays_labelled (labelled.Set s) is = stays_dataset old new s.now grows is

  same_labelled : (l : Labelled) → IsLabelledIn old l → labelled_in new l ≡ labelled_in old l
  same_labelled (labelled.Array a) is = ap of.Array (array_kept old new a.now grows is)
  same_labelled (labelled.Set s) is = ap of.Set (dataset_kept old new s.now grows is)

  now_ready : (m : Coming) → IsReady old m → IsReady new m
  now_ready m ready = record { comes = ready.comes; here = stays_labelled m.on ready.here; loose = ready.loose; keep = ready.keep }

  same_come : (fill : Option ℤ) (m : Coming) → IsReady old m → come new fill m ≡ come old fill m
  same_come fill m ready = ap (fitted_by m.joined fill) (same_labelled m.on ready.here)

  values_kept : (vs : List Value) → All (IsValueIn old) vs → map (meaning new) vs ≡ map (meaning old) vs
  values_kept [] inside = refl
  values_kept (v ∷ vs) inside = (λ i. meaning_kept old new v grows (All-head (IsValueIn old) v vs inside) i ∷ values_kept vs (All-tail (IsValueIn old) v vs inside) i)

  values_stay : (vs : List Value) → All (IsValueIn old) vs → All (IsValueIn new) vs
  values_stay [] inside = All-nil (IsValueIn new)
  values_stay (v ∷ vs) inside = All-cons (IsValueIn new) v vs (stays_value old new v grows (All-head (IsValueIn old) v vs inside)) (values_stay vs (All-tail (IsValueIn old) v vs inside))

none_placed : (nodes : List Node) (fill : Option ℤ) (out : List Value) → ArePlaced nodes nodes fill [] out out
none_placed nodes fill out = record { more = []; are = sym (append-nil out); means = refl; inside = All-nil (IsValueIn nodes) }

-- one more behind those that are placed
one_placed : (old mid new : List Node) (fill : Option ℤ) (ms : List Coming) (m : Coming) (out vs next : List Value) (v : Value) → Grows old mid → Grows mid new → IsReady old m → meaning new v ≡ come mid fill m → IsValueIn new v → next ≡ vs ++ v ∷ []
    → ArePlaced old mid fill ms out vs → ArePlaced old new fill (ms ++ m ∷ []) out next
one_placed old mid new fill ms m out vs next v first second ready means inside is so_far = record {
  more = so_far.more ++ v ∷ [];
  are = is ∙ ap (λ us. us ++ v ∷ []) so_far.are ∙ append_assoc out so_far.more (v ∷ []);
  means = map-append (meaning new) so_far.more (v ∷ []) ∙ (λ i. (values_kept mid new second so_far.more so_far.inside ∙ so_far.means) i ++ (means ∙ same_come old mid first fill m ready) i ∷ []) ∙ sym (map-append (come old fill) ms (m ∷ []));
  inside = All-append (IsValueIn new) so_far.more (v ∷ []) (values_stay mid new second so_far.more so_far.inside) (All-cons (IsValueIn new) v [] inside (All-nil (IsValueIn new)));
}

-- ---- so far

module _ (old : List Node) (fill : Option ℤ) (out : List Value) where
  -- the values of the first so many are placed, and those that are still to come are ready
  pub record IsOn (nodes : List Node) (before rest : List Coming) (vs : List Value) : Type 0 where
    pub placed : ArePlaced old nodes fill before out vs
    pub ready : AllByRecursion (IsReady old) rest
    pub grows : Grows old nodes

  pub none_yet : (ms : List Coming) → AllByRecursion (IsReady old) ms → IsOn old [] ms out
  none_yet ms ready = record { placed = none_placed old fill out; ready = ready; grows = grows_by_none old }

  module _ (nodes : List Node) (before rest after : List Coming) (vs : List Value) (m : Coming) (split : rest ≡ m ∷ after) (on : IsOn nodes before rest vs) where
    here : AllByRecursion (IsReady old) (m ∷ after)
    here = subst (AllByRecursion (IsReady old)) split on.ready

    pub ready_now : IsReady nodes m
    ready_now = now_ready old nodes on.grows m here.0

    pub next : (new : List Node) (upto : List Coming) (v : Value) (ws : List Value) → upto ≡ before ++ m ∷ [] → Grows nodes new → meaning new v ≡ come nodes fill m → IsValueIn new v → ws ≡ vs ++ v ∷ [] → IsOn new upto after ws
    next new upto v ws is_upto g means inside is = record {
      placed = subst (λ ms. ArePlaced old new fill ms out ws) (sym is_upto) (one_placed old nodes new fill before m out vs ws v on.grows g here.0 means inside is on.placed);
      ready = here.1;
      grows = grows_on old nodes new on.grows g;
    }

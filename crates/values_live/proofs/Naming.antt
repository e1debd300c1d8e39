-- Names stand for the same where all that they reach is live.
use Rattle.std.proofs.Common.{◌≡◌, ℕ, Bool, List, [], ◌∷◌, ◌++◌, length, map, All, Option, Some, None, refl, ap, subst}
use Rattle.std.proofs.lemmas.List.Elements.{All-nil, All-cons, All-append, All-map}
use Rattle.std.proofs.lemmas.Map.Entries.{All-lookup}
use Rattle.std.specs.Prelude.{option_map, IfSome, String}
use Rattle.std.specs.Borrow.{Bor}
use Rattle.std.specs.Map.Iter.{deref_pair}
use Rattle.std.specs.BTreeMap.{BTreeMap, get_by_text}
use Rattle.std.specs.declared.alloc.Global.{Global}
use Rattle.xr_arrays.specs.declared.node.Node.{Node}
use Rattle.plan_live.specs.Live.{IsLive, Agrees}
use Rattle.xr_values.specs.declared.value.Value.{Value}
use Rattle.xr_values.specs.Meaning.{meaning, IsValueIn}
use Rattle.values_live.specs.Marked.{IsLiveAmong, AreValuesIn, StandForTheSame}
use Rattle.values_live.proofs.Agreeing.{meaning_same, value_stays}
use Rattle.values_live.proofs.Marking.{stays_live}

abbrev pub AreShownLive : ℕ → List Bool → List (Bor (String Global) × Bor Value) → Type 0
AreShownLive count live xs = All (λ (x : Bor (String Global) × Bor Value). IsLiveAmong count live x.1.now) xs

-- one more value of a map
pub shown_more : (count : ℕ) (old new : List Bool) (xs : List (Bor (String Global) × Bor Value)) (x : Bor (String Global) × Bor Value) → ((k : ℕ) → IsLive old k → IsLive new k) → IsLiveAmong count new x.1.now
    → AreShownLive count old xs → AreShownLive count new (xs ++ x ∷ [])
shown_more count old new xs x stay here so_far =
    let P : Bor (String Global) × Bor Value → Type 0 = λ y. IsLiveAmong count new y.1.now in
    All-append P xs (x ∷ []) (λ k d lt nodes long inside. stays_live old new _ stay (so_far k d lt nodes long inside)) (All-cons P x [] here (All-nil P))

-- all values of a map
pub shown_all : (count : ℕ) (live : List Bool) (values : BTreeMap (String Global) Value) (xs : List (Bor (String Global) × Bor Value)) → map deref_pair xs ≡ values.entries → AreShownLive count live xs → (name : List ℕ) → IfSome (get_by_text values name) (IsLiveAmong count live)
shown_all count live values xs all shown name =
    All-lookup (IsLiveAmong count live) _ values.entries (subst (All (λ (e : String Global × Value). IsLiveAmong count live e.1)) all (All-map (λ (e : String Global × Value). IsLiveAmong count live e.1) deref_pair xs shown))

module _ (count : ℕ) (live : List Bool) (old new : List Node) (long : length old ≡ count) (agrees : Agrees live old new) where
  one_same : (v : Option Value) → IfSome v (IsLiveAmong count live) → IfSome v (IsValueIn old) → option_map (meaning new) v ≡ option_map (meaning old) v
  one_same None lives inside = refl
  one_same (Some v) lives inside = ap Some (meaning_same live old new agrees v (lives old long inside) inside)

  one_stays : (v : Option Value) → IfSome v (IsLiveAmong count live) → IfSome v (IsValueIn old) → IfSome v (IsValueIn new)
  one_stays None lives inside = inside
  one_stays (Some v) lives inside = value_stays live old new agrees v (lives old long inside) inside

  module _ (values : BTreeMap (String Global) Value) (lives : (name : List ℕ) → IfSome (get_by_text values name) (IsLiveAmong count live)) (inside : AreValuesIn old values) where
    pub stand_same : StandForTheSame old new values
    stand_same name = one_same (get_by_text values name) (lives name) (inside name)

    pub stay_values : AreValuesIn new values
    stay_values name = one_stays (get_by_text values name) (lives name) (inside name)

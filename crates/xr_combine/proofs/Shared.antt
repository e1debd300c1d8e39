-- Datasets as values.
use Rattle.std.proofs.Common.{◌≡◌, ◌∙◌, ◌&&◌, Bool, true, List, [], ◌∷◌, map, Option, Ok, refl, sym, ap, subst, ℕ}
use Rattle.std.specs.List.{list_all}
use Rattle.xr_types.specs.Results.{◌>>=◌}
use Rattle.xr_types.specs.declared.fault.CallFault.{CallFault}
use Rattle.xr_types.specs.declared.operation.How.{How}
use Rattle.xr_combination.specs.Combine.{concat_sets}
use Rattle.xr_combination.specs.Concat.{concat_of}
use Rattle.xr_combination.specs.Arguments.{is_named}
use Rattle.xr_combination.specs.Pieces.{as_dataset}
use Rattle.xr_combining.specs.Held.{holds_named}
use Rattle.xr_defs.specs.Meanings as meant
use Rattle.xr_defs.specs.Values as of
use Rattle.xr_joint.proofs.Failing.{fails_on}
use Rattle.xr_values.specs.Answers.{Fails}
use Rattle.xr_values.specs.Meaning.{meaning}
use Rattle.xr_values.specs.declared.value.Value.{Value}

-- ---- what holds of each dataset holds of each value

module _ (test : meant.Value → Bool) (holds : (s : of.Dataset) → test (meant.Set s) ≡ true) where
  all_test : (vs : List meant.Value) (ss : List of.Dataset) → vs ≡ map meant.Set ss → list_all test vs ≡ true
  all_test [] ss is = refl
  all_test (v ∷ vs) [] is = absurd cc
  all_test (v ∷ vs) (s ∷ ss) is =
      let one : v ≡ meant.Set s = cc in
      let rest : vs ≡ map meant.Set ss = cc in
      ap (λ w. test w && list_all test vs) one ∙ ap (λ b. b && list_all test vs) (holds s) ∙ all_test vs ss rest

  all_held : (vs : List Value) → list_all test (map (meaning []) vs) ≡ list_all (λ v. test (meaning [] v)) vs
  all_held [] = refl
  all_held (v ∷ vs) = ap (λ b. test (meaning [] v) && b) (all_held vs)

  pub held_test : (vs : List Value) (ss : List of.Dataset) → map (meaning []) vs ≡ map meant.Set ss → list_all (λ v. test (meaning [] v)) vs ≡ true
  held_test vs ss are = sym (all_held vs) ∙ all_test (map (meaning []) vs) ss are

pub are_named : (vs : List Value) (ss : List of.Dataset) → map (meaning []) vs ≡ map meant.Set ss → list_all holds_named vs ≡ true
are_named = held_test is_named (λ s. refl)

-- ---- one after the other

module _ (j : How) (fill : Option meant.Value) (dim : List ℕ) (ss : List of.Dataset) (vs : List meant.Value) (are : vs ≡ map meant.Set ss) where
  told : concat_sets j fill dim ss ≡ (concat_of dim j fill vs >>= λ v. Ok (as_dataset v))
  unfolding concat_sets
  told = ap (λ us. concat_of dim j fill us >>= λ v. Ok (as_dataset v)) (sym are)

  pub concat_told : (v : meant.Value) → concat_of dim j fill vs ≡ Ok v → concat_sets j fill dim ss ≡ Ok (as_dataset v)
  concat_told v is = told ∙ ap (λ r. r >>= λ w. Ok (as_dataset w)) is

  pub concat_fails : (e : CallFault) → Fails e (concat_of dim j fill vs) → Fails e (concat_sets j fill dim ss)
  concat_fails e fails = subst (Fails e) (sym told) (fails_on e (concat_of dim j fill vs) (λ v. Ok (as_dataset v)) fails)

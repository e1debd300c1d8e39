-- What is before a label stays so along ascending labels.
use Rattle.std.proofs.Common.{◌≡◌, ℕ, ◌<◌, ◌≤◌, ◌+◌, Bool, true, false, not, List, length, refl, sym, subst, ◌-◌, ◌∙◌, ap, arith, inl, inr}
use Rattle.std.proofs.lemmas.Bool.{cases_eq}
use Rattle.std.proofs.lemmas.Bool.Decides.{nat_tests}
use Rattle.xr_types.specs.declared.axis.Label.{Label}
use Rattle.xr_arrays.specs.Labels.{at_most, below, same}
use Rattle.xr_arrays.proofs.LabelLaws.{below_is, at_most-trans}
use Rattle.label_index.specs.declared.rank.Ranks.{Ranks}
use Rattle.label_index.specs.Ranks.{IsRanked, ranked, stands_before}

is_true : (b : Bool) → (b ≡ false → true ≡ false) → b ≡ true
is_true true h = refl
is_true false h = sym (h refl)

is_false : (b : Bool) → (b ≡ true → true ≡ false) → b ≡ false
is_false true h = h refl
is_false false h = refl

pub before_down : (past : Bool) (x y label : Label) → at_most x y ≡ true → stands_before past y label ≡ true → stands_before past x label ≡ true
before_down true x y label up h = at_most-trans x y label up h
before_down false x y label up h =
    let high : not (at_most label y) ≡ true = sym (below_is y label) ∙ h in
    below_is x label ∙ ap not (is_false (at_most label x) (λ e. let f : at_most label y ≡ true = at_most-trans label x y e up in grind (arith, nat_tests)))

pub before_up : (past : Bool) (x y label : Label) → at_most x y ≡ true → stands_before past x label ≡ false → stands_before past y label ≡ false
before_up past x y label up h = is_false (stands_before past y label) (λ e. sym (before_down past x y label up e) ∙ h)

-- a step of the search
pub below_step : (xs : List Label) (ranks : Ranks) (r : IsRanked xs ranks) (past : Bool) (label : Label) (m : ℕ) → m < length xs → stands_before past (ranked xs ranks m) label ≡ true → (k : ℕ) → k < m + 1 → stands_before past (ranked xs ranks k) label ≡ true
below_step xs ranks r past label m within h k small = before_down past (ranked xs ranks k) (ranked xs ranks m) label (r.ascends k m (omega arith) within) h

pub above_step : (xs : List Label) (ranks : Ranks) (r : IsRanked xs ranks) (past : Bool) (label : Label) (m : ℕ) → m < length xs → stands_before past (ranked xs ranks m) label ≡ false → (k : ℕ) → m ≤ k → k < length xs → stands_before past (ranked xs ranks k) label ≡ false
above_step xs ranks r past label m within h k from to = before_up past (ranked xs ranks m) (ranked xs ranks k) label (r.ascends m k from to) h

-- one more pair of neighbours
pub pairs_more : (test : ℕ → ℕ → Bool) (at : ℕ) → ((k j : ℕ) → k + 1 ≡ j → j < at → test k j ≡ true) → test (at - 1) at ≡ true → (k j : ℕ) → k + 1 ≡ j → j < at + 1 → test k j ≡ true
pairs_more test at below here k j e s = elim (cases_eq j at) [
  | inl same ↦ let before : at - 1 ≡ k = omega arith in subst (λ i. test k i ≡ true) (sym same) (subst (λ i. test i at ≡ true) before here)
  | inr other ↦ below k j e (omega arith)
]

pub pairs_less : (test : ℕ → ℕ → Bool) (at : ℕ) → ((k j : ℕ) → k + 1 ≡ j → j < at → test k j ≡ false) → test (at - 1) at ≡ false → (k j : ℕ) → k + 1 ≡ j → j < at + 1 → test k j ≡ false
pairs_less test at below here k j e s = elim (cases_eq j at) [
  | inl same ↦ let before : at - 1 ≡ k = omega arith in subst (λ i. test k i ≡ false) (sym same) (subst (λ i. test i at ≡ false) before here)
  | inr other ↦ below k j e (omega arith)
]

-- What the search among ranks says of the positions that hold a label.
use Rattle.std.proofs.Common.{◌≡◌, ℕ, ◌<◌, ◌≤◌, ◌+◌, Bool, true, false, not, ◌&&◌, nat_lt, List, [], ◌∷◌, length, refl, sym, subst, ◌∙◌, ap, arith, inl, inr, Ok, Err}
use Rattle.std.proofs.lemmas.Bool.{cases_eq, cases_lt}
use Rattle.std.proofs.lemmas.Bool.Decides.{nat_tests}
use Rattle.xr_types.specs.declared.axis.Label.{Label}
use Rattle.xr_types.specs.declared.fault.Fault.TheVariants.{NotUnique, NoSuchLabel}
use Rattle.xr_arrays.specs.Labels.{label_at, at_most, below, same, positions, place, sole, repeats}
use Rattle.xr_arrays.proofs.LabelLaws.{below_is, same_is, at_most-trans}
use Rattle.xr_arrays.proofs.LabelPlaces.{positions_none, positions_one, positions_two, repeats_none, repeats_two}
use Rattle.label_index.specs.declared.rank.Ranks.{Ranks}
use Rattle.label_index.specs.Ranks.{position, IsRanked, ranked}

pub is_true : (b : Bool) → (b ≡ false → true ≡ false) → b ≡ true
is_true true h = refl
is_true false h = sym (h refl)

pub is_false : (b : Bool) → (b ≡ true → true ≡ false) → b ≡ false
is_false true h = h refl
is_false false h = refl

and_no : (b : Bool) → (b && false) ≡ false
and_no true = refl
and_no false = refl

-- a test of each ranked label is one of each label
pub each_ranked : (xs : List Label) (ranks : Ranks) (r : IsRanked xs ranks) (test : Label → Bool) (b : Bool) → ((k : ℕ) → k < length xs → test (ranked xs ranks k) ≡ b) → (p : ℕ) → p < length xs → test (label_at xs p) ≡ b
each_ranked xs ranks r test b h p s =
    let k = r.onto p s in
    subst (λ q. test (label_at xs q) ≡ b) k.2 (h k.0 k.1)

-- the same but for one rank
pub others_ranked : (xs : List Label) (ranks : Ranks) (r : IsRanked xs ranks) (test : Label → Bool) (m : ℕ) → m < length xs → ((k : ℕ) → k < m → test (ranked xs ranks k) ≡ false) → ((k : ℕ) → m < k → k < length xs → test (ranked xs ranks k) ≡ false) → (p : ℕ) → p < length xs → (p ≡ position ranks (length xs) m → ⊥) → test (label_at xs p) ≡ false
others_ranked xs ranks r test m within before behind p s other =
    let k = r.onto p s in
    subst (λ q. test (label_at xs q) ≡ false) k.2 (elim (cases_eq k.0 m) [
      | inl e ↦ absurd (other (sym k.2 ∙ ap (position ranks (length xs)) e))
      | inr d ↦ elim (cases_lt k.0 m) [ inl lower ↦ before k.0 lower | inr higher ↦ behind k.0 (omega arith) k.1 ]
    ])

-- the one position that passes is that of a rank
pub ranked_one : (xs : List Label) (ranks : Ranks) (r : IsRanked xs ranks) (test : Label → Bool) (m : ℕ) → m < length xs → test (ranked xs ranks m) ≡ true → ((k : ℕ) → k < m → test (ranked xs ranks k) ≡ false) → ((k : ℕ) → m < k → k < length xs → test (ranked xs ranks k) ≡ false) → positions test xs ≡ position ranks (length xs) m ∷ []
ranked_one xs ranks r test m within here before behind =
    positions_one test xs (position ranks (length xs) m) (r.inside m within) here
    (λ q s. others_ranked xs ranks r test m within before behind q (let i : position ranks (length xs) m < length xs = r.inside m within in omega arith) (λ e. omega arith))
    (λ q s t. others_ranked xs ranks r test m within before behind q t (λ e. omega arith))

-- not below: the label is at most it
pub not_below : (x label : Label) → below x label ≡ false → at_most label x ≡ true
not_below x label h = is_true (at_most label x) (λ e. let f : not (at_most label x) ≡ false = sym (below_is x label) ∙ h in sym (ap not e) ∙ f)

pub is_below : (x label : Label) → below x label ≡ true → at_most label x ≡ false
is_below x label h = is_false (at_most label x) (λ e. let f : not (at_most label x) ≡ true = sym (below_is x label) ∙ h in sym f ∙ ap not e)

pub not_same : (x label : Label) → at_most label x ≡ false → same x label ≡ false
not_same x label h = same_is x label ∙ ap (λ b. at_most x label && b) h ∙ and_no (at_most x label)

pub same_both : (x label : Label) → at_most x label ≡ true → at_most label x ≡ true → same x label ≡ true
same_both x label g h = same_is x label ∙ ap (λ b. b && at_most label x) g ∙ h

pub same_most : (x label : Label) → same x label ≡ true → at_most x label ≡ true
same_most x label h = let e : (at_most x label && at_most label x) ≡ true = sym (same_is x label) ∙ h in grind (arith, nat_tests)

pub same_least : (x label : Label) → same x label ≡ true → at_most label x ≡ true
same_least x label h = let e : (at_most x label && at_most label x) ≡ true = sym (same_is x label) ∙ h in grind (arith, nat_tests)

-- the labels from a rank on that hold a label begin at that rank, where those from it on aren't below the label
stops : (xs : List Label) (ranks : Ranks) (r : IsRanked xs ranks) (label : Label) (m : ℕ) → ((k : ℕ) → m ≤ k → k < length xs → below (ranked xs ranks k) label ≡ false) → (nat_lt m (length xs) && same (ranked xs ranks m) label) ≡ false → (k : ℕ) → m ≤ k → k < length xs → same (ranked xs ranks k) label ≡ false
stops xs ranks r label m behind h k from to = is_false (same (ranked xs ranks k) label) (λ e.
    let within : m < length xs = omega arith in
    let up : at_most (ranked xs ranks m) (ranked xs ranks k) ≡ true = r.ascends m k from to in
    let high : at_most (ranked xs ranks m) label ≡ true = at_most-trans (ranked xs ranks m) (ranked xs ranks k) label up (same_most (ranked xs ranks k) label e) in
    let low : at_most label (ranked xs ranks m) ≡ true = not_below (ranked xs ranks m) label (behind m (omega arith) within) in
    let holds : same (ranked xs ranks m) label ≡ true = same_both (ranked xs ranks m) label high low in
    let test : nat_lt m (length xs) ≡ true = grind (arith, nat_tests) in
    sym holds ∙ (sym (ap (λ b. b && same (ranked xs ranks m) label) test) ∙ h))

pub place_none : (xs : List Label) (ranks : Ranks) (r : IsRanked xs ranks) (label : Label) (m : ℕ) → ((k : ℕ) → k < m → below (ranked xs ranks k) label ≡ true) → ((k : ℕ) → m ≤ k → k < length xs → below (ranked xs ranks k) label ≡ false) → (nat_lt m (length xs) && same (ranked xs ranks m) label) ≡ false → place xs label ≡ Err NoSuchLabel
place_none xs ranks r label m before behind h = ap sole (positions_none (λ x. same x label) xs (each_ranked xs ranks r (λ x. same x label) false (λ k s.
    elim (cases_lt k m) [
      | inl lower ↦ not_same (ranked xs ranks k) label (is_below (ranked xs ranks k) label (before k lower))
      | inr higher ↦ stops xs ranks r label m behind h k higher s
    ])))

pub place_two : (xs : List Label) (ranks : Ranks) (r : IsRanked xs ranks) (label : Label) (m : ℕ) → m + 1 < length xs → same (ranked xs ranks m) label ≡ true → same (ranked xs ranks (m + 1)) label ≡ true → place xs label ≡ Err NotUnique
place_two xs ranks r label m within first second =
    let p : ℕ = position ranks (length xs) m in
    let q : ℕ = position ranks (length xs) (m + 1) in
    let p_in : p < length xs = r.inside m (omega arith) in
    let q_in : q < length xs = r.inside (m + 1) within in
    elim (cases_lt p q) [
      | inl lower ↦ positions_two (λ x. same x label) xs p q lower q_in first second
      | inr higher ↦ elim (cases_eq p q) [
        | inl e ↦ absurd (r.apart m (m + 1) (omega arith) within e)
        | inr d ↦ positions_two (λ x. same x label) xs q p (omega arith) p_in second first
      ]
    ]

pub place_one : (xs : List Label) (ranks : Ranks) (r : IsRanked xs ranks) (label : Label) (m : ℕ) → m < length xs → ((k : ℕ) → k < m → below (ranked xs ranks k) label ≡ true) → ((k : ℕ) → m ≤ k → k < length xs → below (ranked xs ranks k) label ≡ false) → same (ranked xs ranks m) label ≡ true → (nat_lt (m + 1) (length xs) && same (ranked xs ranks (m + 1)) label) ≡ false → place xs label ≡ Ok (position ranks (length xs) m)
place_one xs ranks r label m within before behind here next = ap sole (ranked_one xs ranks r (λ x. same x label) m within here
    (λ k s. not_same (ranked xs ranks k) label (is_below (ranked xs ranks k) label (before k s)))
    (λ k s t. stops xs ranks r label (m + 1) (λ j u v. behind j (omega arith) v) next k (omega arith) t))

-- ---- labels that stand twice

same_back : (x y : Label) → same x y ≡ true → same y x ≡ true
same_back x y h = same_both y x (same_least x y h) (same_most x y h)

pub repeats_ranked : (xs : List Label) (ranks : Ranks) (r : IsRanked xs ranks) (j k : ℕ) → j < k → k < length xs → same (ranked xs ranks j) (ranked xs ranks k) ≡ true → repeats xs ≡ true
repeats_ranked xs ranks r j k up within h =
    let p : ℕ = position ranks (length xs) j in
    let q : ℕ = position ranks (length xs) k in
    let p_in : p < length xs = r.inside j (omega arith) in
    let q_in : q < length xs = r.inside k within in
    elim (cases_lt p q) [
      | inl lower ↦ repeats_two xs p q lower q_in h
      | inr higher ↦ elim (cases_eq p q) [
        | inl e ↦ absurd (r.apart j k up within e)
        | inr d ↦ repeats_two xs q p (omega arith) p_in (same_back (label_at xs p) (label_at xs q) h)
      ]
    ]

-- neighbours that differ, differ at any distance
pub differ_far : (xs : List Label) (ranks : Ranks) (r : IsRanked xs ranks) → ((k j : ℕ) → k + 1 ≡ j → j < length xs → same (ranked xs ranks k) (ranked xs ranks j) ≡ false) → (j k : ℕ) → j < k → k < length xs → at_most (ranked xs ranks k) (ranked xs ranks j) ≡ false
differ_far xs ranks r differ j k up within = is_false (at_most (ranked xs ranks k) (ranked xs ranks j)) (λ e.
    let back : at_most (ranked xs ranks (j + 1)) (ranked xs ranks j) ≡ true = at_most-trans (ranked xs ranks (j + 1)) (ranked xs ranks k) (ranked xs ranks j) (r.ascends (j + 1) k (omega arith) within) e in
    sym (same_both (ranked xs ranks j) (ranked xs ranks (j + 1)) (r.ascends j (j + 1) (omega arith) (omega arith)) back) ∙ differ j (j + 1) refl (omega arith))

pub distinct_ranked : (xs : List Label) (ranks : Ranks) (r : IsRanked xs ranks) → ((k j : ℕ) → k + 1 ≡ j → j < length xs → same (ranked xs ranks k) (ranked xs ranks j) ≡ false) → repeats xs ≡ false
distinct_ranked xs ranks r differ = repeats_none xs (λ p q up s.
    let j = r.onto p (omega arith) in
    let k = r.onto q s in
    let at : same (ranked xs ranks j.0) (ranked xs ranks k.0) ≡ false =
    elim (cases_lt j.0 k.0) [
      | inl lower ↦ not_same (ranked xs ranks j.0) (ranked xs ranks k.0) (differ_far xs ranks r differ j.0 k.0 lower k.1)
      | inr higher ↦ elim (cases_eq j.0 k.0) [
        | inl e ↦ absurd (let f : p ≡ q = sym j.2 ∙ ap (position ranks (length xs)) e ∙ k.2 in omega arith)
        | inr d ↦ is_false (same (ranked xs ranks j.0) (ranked xs ranks k.0)) (λ e. sym (same_most (ranked xs ranks j.0) (ranked xs ranks k.0) e) ∙ differ_far xs ranks r differ k.0 j.0 (omega arith) j.1)
      ]
    ] in
    subst (λ m. same (label_at xs m) (label_at xs q) ≡ false) j.2 (subst (λ m. same (ranked xs ranks j.0) (label_at xs m) ≡ false) k.2 at))

pub both_left : (a b : Bool) → (a && b) ≡ true → a ≡ true
both_left true b h = refl
both_left false b h = h

pub both_right : (a b : Bool) → (a && b) ≡ true → b ≡ true
both_right true b h = h
both_right false b h = absurd (cc)

pub below_from : {a b : ℕ} → nat_lt a b ≡ true → a < b
below_from {a} {b} h = grind (arith, nat_tests)

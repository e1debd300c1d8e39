-- Lists in which a part is replaced.
use Rattle.std.proofs.Common.{◌≡◌, ◌<◌, ◌≤◌, ◌+◌, ◌-◌, ℕ, zero, suc, List, [], ◌∷◌, ◌++◌, length, take, drop, get_or, ◌⊎◌, inl, inr, refl, sym, ap, ◌∙◌, arith, length-take, length-drop, length-append}
use Rattle.std.specs.Prelude.{slice_set}
use Rattle.std.proofs.lemmas.List.{get_or-take, get_or-drop, get_or_append_left, get_or-append_right}

module _ {X : Type 0} where
  abbrev pub laid : List X → ℕ → List X → List X
  laid xs at ys = take at xs ++ (ys ++ drop (at + length ys) xs)

  pub laid-length : (xs ys : List X) (at : ℕ) → at + length ys ≤ length xs → length (laid xs at ys) ≡ length xs
  laid-length xs ys at h = omega (arith, length-append (take at xs) (ys ++ drop (at + length ys) xs), length-append ys (drop (at + length ys) xs), length-take at xs, length-drop (at + length ys) xs)

  pub set_laid : (xs : List X) (at : ℕ) (x : X) → at < length xs → slice_set xs at x ≡ laid xs at (x ∷ [])
  set_laid [] at x lt = absurd (omega arith)
  set_laid (y ∷ xs) zero x lt = refl
  set_laid (y ∷ xs) (suc at) x lt = let more : suc at + 1 ≡ suc (at + 1) = omega arith in ap (λ l. y ∷ l) (set_laid xs at x (omega arith)) ∙ ap (λ n. y ∷ (take at xs ++ (x ∷ drop n (y ∷ xs)))) (sym more)

  pub laid_in : (xs ys : List X) (at j k : ℕ) (d : X) → at + length ys ≤ length xs → j < length ys → k ≡ at + j → get_or (laid xs at ys) k d ≡ get_or ys j d
  laid_in xs ys at j k d h lt e =
      let front : length (take at xs) ≡ at = omega (arith, length-take at xs) in let le : at ≤ k = omega arith in let back : k - at ≡ j = omega arith in
      get_or-append_right (take at xs) (ys ++ drop (at + length ys) xs) at k d front le ∙ ap (λ i. get_or (ys ++ drop (at + length ys) xs) i d) back
      ∙ get_or_append_left ys (drop (at + length ys) xs) d j lt

  before : (xs ys : List X) (at k : ℕ) (d : X) → at + length ys ≤ length xs → k < at → get_or (laid xs at ys) k d ≡ get_or xs k d
  before xs ys at k d h lt =
      let in_front : k < length (take at xs) = omega (arith, length-take at xs) in
      get_or_append_left (take at xs) (ys ++ drop (at + length ys) xs) d k in_front ∙ get_or-take at xs k d lt

  behind : (xs ys : List X) (at k : ℕ) (d : X) → at + length ys ≤ length xs → at + length ys ≤ k → get_or (laid xs at ys) k d ≡ get_or xs k d
  behind xs ys at k d h le =
      let n : ℕ = length ys in let front : length (take at xs) ≡ at = omega (arith, length-take at xs) in let past : at ≤ k = omega arith in
      let past_ys : length ys ≤ k - at = omega arith in let back : at + length ys + (k - at - length ys) ≡ k = omega arith in
      get_or-append_right (take at xs) (ys ++ drop (at + length ys) xs) at k d front past ∙ get_or-append_right ys (drop (at + length ys) xs) (length ys) (k - at) d refl past_ys
      ∙ get_or-drop (at + length ys) xs (k - at - length ys) d ∙ ap (λ i. get_or xs i d) back

  pub laid_out : (xs ys : List X) (at k : ℕ) (d : X) → at + length ys ≤ length xs → (k < at) ⊎ (at + length ys ≤ k) → get_or (laid xs at ys) k d ≡ get_or xs k d
  laid_out xs ys at k d h out = elim out [ inl lt ↦ before xs ys at k d h lt | inr le ↦ behind xs ys at k d h le ]

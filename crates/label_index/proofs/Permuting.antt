-- The numbers below a count, in another order: each once.
use Rattle.std.proofs.Common.{◌≡◌, ℕ, ◌<◌, ◌+◌, List, [], ◌∷◌, ◌++◌, subst, length, refl, sym, ◌∙◌, ap, arith, get_or, inl, inr}
use Rattle.std.specs.List.{range_with_len, swap}
use Rattle.xr_arrays.proofs.LabelPlaces.{range_with_len-add}
use Rattle.std.specs.List.Sorted.{IsPermutation}
use Rattle.std.proofs.lemmas.Bool.{cases_eq}
use Rattle.std.proofs.lemmas.List.{get_or_default}
use Rattle.std.proofs.lemmas.List.Sorted.{length_permutation, IsPermutation-keeps, Contains-permutation}
use Rattle.std.proofs.lemmas.List.Edits.{Swapped, swapped_from_swap, length-swap}
use Rattle.std.proofs.lemmas.List.FromFn.{length-range_with_len, get_or-range_with_len}

-- where the element at k came from in a swap of a and b
data Came (a b k m : ℕ) : Type 0 where
  first : k ≡ a → m ≡ b → Came a b k m
  second : k ≡ b → m ≡ a → Came a b k m
  other : (k ≡ a → ⊥) → (k ≡ b → ⊥) → m ≡ k → Came a b k m

came : (f g : ℕ → ℕ) (a b k : ℕ) → Swapped f g a b → (m : ℕ) × Came a b k m × (g k ≡ f m)
came f g a b k s = elim (cases_eq k a) [
  | inl e ↦ (b, first e refl, ap g e ∙ s.0)
  | inr d ↦ elim (cases_eq k b) [
    | inl e ↦ (a, second e refl, ap g e ∙ s.1)
    | inr h ↦ (k, other d h refl, s.2 k d h)
  ]
]

stays_below : (a b k m n : ℕ) → Came a b k m → a < n → b < n → k < n → m < n
stays_below a b k m n (first e f) p q r = omega arith
stays_below a b k m n (second e f) p q r = omega arith
stays_below a b k m n (other d h f) p q r = omega arith

came_once : (a b j k m : ℕ) → Came a b j m → Came a b k m → j ≡ k
came_once a b j k m (first e f) (first g h) = omega arith
came_once a b j k m (first e f) (second g h) = omega arith
came_once a b j k m (first e f) (other d g h) = absurd (g (sym h ∙ f))
came_once a b j k m (second e f) (first g h) = omega arith
came_once a b j k m (second e f) (second g h) = omega arith
came_once a b j k m (second e f) (other d g h) = absurd (d (sym h ∙ f))
came_once a b j k m (other d g h) (first e f) = absurd (g (sym h ∙ f))
came_once a b j k m (other d g h) (second e f) = absurd (d (sym h ∙ f))
came_once a b j k m (other d g h) (other u v w) = sym h ∙ w

-- each below the count, and none twice
pub record Once (n : ℕ) (l : List ℕ) : Type 0 where
  pub whole : length l ≡ n
  pub inside : (k : ℕ) → k < n → get_or l k 0 < n
  pub apart : (j k : ℕ) → j < n → k < n → get_or l j 0 ≡ get_or l k 0 → j ≡ k

once_range : (n : ℕ) → Once n (range_with_len 0 n)
once_range n = record {
  whole = length-range_with_len 0 n;
  inside = λ k s. let e = get_or-range_with_len 0 n k 0 s in omega (arith, e);
  apart = λ j k s t h. let e : get_or (range_with_len 0 n) j 0 ≡ 0 + j = get_or-range_with_len 0 n j 0 s in let f : get_or (range_with_len 0 n) k 0 ≡ 0 + k = get_or-range_with_len 0 n k 0 t in omega (arith, e, f, h);
}

once_swap : (n : ℕ) (l : List ℕ) (a b : ℕ) → a < length l → b < length l → Once n l → Once n (swap l a b)
once_swap n l a b p q h =
    let s : Swapped (λ i. get_or l i 0) (λ i. get_or (swap l a b) i 0) a b = swapped_from_swap l (swap l a b) a b 0 p q refl in
    let a_below : a < n = omega (arith, h.whole) in
    let b_below : b < n = omega (arith, h.whole) in
    record {
      whole = length-swap l a b ∙ h.whole;
      inside = λ k t. let m = came (λ i. get_or l i 0) (λ i. get_or (swap l a b) i 0) a b k s in let below : get_or l m.0 0 < n = h.inside m.0 (stays_below a b k m.0 n m.1 a_below b_below t) in omega (arith, m.2, below);
      apart = λ j k t u e.
          let x = came (λ i. get_or l i 0) (λ i. get_or (swap l a b) i 0) a b j s in
          let y = came (λ i. get_or l i 0) (λ i. get_or (swap l a b) i 0) a b k s in
          let same : x.0 ≡ y.0 = h.apart x.0 y.0 (stays_below a b j x.0 n x.1 a_below b_below t) (stays_below a b k y.0 n y.1 a_below b_below u) (sym x.2 ∙ e ∙ y.2) in
          came_once a b j k y.0 (subst (λ m. Came a b j m) same x.1) y.1;
    }

pub once_permuted : (n : ℕ) (l : List ℕ) → IsPermutation (range_with_len 0 n) l → Once n l
once_permuted n l h = IsPermutation-keeps (range_with_len 0 n) (Once n) (once_range n) (λ l a b p q o. once_swap n l a b p q o) l h

pub found_permuted : (n : ℕ) (l : List ℕ) (p : ℕ) → IsPermutation (range_with_len 0 n) l → p < n → (k : ℕ) × (k < n) × (get_or l k 0 ≡ p)
found_permuted n l p h s =
    let whole : length l ≡ n = length_permutation (range_with_len 0 n) l h ∙ length-range_with_len 0 n in
    let c = Contains-permutation (range_with_len 0 n) l p h (p, omega (arith, length-range_with_len 0 n), get_or-range_with_len 0 n p p s ∙ (omega arith)) in
    (c.0, omega (arith, c.1, whole), get_or_default l c.0 0 p c.1 ∙ c.2)

pub range_push : (n : ℕ) → range_with_len 0 (n + 1) ≡ range_with_len 0 n ++ n ∷ []
range_push n = range_with_len-add 0 n 1 ∙ ap (λ m. range_with_len 0 n ++ m ∷ []) (omega arith)

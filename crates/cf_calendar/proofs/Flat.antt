-- Lists one after the other: what stands at a place, and the place of what stands there.
use Rattle.std.proofs.Common.{◌≡◌, ℕ, zero, suc, ◌<◌, ◌+◌, ◌-◌, ◌*◌, List, [], ◌∷◌, ◌++◌, length, Some, refl, sym, subst, ◌∙◌, ap, arith, inl, inr, length-append}
use Rattle.std.specs.List.{flat_map, range_with_len, slice_get}
use Rattle.std.proofs.lemmas.Option.{none-some}
use Rattle.std.proofs.lemmas.Bool.{cases_lt}

pub before_seam : {X : Type 0} (xs ys : List X) (r : ℕ) → r < length xs → slice_get (xs ++ ys) r ≡ slice_get xs r
before_seam [] ys r h = absurd (omega arith)
before_seam (x ∷ xs) ys zero h = refl
before_seam (x ∷ xs) ys (suc r) h = before_seam xs ys r (omega arith)

pub behind_seam : {X : Type 0} (xs ys : List X) (p r : ℕ) → length xs + r ≡ p → slice_get (xs ++ ys) p ≡ slice_get ys r
behind_seam [] ys p r h = let e : p ≡ r = omega arith in ap (slice_get ys) e
behind_seam (x ∷ xs) ys zero r h = absurd (omega arith)
behind_seam (x ∷ xs) ys (suc p) r h = behind_seam xs ys p r (omega arith)

-- the lengths of i lists from the one of a on
unfoldable pub offset : (ℕ → ℕ) → ℕ → ℕ → ℕ
offset len a zero = 0
offset len a (suc i) = len a + offset len (a + 1) i

pub offset_more : (len : ℕ → ℕ) (a i k : ℕ) → a + i ≡ k → offset len a (suc i) ≡ offset len a i + len k
unfolding offset
offset_more len a zero k h = let e : a ≡ k = omega arith in let f : len a ≡ len k = ap len e in omega arith
offset_more len a (suc i) k h = let e = offset_more len (a + 1) i k (omega arith) in omega (arith, e)

pub flat_at : {X : Type 0} (f : ℕ → List X) (len : ℕ → ℕ) → ((k : ℕ) → length (f k) ≡ len k) → (a n i r k p : ℕ) → i < n → a + i ≡ k → r < len k → offset len a i + r ≡ p → slice_get (flat_map f (range_with_len a n)) p ≡ slice_get (f k) r
unfolding offset
flat_at f len all a zero i r k p s e t h = absurd (omega arith)
flat_at f len all a (suc n) zero r k p s e t h =
    let same : a ≡ k = omega arith in
    let place : p ≡ r = omega arith in
    let short : r < length (f a) = subst (λ m. r < length (f m)) (sym same) (subst (λ m. r < m) (sym (all k)) t) in
    ap (slice_get (f a ++ flat_map f (range_with_len (a + 1) n))) place ∙ before_seam (f a) (flat_map f (range_with_len (a + 1) n)) r short ∙ ap (λ m. slice_get (f m) r) same
flat_at f len all a (suc n) (suc i) r k p s e t h =
    behind_seam (f a) (flat_map f (range_with_len (a + 1) n)) p (offset len (a + 1) i + r) (let l = all a in omega (arith, l))
    ∙ flat_at f len all (a + 1) n i r k (offset len (a + 1) i + r) (omega arith) (omega arith) t refl

-- what stands at a place stands in one of the lists
pub record Inside (X : Type 0) (f : ℕ → List X) (len : ℕ → ℕ) (a n p : ℕ) (x : X) : Type 0 where
  pub list : ℕ
  pub number : ℕ
  pub rest : ℕ
  pub within : list < n
  pub is : a + list ≡ number
  pub short : rest < len number
  pub place : offset len a list + rest ≡ p
  pub here : slice_get (f number) rest ≡ Some x

pub inside : {X : Type 0} (f : ℕ → List X) (len : ℕ → ℕ) → ((k : ℕ) → length (f k) ≡ len k) → (a n p : ℕ) (x : X) → slice_get (flat_map f (range_with_len a n)) p ≡ Some x → Inside X f len a n p x
unfolding offset
inside f len all a zero p x h = absurd (none-some x h)
inside f len all a (suc n) p x h = elim (cases_lt p (len a)) [
  | inl s ↦
      let short : p < length (f a) = let l = all a in omega (arith, l) in
      record { list = 0; number = a; rest = p; within = omega arith; is = omega arith; short = s; place = omega arith; here = sym (before_seam (f a) (flat_map f (range_with_len (a + 1) n)) p short) ∙ h }
  | inr s ↦
      let r = inside f len all (a + 1) n (p - len a) x (sym (behind_seam (f a) (flat_map f (range_with_len (a + 1) n)) p (p - len a) (let l = all a in omega (arith, l))) ∙ h) in
      record { list = suc r.list; number = r.number; rest = r.rest; within = let w = r.within in omega (arith, w); is = let w = r.is in omega (arith, w); short = r.short; place = let w = r.place in omega (arith, w); here = r.here }
]

pub offset_same : (l a i : ℕ) → offset (λ k. l) a i ≡ i * l
unfolding offset
offset_same l a zero = omega arith
offset_same l a (suc i) = let e = offset_same l (a + 1) i in omega (arith, e)

pub length_flat : {X : Type 0} (f : ℕ → List X) (len : ℕ → ℕ) → ((k : ℕ) → length (f k) ≡ len k) → (a n : ℕ) → length (flat_map f (range_with_len a n)) ≡ offset len a n
unfolding offset
length_flat f len all a zero = refl
length_flat f len all a (suc n) = length-append (f a) (flat_map f (range_with_len (a + 1) n)) ∙ (let e = all a in let g = length_flat f len all (a + 1) n in omega (arith, e, g))

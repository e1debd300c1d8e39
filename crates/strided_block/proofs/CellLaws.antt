-- Cells with their mask: what stays where one cell is written.
use Rattle.std.proofs.Common.{◌≡◌, ◌-◌, ◌<◌, ◌≤◌, ℕ, ℤ, zero, suc, List, [], ◌∷◌, get_or, arith, refl, sym, ap, subst, ◌∙◌}
use Rattle.std.specs.Prelude.{Bool, true, false, Option, Some, None, bytes_eq, slice_set}
use Rattle.std.specs.Prelude.{◌||◌}
use Rattle.std.proofs.Common.{inl, inr}
use Rattle.std.proofs.lemmas.Bool.{cases_lt}
use Rattle.std.proofs.lemmas.Slice.Eq.{bytes_eq-Decides}
use Rattle.xr_types.specs.Points.{IsPoint}
use Rattle.strided_block.specs.Boxes.{plus, moved, along}
use Rattle.strided_block.specs.Typed.{mask_byte, unless_hidden}
use Rattle.strided_block.specs.Views.{Window, Cut, held, cell_at}
use Rattle.strided_block.proofs.Boxes.{plus_inside}

by_equal : {P : Type 0} (xs ys : List ℕ) → (xs ≡ ys → P) → (¬ (xs ≡ ys) → P) → P
by_equal {P} xs ys is_same is_other =
    let d = bytes_eq-Decides xs ys in
    elim (bytes_eq xs ys) as (λ b. bytes_eq xs ys ≡ b → P) [
      | true ↦ λ e. is_same (d.0 e)
      | false ↦ λ e. is_other (λ same. absurd (differ (sym (d.1 same) ∙ e)))
    ] refl
  where
    differ : true ≡ false → ⊥
    differ e = cc

-- where all bytes of a mask were 0 they are so after a 0 was written
pub stays_clear : (w v : Window ℕ) (point : List ℕ) → Cut w v w.low w.shape → cell_at v point ≡ Some 0 → ((cs : List ℕ) → IsPoint w.whole cs → ¬ (cs ≡ plus w.low point) → held v cs ≡ held w cs)
    → ((p : List ℕ) → IsPoint w.shape p → cell_at w p ≡ Some 0) → (p : List ℕ) → IsPoint v.shape p → cell_at v p ≡ Some 0
stays_clear w v point cut here others was p i =
    let cs : List ℕ = plus w.low p in let back : plus v.low p ≡ cs = ap (λ l. plus l p) cut.low in
    let j : IsPoint w.shape p = subst (λ s. IsPoint s p) cut.shape i in
    let inside : IsPoint w.whole cs = subst (λ n. IsPoint n cs) cut.whole (subst (IsPoint v.whole) back (plus_inside v.whole v.low v.shape p cut.fits i)) in
    by_equal cs (plus w.low point)
    (λ same. ap (held v) (back ∙ same ∙ ap (λ l. plus l point) (sym cut.low)) ∙ here)
    (λ other. ap (held v) back ∙ others cs inside other ∙ was p j)

-- a cell by its byte in the mask and its number
pub shown_cell : (c : Option ℤ) (m : Option ℕ) (n : Option ℤ) → m ≡ Some (mask_byte c) → ((k : ℤ) → c ≡ Some k → n ≡ Some k) → unless_hidden m n ≡ c
shown_cell None m n e f = ap (λ x. unless_hidden x n) e
shown_cell (Some k) m n e f = let g = f k refl in λ i. unless_hidden (e i) (g i)

pub neither : (a b : Bool) → (a || b) ≡ false → (a ≡ false) × (b ≡ false)
neither true b e = absurd (cc)
neither false b e = (refl, e)

-- a point of the row, or none of it
by_row : {P : Type 0} (cs : List ℕ) (f : ℕ → List ℕ) (n : ℕ) → ((j : ℕ) → j < n → cs ≡ f j → P) → (((j : ℕ) → j < n → ¬ (cs ≡ f j)) → P) → P
by_row cs f zero hit miss = miss (λ j lt. absurd (omega arith))
by_row cs f (suc n) hit miss = by_equal cs (f n)
    (λ e. hit n (omega arith) e)
    (λ no. by_row cs f n (λ j lt e. hit j (omega arith) e) (λ none. miss (λ j lt e. elim (cases_lt j n) [
      | inl less ↦ none j less e
      | inr le ↦ let z : j ≡ n = omega arith in no (e ∙ ap f z)
    ])))

-- where all bytes of a mask were 0 they are so after a row of them was written
pub row_stays_clear : (w v : Window ℕ) (point : List ℕ) (n : ℕ) → Cut w v w.low w.shape → ((j : ℕ) → j < n → cell_at v (along point j) ≡ Some 0)
    → ((cs : List ℕ) → IsPoint w.whole cs → ((j : ℕ) → j < n → ¬ (cs ≡ plus w.low (along point j))) → held v cs ≡ held w cs)
    → ((p : List ℕ) → IsPoint w.shape p → cell_at w p ≡ Some 0) → (p : List ℕ) → IsPoint v.shape p → cell_at v p ≡ Some 0
row_stays_clear w v point n cut here others was p i =
    let cs : List ℕ = plus w.low p in let back : plus v.low p ≡ cs = ap (λ l. plus l p) cut.low in
    let j : IsPoint w.shape p = subst (λ s. IsPoint s p) cut.shape i in
    let inside : IsPoint w.whole cs = subst (λ n. IsPoint n cs) cut.whole (subst (IsPoint v.whole) back (plus_inside v.whole v.low v.shape p cut.fits i)) in
    by_row cs (λ k. plus w.low (along point k)) n
    (λ k lt same. ap (held v) (back ∙ same ∙ ap (λ l. plus l (along point k)) (sym cut.low)) ∙ here k lt)
    (λ none. ap (held v) back ∙ others cs inside none ∙ was p j)

-- a point of the part is one of the view
pub moved_inside : (ss ps : List ℕ) (k from to : ℕ) → from ≤ to → to ≤ get_or ss k 0 → IsPoint (slice_set ss k (to - from)) ps → IsPoint ss (moved ps k from)
moved_inside [] [] k from to a b i = tt
moved_inside [] (p ∷ ps) k from to a b i = absurd i
moved_inside (s ∷ ss) [] zero from to a b i = absurd i
moved_inside (s ∷ ss) [] (suc k) from to a b i = absurd i
moved_inside (s ∷ ss) (p ∷ ps) zero from to a b i = let l = i.0 in (omega arith, i.1)
moved_inside (s ∷ ss) (p ∷ ps) (suc k) from to a b i = (i.0, moved_inside ss ps k from to a b i.1)

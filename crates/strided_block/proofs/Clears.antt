-- Masks without a byte, in windows that are split and joined.
use Rattle.std.proofs.Common.{◌≡◌, ℕ, zero, suc, ◌+◌, ◌-◌, ◌<◌, ◌≤◌, inl, inr, List, [], ◌∷◌, length, get_or, refl, sym, ap, ◌∙◌, subst, arith}
use Rattle.std.specs.Prelude.{Bool, true, false, ◌||◌, Some, slice_set}
use Rattle.std.proofs.lemmas.Bool.{cases_lt}
use Rattle.xr_types.specs.Points.{IsPoint}
use Rattle.strided_block.specs.Boxes.{plus, moved, in_box}
use Rattle.strided_block.specs.Typed.{box_of}
use Rattle.strided_block.specs.Views.{Window, Cut, SameIn, held, cell_at}
use Rattle.strided_block.proofs.Boxes.{point_long, fits_long, plus_inside}
use Rattle.strided_block.proofs.CellLaws.{moved_inside}
use Rattle.strided_block.proofs.Sounds.{plus_in_box}

pub or_false : (a b : Bool) → a || b ≡ false → (a ≡ false) × (b ≡ false)
or_false true b e = cc
or_false false b e = (refl, e)

wider_point : (ss ps : List ℕ) (k at : ℕ) → at ≤ get_or ss k 0 → IsPoint (slice_set ss k at) ps → IsPoint ss ps
wider_point [] ps k at le i = i
wider_point (s ∷ ss) [] zero at le i = absurd i
wider_point (s ∷ ss) [] (suc k) at le i = absurd i
wider_point (s ∷ ss) (p ∷ ps) zero at le i = let l = i.0 in (omega arith, i.1)
wider_point (s ∷ ss) (p ∷ ps) (suc k) at le i = (i.0, wider_point ss ps k at le i.1)

low_point : (ss ps : List ℕ) (k n : ℕ) → IsPoint (slice_set ss k n) ps → get_or ps k 0 < get_or ss k 0 → IsPoint ss ps
low_point [] ps k n i lt = i
low_point (s ∷ ss) [] zero n i lt = absurd i
low_point (s ∷ ss) [] (suc k) n i lt = absurd i
low_point (s ∷ ss) (p ∷ ps) zero n i lt = (lt, i.1)
low_point (s ∷ ss) (p ∷ ps) (suc k) n i lt = (i.0, low_point ss ps k n i.1 lt)

high_point : (ss ps : List ℕ) (k t : ℕ) → k < length ss → IsPoint (slice_set ss k (get_or ss k 0 + t)) ps → get_or ss k 0 ≤ get_or ps k 0 → IsPoint (slice_set ss k t) (slice_set ps k (get_or ps k 0 - get_or ss k 0))
high_point [] ps k t lt i le = absurd (omega arith)
high_point (s ∷ ss) [] zero t lt i le = absurd i
high_point (s ∷ ss) [] (suc k) t lt i le = absurd i
high_point (s ∷ ss) (p ∷ ps) zero t lt i le = let l = i.0 in (omega arith, i.1)
high_point (s ∷ ss) (p ∷ ps) (suc k) t lt i le = (i.0, high_point ss ps k t (omega arith) i.1 le)

plus_moved : (ls ps : List ℕ) (k by : ℕ) → k < length ls → k < length ps → plus (slice_set ls k (get_or ls k 0 + by)) ps ≡ plus ls (moved ps k by)
plus_moved [] ps k by a b = absurd (omega arith)
plus_moved (l ∷ ls) [] k by a b = absurd (omega arith)
plus_moved (l ∷ ls) (p ∷ ps) zero by a b = let e : l + by + p ≡ l + (p + by) = omega arith in ap (λ x. x ∷ plus ls ps) e
plus_moved (l ∷ ls) (p ∷ ps) (suc k) by a b = ap (λ x. (l + p) ∷ x) (plus_moved ls ps k by (omega arith) (omega arith))

plus_back : (ls ps : List ℕ) (k by : ℕ) → k < length ls → k < length ps → by ≤ get_or ps k 0 → plus (slice_set ls k (get_or ls k 0 + by)) (slice_set ps k (get_or ps k 0 - by)) ≡ plus ls ps
plus_back [] ps k by a b le = absurd (omega arith)
plus_back (l ∷ ls) [] k by a b le = absurd (omega arith)
plus_back (l ∷ ls) (p ∷ ps) zero by a b le = let e : l + by + (p - by) ≡ l + p = omega arith in ap (λ x. x ∷ plus ls ps) e
plus_back (l ∷ ls) (p ∷ ps) (suc k) by a b le = ap (λ x. (l + p) ∷ x) (plus_back ls ps k by (omega arith) (omega arith) le)

set_long : (xs : List ℕ) (k n : ℕ) → length (slice_set xs k n) ≡ length xs
set_long xs k n = grind (arith, Rattle.std.proofs.Math.ListN.length-set xs k n)

pub cut_box : {X : Type 0} (w v : Window X) (ls ss : List ℕ) → Cut w v ls ss → box_of v ≡ record { whole = w.whole; low = ls; shape = ss }
cut_box w v ls ss c = λ i. record { whole = c.whole i; low = c.low i; shape = c.shape i }

module _ {X : Type 0} (x : X) (w v : Window X) (k : ℕ) (lt : k < length w.shape) where
  module _ (ls ss : List ℕ) (c : Cut w v ls ss) (p : List ℕ) (i : IsPoint v.shape p) where
    in_whole : IsPoint w.whole (plus v.low p)
    in_whole = subst (λ n. IsPoint n (plus v.low p)) c.whole (plus_inside v.whole v.low v.shape p c.fits i)

    in_own : in_box v.low v.shape (plus v.low p) ≡ true
    in_own = let l = fits_long v.whole v.low v.shape c.fits in plus_in_box v.low v.shape p (omega arith) i

  module _ (at : ℕ) (le : at ≤ get_or w.shape k 0) (clear : (p : List ℕ) → IsPoint w.shape p → cell_at w p ≡ Some x) where
    pub clear_low : Cut w v w.low (slice_set w.shape k at) → SameIn v w → (p : List ℕ) → IsPoint v.shape p → cell_at v p ≡ Some x
    clear_low c same p i =
        same (plus v.low p) (in_whole w.low (slice_set w.shape k at) c p i) (in_own w.low (slice_set w.shape k at) c p i) ∙ ap (λ l. held w (plus l p)) c.low
        ∙ clear p (wider_point w.shape p k at le (subst (λ s. IsPoint s p) c.shape i))

    pub clear_high : Cut w v (slice_set w.low k (get_or w.low k 0 + at)) (slice_set w.shape k (get_or w.shape k 0 - at)) → SameIn v w → (p : List ℕ) → IsPoint v.shape p → cell_at v p ≡ Some x
    clear_high c same p i =
        let ls = slice_set w.low k (get_or w.low k 0 + at) in let ss = slice_set w.shape k (get_or w.shape k 0 - at) in
        let l = fits_long v.whole v.low v.shape c.fits in let m = point_long v.shape p i in let e = ap length c.shape ∙ set_long w.shape k (get_or w.shape k 0 - at) in
        let f = ap length c.low ∙ set_long w.low k (get_or w.low k 0 + at) in
        let j : IsPoint ss p = subst (λ s. IsPoint s p) c.shape i in
        same (plus v.low p) (in_whole ls ss c p i) (in_own ls ss c p i) ∙ ap (λ h. held w (plus h p)) c.low ∙ ap (held w) (plus_moved w.low p k at (omega arith) (omega arith))
        ∙ clear (moved p k at) (moved_inside w.shape p k at (get_or w.shape k 0) le (omega arith) j)

-- r is w and v, which goes on where w ends
module _ {X : Type 0} (x : X) (w v r : Window X) (k : ℕ) (lt : k < length w.shape) (low : v.low ≡ slice_set w.low k (get_or w.low k 0 + get_or w.shape k 0)) (shape : v.shape ≡ slice_set w.shape k (get_or v.shape k 0))
    (c : Cut w r w.low (slice_set w.shape k (get_or w.shape k 0 + get_or v.shape k 0))) (first : SameIn w r) (second : SameIn v r)
    (clear_w : (p : List ℕ) → IsPoint w.shape p → cell_at w p ≡ Some x) (clear_v : (p : List ℕ) → IsPoint v.shape p → cell_at v p ≡ Some x) where
  pub clear_both : (p : List ℕ) → IsPoint r.shape p → cell_at r p ≡ Some x
  clear_both p i =
      let s = get_or w.shape k 0 in let t = get_or v.shape k 0 in
      let j : IsPoint (slice_set w.shape k (s + t)) p = subst (λ n. IsPoint n p) c.shape i in
      let there : IsPoint r.whole (plus r.low p) = plus_inside r.whole r.low r.shape p c.fits i in
      let l = fits_long r.whole r.low r.shape c.fits in let m = point_long r.shape p i in let e = ap length c.shape ∙ set_long w.shape k (s + t) in let f = ap length c.low in
      let g = ap length low ∙ set_long w.low k (get_or w.low k 0 + s) in let h = ap length shape ∙ set_long w.shape k t in
      elim (cases_lt (get_or p k 0) s) [
        | inl less ↦
            let at = low_point w.shape p k (s + t) j less in
            let there_w : IsPoint r.whole (plus w.low p) = subst (λ b. IsPoint r.whole (plus b p)) c.low there in
            ap (λ b. held r (plus b p)) c.low ∙ sym (first (plus w.low p) there_w (plus_in_box w.low w.shape p (omega arith) at)) ∙ clear_w p at
        | inr more ↦
            let q = slice_set p k (get_or p k 0 - s) in
            let at : IsPoint v.shape q = subst (λ n. IsPoint n q) (sym shape) (high_point w.shape p k t lt j more) in
            let same : plus v.low q ≡ plus r.low p = ap (λ b. plus b q) low ∙ plus_back w.low p k s (omega arith) (omega arith) more ∙ ap (λ b. plus b p) (sym c.low) in
            let there_v : IsPoint r.whole (plus v.low q) = subst (IsPoint r.whole) (sym same) there in
            ap (held r) (sym same) ∙ sym (second (plus v.low q) there_v (plus_in_box v.low v.shape q (omega arith) at)) ∙ clear_v q at
      ]

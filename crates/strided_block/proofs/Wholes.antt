-- What stays of a window of cells with their mask where its cells are written.
use Rattle.std.proofs.Common.{◌≡◌, ℕ, zero, suc, ◌+◌, ◌-◌, ◌<◌, ◌≤◌, List, [], ◌∷◌, length, get_or, refl, sym, ap, ◌∙◌, arith}
use Rattle.std.specs.Prelude.{slice_set}
use Rattle.strided_block.specs.Boxes.{zeros}
use Rattle.strided_block.specs.Typed.{box_of}
use Rattle.strided_block.specs.Views.{Window, Cut, Halves, IsWhole}
use Rattle.strided_block.specs.Cells.{SameWindow}
use Rattle.strided_block.specs.declared.cells.CellWin.{CellWin}

pub same_boxes : (w v : CellWin) → SameWindow w v → box_of v.mask ≡ box_of w.mask
same_boxes w v s = v.same_box ∙ s.place ∙ sym w.same_box

pub same_shape : (w v : CellWin) → SameWindow w v → v.mask.shape ≡ w.mask.shape
same_shape w v s = ap (λ b. b.shape) (same_boxes w v s)

pub still_whole : (w v : CellWin) → SameWindow w v → IsWhole w.mask → IsWhole v.mask
still_whole w v s m = let b = same_boxes w v s in record {
  low = ap (λ x. x.low) b ∙ m.low ∙ ap (λ x. zeros x.whole) (sym b);
  shape = ap (λ x. x.shape) b ∙ m.shape ∙ ap (λ x. x.whole) (sym b);
}

-- the same of windows of one type
pub cut_whole : {X : Type 0} (w v : Window X) → Cut w v w.low w.shape → IsWhole w → IsWhole v
cut_whole w v c m = record {
  low = c.low ∙ m.low ∙ ap zeros (sym c.whole);
  shape = c.shape ∙ m.shape ∙ sym c.whole;
}

pub cut_shape : {X : Type 0} (w v : Window X) → Cut w v w.low w.shape → v.shape ≡ w.shape
cut_shape w v c = c.shape

-- ---- halves that are written and joined again

set_again : (xs : List ℕ) (k a b : ℕ) → slice_set (slice_set xs k a) k b ≡ slice_set xs k b
set_again [] k a b = refl
set_again (x ∷ xs) zero a b = refl
set_again (x ∷ xs) (suc k) a b = ap (λ l. x ∷ l) (set_again xs k a b)

set_back : (xs : List ℕ) (k n : ℕ) → n ≡ get_or xs k 0 → slice_set xs k n ≡ xs
set_back [] k n e = refl
set_back (x ∷ xs) zero n e = ap (λ y. y ∷ xs) e
set_back (x ∷ xs) (suc k) n e = ap (λ l. x ∷ l) (set_back xs k n e)

set_at : (xs : List ℕ) (k n : ℕ) → k < length xs → get_or (slice_set xs k n) k 0 ≡ n
set_at [] k n lt = absurd (omega arith)
set_at (x ∷ xs) zero n lt = refl
set_at (x ∷ xs) (suc k) n lt = set_at xs k n (omega arith)

module _ {X : Type 0} (w l r a b : Window X) (k at : ℕ) (lt : k < length w.shape) (low : Cut w l w.low (slice_set w.shape k at)) (high : Cut w r (slice_set w.low k (get_or w.low k 0 + at)) (slice_set w.shape k (get_or w.shape k 0 - at)))
    (first : Cut l a l.low l.shape) (second : Cut r b r.low r.shape) where
  first_size : get_or a.shape k 0 ≡ at
  first_size = ap (λ s. get_or s k 0) (first.shape ∙ low.shape) ∙ set_at w.shape k at lt

  second_size : get_or b.shape k 0 ≡ get_or w.shape k 0 - at
  second_size = ap (λ s. get_or s k 0) (second.shape ∙ high.shape) ∙ set_at w.shape k (get_or w.shape k 0 - at) lt

  -- the halves of a window, once they are written
  pub halves_again : Halves a b k
  halves_again = record {
    block = second.block ∙ high.block ∙ sym (first.block ∙ low.block);
    whole = second.whole ∙ high.whole ∙ sym (first.whole ∙ low.whole);
    low = second.low ∙ high.low ∙ (λ i. slice_set (sym (first.low ∙ low.low) i) k (get_or (sym (first.low ∙ low.low) i) k 0 + sym first_size i));
    shape = second.shape ∙ high.shape ∙ sym (set_again w.shape k at (get_or w.shape k 0 - at)) ∙ (λ i. slice_set (sym (first.shape ∙ low.shape) i) k (sym second_size i));
  }

  -- joined, they are the whole window again
  pub whole_again : (j : Window X) → at ≤ get_or w.shape k 0 → Cut a j a.low (slice_set a.shape k (get_or a.shape k 0 + get_or b.shape k 0)) → IsWhole w → IsWhole j
  whole_again j le c m =
      let same : get_or a.shape k 0 + get_or b.shape k 0 ≡ get_or w.shape k 0 = (let p = first_size in let q = second_size in omega arith) in
      let whole : j.whole ≡ w.whole = c.whole ∙ first.whole ∙ low.whole in record {
        low = c.low ∙ first.low ∙ low.low ∙ m.low ∙ ap zeros (sym whole);
        shape = c.shape ∙ (λ i. slice_set ((first.shape ∙ low.shape) i) k (same i)) ∙ set_again w.shape k at (get_or w.shape k 0) ∙ set_back w.shape k (get_or w.shape k 0) refl ∙ m.shape ∙ sym whole;
      }

-- Ascending, descending and sorted labels are ranked.
use Rattle.std.proofs.Common.{◌≡◌, ℕ, zero, suc, ◌<◌, ◌≤◌, ◌+◌, ◌-◌, Bool, true, false, List, length, refl, sym, ◌∙◌, ap, arith, get_or, subst, if◌then◌else◌}
use Rattle.std.specs.List.{range_with_len}
use Rattle.std.specs.List.Sorted.{IsPermutation, IsSortedBy}
use Rattle.std.specs.Ordering.{is_lt}
use Rattle.std.specs.Global.{Vec}
use Rattle.xr_types.specs.declared.axis.Label.{Label}
use Rattle.xr_arrays.specs.Labels.{label_at, at_most, is_ascending, is_descending, order}
use Rattle.xr_arrays.specs.declared.search.Direction.{Direction}
use Rattle.xr_arrays.specs.declared.search.Direction.TheVariants.{Ascending, Descending, Neither}
use Rattle.xr_arrays.proofs.LabelLaws.{at_most-trans, at_most-refl, not_less}
use Rattle.xr_arrays.proofs.LabelPlaces.{each_next_at}
use Rattle.label_index.specs.declared.rank.Ranks.TheVariants.{Rising, Falling, Sorted}
use Rattle.label_index.proofs.Permuting.{Once, once_permuted, found_permuted}
use Rattle.label_index.specs.Ranks.{IsRanked}

-- along steps that ascend, so does each stretch
climbs : (f : ℕ → Label) (n : ℕ) → ((k : ℕ) → suc k < n → at_most (f k) (f (suc k)) ≡ true) → (j k : ℕ) → j + k < n → at_most (f j) (f (j + k)) ≡ true
climbs f n step j zero h = let e : j + 0 ≡ j = omega arith in rw e (at_most-refl (f j))
climbs f n step j (suc k) h =
    let e : j + suc k ≡ suc (j + k) = omega arith in
    rw e (at_most-trans (f j) (f (j + k)) (f (suc (j + k))) (climbs f n step j k (omega arith)) (step (j + k) (omega arith)))

climbs_to : (f : ℕ → Label) (n : ℕ) → ((k : ℕ) → suc k < n → at_most (f k) (f (suc k)) ≡ true) → (j k : ℕ) → j ≤ k → k < n → at_most (f j) (f k) ≡ true
climbs_to f n step j k up h =
    let e : j + (k - j) ≡ k = omega arith in
    subst (λ m. at_most (f j) (f m) ≡ true) e (climbs f n step j (k - j) (omega arith))

ways : (xs : List Label) → Bool → Bool → Direction
ways xs up down = if up then Ascending else (if down then Descending else Neither)

pub rising_ranked : (xs : List Label) → is_ascending xs ≡ true → IsRanked xs Rising
unfolding ways
rising_ranked xs h = record {
  has = λ k s. s;
  inside = λ k s. s;
  ascends = climbs_to (label_at xs) (length xs) (λ k s. each_next_at at_most xs k h s);
  apart = λ j k up s e. omega arith;
  onto = λ p s. (p, s, refl);
  way = sym (ap (λ b. ways xs b (is_descending xs)) h);
}

pub falling_ranked : (xs : List Label) → is_ascending xs ≡ false → is_descending xs ≡ true → IsRanked xs Falling
unfolding ways
falling_ranked xs g h = record {
  has = λ k s. s;
  inside = λ k s. omega arith;
  ascends = λ j k up s. climbs_to (λ m. label_at xs (length xs - 1 - m)) (length xs) (λ m t.
      let e : length xs - 1 - m ≡ suc (length xs - 1 - suc m) = omega arith in
      rw e (each_next_at (λ x y. at_most y x) xs (length xs - 1 - suc m) h (omega arith))) j k up s;
  apart = λ j k up s e. omega arith;
  onto = λ p s. (length xs - 1 - p, omega arith, omega arith);
  way = sym (ap (λ b. ways xs b (is_descending xs)) g ∙ ap (λ b. ways xs false b) h);
}

pub sorted_ranked : (xs : List Label) (order_of : Vec ℕ) (lt : ℕ → ℕ → Bool) → is_ascending xs ≡ false → is_descending xs ≡ false → IsPermutation (range_with_len 0 (length xs)) order_of.items → ((p q : ℕ) → p < length xs → q < length xs → is_lt (order (label_at xs p) (label_at xs q)) ≡ lt p q) → IsSortedBy lt order_of.items → IsRanked xs (Sorted order_of)
unfolding ways
sorted_ranked xs v lt f g h by sorted =
    let once : Once (length xs) v.items = once_permuted (length xs) v.items h in
    let whole : length v.items ≡ length xs = once.whole in
    record {
      has = λ k s. omega (arith, whole);
      inside = once.inside;
      ascends = climbs_to (λ k. label_at xs (get_or v.items k 0)) (length xs) (λ k s.
          let e : k + 1 ≡ suc k = omega arith in
          let still : lt (get_or v.items (suc k) 0) (get_or v.items k 0) ≡ false = subst (λ m. lt (get_or v.items m 0) (get_or v.items k 0) ≡ false) e (sorted k 0 (omega arith) (omega (arith, whole))) in
          not_less (label_at xs (get_or v.items (suc k) 0)) (label_at xs (get_or v.items k 0)) (by (get_or v.items (suc k) 0) (get_or v.items k 0) (once.inside (suc k) s) (once.inside k (omega arith)) ∙ still));
      apart = λ j k up s e. let same : j ≡ k = once.apart j k (omega arith) s e in omega arith;
      onto = λ p s. found_permuted (length xs) v.items p h s;
      way = sym (ap (λ b. ways xs b (is_descending xs)) f ∙ ap (λ b. ways xs false b) g);
    }

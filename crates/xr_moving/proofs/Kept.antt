-- The labels of an axis that are kept, and what that changes.
use Rattle.xr_moving.proofs.Common.{All, Axis, Bool, None, Option, Some, [], among, ap, are_distinct, arith, axis_names, axis_position, bytes_eq, cond, false, get_or, get_or-range_with_len, keeping, labels_kept, length, length-map, length-range_with_len, map, new_axis, no_axis, option_map, or_parts, place_of, range_with_len, refl, same_text, set, shape_over, subst, suc, sym, true, zero, ℕ, ◌+◌, ◌-◌, ◌<◌, ◌∙◌, ◌∷◌, ◌≡◌}
use Rattle.std.proofs.Common.{List, add-one}
use Rattle.xr_operations.specs.Changing.{changed_axis}
use Rattle.xr_values.proofs.Named.{bytes_eq_swap}
use Rattle.xr_parts.proofs.Words.{distinct_parts, itself}

-- ---- the positions

run_below : (from count n : ℕ) → ((i : ℕ) → i < count → from + i < n) → All (λ p. p < n) (range_with_len from count)
run_below from count n each i d lt =
    let long = length-range_with_len from count in
    let here : i < count = omega (arith, long, lt) in
    let is = get_or-range_with_len from count i d here in
    let below = each i here in
    omega (arith, is, below)

pub kept_below : (upper : Bool) (n : ℕ) → All (λ p. p < n) (labels_kept upper n)
kept_below true n = run_below 1 (n - 1) n (λ i lt. omega arith)
kept_below false n = run_below 0 (n - 1) n (λ i lt. omega arith)

pub kept_long : (upper : Bool) (n : ℕ) → length (labels_kept upper n) ≡ n - 1
kept_long true n = length-range_with_len 1 (n - 1)
kept_long false n = length-range_with_len 0 (n - 1)

-- ---- the place of a name

pub placed : (n : List ℕ) (xs : List Axis) (k : ℕ) → axis_position n xs ≡ Some k → (k < length xs) × ((get_or xs k no_axis).name ≡ n)
placed n [] k e = absurd cc
placed n (x ∷ xs) k e = by (bytes_eq x.name n) refl (axis_position n xs) (placed n xs) e
  where
    by : (b : Bool) → bytes_eq x.name n ≡ b → (o : Option ℕ) → ((j : ℕ) → o ≡ Some j → (j < length xs) × ((get_or xs j no_axis).name ≡ n)) → cond b (Some 0) (option_map (λ i. i + 1) o) ≡ Some k
        → (k < suc (length xs)) × ((get_or (x ∷ xs) k no_axis).name ≡ n)
    by true same o rest is = let z : 0 ≡ k = cc in subst (λ i. (i < suc (length xs)) × ((get_or (x ∷ xs) i no_axis).name ≡ n)) z (omega arith, same_text x.name n same)
    by false same None rest is = absurd cc
    by false same (Some j) rest is =
        let y : suc j ≡ k = sym (add-one j) ∙ cc in
        let here = rest j refl in
        subst (λ i. (i < suc (length xs)) × ((get_or (x ∷ xs) i no_axis).name ≡ n)) y (let lt = here.0 in omega arith, here.1)

pub place_is : (n : List ℕ) (xs : List Axis) → axis_position n xs ≡ place_of n (axis_names xs)
place_is n [] = refl
place_is n (x ∷ xs) = by (bytes_eq x.name n) (axis_position n xs) (place_of n (axis_names xs)) (place_is n xs)
  where
    by : (b : Bool) (o p : Option ℕ) → o ≡ p → cond b (Some 0) (option_map (λ i. i + 1) o) ≡ cond b (Some 0) (elim p [ None ↦ None | Some k ↦ Some (suc k) ])
    by true o p e = refl
    by false o None e = ap (option_map (λ i. i + 1)) e
    by false o (Some k) e = ap (option_map (λ i. i + 1)) e ∙ ap Some (add-one k)

absent_at : (xs : List Axis) (k : ℕ) (n : List ℕ) → k < length xs → among (axis_names xs) n ≡ false → bytes_eq n (get_or xs k no_axis).name ≡ false
absent_at [] k n lt lacks = absurd (omega arith)
absent_at (x ∷ xs) zero n lt lacks = (or_parts (bytes_eq n x.name) (among (axis_names xs) n) lacks).0
absent_at (x ∷ xs) (suc k) n lt lacks = absent_at xs k n (omega arith) (or_parts (bytes_eq n x.name) (among (axis_names xs) n) lacks).1

-- ---- axes

module _ (upper : Bool) (x : Axis) where
  abbrev new : Axis → Axis
  new = new_axis (keeping upper x)

  -- where the name is that of the axis, or isn't
  abbrev pub changed_if : Axis → Bool → Axis
  changed_if y b = changed_axis y (cond b (Some (record { name = x.name; labels = None; from = map Some (labels_kept upper x.size) })) None)

  pub changed_size : (y : Axis) → (changed_if y true).size ≡ x.size - 1
  changed_size y = length-map (labels_kept upper x.size) Some ∙ kept_long upper x.size

  pub axes_stay : (ys : List Axis) → among (axis_names ys) x.name ≡ false → map (new_axis (keeping upper x)) ys ≡ ys
  axes_stay [] lacks = refl
  axes_stay (y ∷ ys) lacks = let parts = or_parts (bytes_eq x.name y.name) (among (axis_names ys) x.name) lacks in ap (λ b. changed_if y b ∷ map new ys) parts.0 ∙ ap (λ zs. y ∷ zs) (axes_stay ys parts.1)

  pub shape_left : (ys : List Axis) (k : ℕ) → k < length ys → are_distinct (axis_names ys) ≡ true → get_or ys k no_axis ≡ x → shape_over (map (new_axis (keeping upper x)) ys) ≡ set (shape_over ys) k (x.size - 1)
  shape_left [] k lt d at = absurd (omega arith)
  shape_left (y ∷ ys) zero lt d at =
      ap (λ z. (new z).size ∷ shape_over (map new ys)) at ∙ ap (λ n. n ∷ shape_over (map new ys)) (ap (λ b. (changed_if x b).size) (itself x.name) ∙ changed_size x)
      ∙ ap (λ zs. (x.size - 1) ∷ shape_over zs) (axes_stay ys (ap (λ (z : Axis). among (axis_names ys) z.name) (sym at) ∙ (distinct_parts y.name (axis_names ys) d).0))
  shape_left (y ∷ ys) (suc k) lt d at =
      let parts = distinct_parts y.name (axis_names ys) d in
      let other : bytes_eq x.name y.name ≡ false = ap (λ (z : Axis). bytes_eq z.name y.name) (sym at) ∙ bytes_eq_swap (get_or ys k no_axis).name y.name ∙ absent_at ys k y.name (omega arith) parts.0 in
      ap (λ b. (changed_if y b).size ∷ shape_over (map new ys)) other ∙ ap (λ s. y.size ∷ s) (shape_left ys k (omega arith) parts.1 at)

-- Cells along axes that come to joined ones are those of the array over the joined axes.
use Rattle.xr_aligning.proofs.Common.{AreBelow, Array, Arrive, Arrives, Axis, Bool, Fit, IsPoint, List, None, Option, Some, Step, StepsFit, TakesFit, [], all_sources, along, any_hole, ap, append_assoc, arith, at, cell_or, cells_after, each_at, each_long, each_position, false, fill_in, fit_of, fitted_cells, from_source, get_or, get_or-append_seam, has_hole, is_none, is_some, joined_in, length, length-append, length-set, list_any, lit<, made, made_by, map, next_axis, option_map, or_parts, refl, set, set-get_or, shape_over, size, source_point, sources, stays, stays_each, step_by, steps_from, steps_value, subst, suc, sym, tab-length, tab_same, taken_from, true, unless_stays, zero, ℕ, ℤ, ◌++◌, ◌+◌, ◌<◌, ◌||◌, ◌∙◌, ◌∷◌, ◌≡◌, ◌≤◌}
use Rattle.xr_aligning.proofs.Takes.{next, taken_all, taken_each, taken_shape}

-- ---- positions that stay

module _ (fill : Option ℤ) (a : Array) (k n : ℕ) (within : k < length a.shape) (sized : get_or a.shape k 0 ≡ n) where
  same_shape : set a.shape k (length (each_position n)) ≡ a.shape
  same_shape = ap (set a.shape k) (each_long n ∙ sym sized) ∙ set-get_or a.shape k 0

  point_below : (s p : List ℕ) (k : ℕ) → IsPoint s p → k < length s → get_or p k 0 < get_or s k 0
  point_below [] p k here lt = absurd (omega arith)
  point_below (m ∷ s) [] k here lt = absurd here
  point_below (m ∷ s) (i ∷ p) zero here lt = here.0
  point_below (m ∷ s) (i ∷ p) (suc k) here lt = point_below s p k here.1 (omega arith)

  shown_same : (p : List ℕ) → IsPoint a.shape p → from_source a fill (λ i. along k i p) (get_or (each_position n) (get_or p k 0) None) ≡ at a p
  shown_same p here =
      let below = point_below a.shape p k here within in
      ap (from_source a fill (λ i. along k i p)) (each_at n (get_or p k 0) (omega arith)) ∙ ap (at a) (set-get_or p k 0)

  each_taken : length a.cells ≡ size a.shape → taken_from a k (each_position n) fill ≡ a
  each_taken whole =
      ap (λ s. made a.kind s (λ p. from_source a fill (λ i. along k i p) (get_or (each_position n) (get_or p k 0) None))) same_shape
      ∙ sym (made_by a a.kind a.shape (λ p. from_source a fill (λ i. along k i p) (get_or (each_position n) (get_or p k 0) None)) whole refl refl (λ p here. sym (shown_same p here)))

seam_length : (s1 ns : List ℕ) (n : ℕ) → length s1 < length (s1 ++ n ∷ ns)
seam_length s1 ns n = let long = length-append s1 (n ∷ ns) in omega arith

-- ---- one step

abbrev taken_by : Option (List (Option ℕ)) → ℕ → Option ℤ → Array → Array
taken_by None k fill a = a
taken_by (Some from) k fill a = taken_from a k from fill

one_step : (fill : Option ℤ) (k : ℕ) (o : Option (List (Option ℕ))) (ss : List Step) (a : Array) → steps_value (step_by fill k o ++ ss) a ≡ steps_value ss (taken_by o k fill a)
one_step fill k None ss a = refl
one_step fill k (Some from) ss a = refl

-- what a plan takes of the sizes and the kind of an array it takes of the array
pub steps_fit : (fill : Option ℤ) (k : ℕ) (fs : List Fit) (a : Array) → length a.shape ≤ 16 → TakesFit (steps_from fill k fs) a.shape a.kind → StepsFit (steps_from fill k fs) a
steps_fit fill k [] a low fit = tt
steps_fit fill k (f ∷ fs) a low fit = by f.from (steps_fit fill (k + 1) fs) fit
  where
    by : (o : Option (List (Option ℕ))) → ((b : Array) → length b.shape ≤ 16 → TakesFit (steps_from fill (k + 1) fs) b.shape b.kind → StepsFit (steps_from fill (k + 1) fs) b) → TakesFit (step_by fill k o ++ steps_from fill (k + 1) fs) a.shape a.kind → StepsFit (step_by fill k o ++ steps_from fill (k + 1) fs) a
    by None rest fit = rest a low fit
    by (Some from) rest fit =
        let rank : length (set a.shape k (length from)) ≡ length a.shape = length-set a.shape k (length from) in (
          record { fits = (lit< tt, fit.0.axis, fit.0.below, fit.0.cell, λ e. absurd cc); small = fit.0.small; low_rank = omega arith },
          rest (taken_from a k from fill) (omega arith) fit.1,
        )

-- ---- all axes, one after another

module _ (joined : List Axis) (fill : Option ℤ) where
  module _ (s1 ns : List ℕ) (x : Axis) (a : Array) (there : Arrives joined x) (shape : a.shape ≡ s1 ++ x.size ∷ ns) (whole : length a.cells ≡ size a.shape) where
    abbrev j : Axis
    j = joined_in joined x

    abbrev now : Array
    now = next fill s1 (sources x j) a

    within : length s1 < length a.shape
    within = subst (λ s. length s1 < length s) (sym shape) (seam_length s1 ns x.size)

    sized : get_or a.shape (length s1) 0 ≡ x.size
    sized = ap (λ s. get_or s (length s1) 0) shape ∙ get_or-append_seam s1 x.size ns 0

    one_value : taken_by (fit_of joined x).from (length s1) fill a ≡ now
    one_value = by (stays x.labels j.labels) refl
      where
        by : (b : Bool) → stays x.labels j.labels ≡ b → taken_by (unless_stays b (sources x j)) (length s1) fill a ≡ now
        by true e =
            let size_is = there.kept e in
            sym (ap (λ s. taken_from a (length s1) s fill) (stays_each x j e) ∙ each_taken fill a (length s1) j.size within (sized ∙ size_is) whole)
        by false e = refl

    now_shape : now.shape ≡ s1 ++ j.size ∷ ns
    now_shape = taken_shape fill a s1 ns x.size (sources x j) shape ∙ ap (λ n. s1 ++ n ∷ ns) there.long

    now_whole : length now.cells ≡ size now.shape
    now_whole = tab-length now.shape (λ p. from_source a fill (λ i. along (length s1) i p) (get_or (sources x j) (get_or p (length s1) 0) None))

  along_value : (s1 : List ℕ) (k : ℕ) (xs : List Axis) (a : Array) → Arrive joined xs → k ≡ length s1 → a.shape ≡ s1 ++ shape_over xs → length a.cells ≡ size a.shape
      → steps_value (steps_from fill k (map (fit_of joined) xs)) a ≡ taken_each fill k (all_sources joined xs) a
  along_value s1 k [] a all e shape whole = refl
  along_value s1 k (x ∷ xs) a all e shape whole =
      let j = joined_in joined x in
      let more : k + 1 ≡ length (s1 ++ j.size ∷ []) = (let n = next_axis s1 j.size in omega arith) in
      let long : (now s1 (shape_over xs) x a all.0 shape whole).shape ≡ (s1 ++ j.size ∷ []) ++ shape_over xs = now_shape s1 (shape_over xs) x a all.0 shape whole ∙ sym (append_assoc s1 (j.size ∷ []) (shape_over xs)) in
      one_step fill k (fit_of joined x).from (steps_from fill (k + 1) (map (fit_of joined) xs)) a
      ∙ ap (λ m. steps_value (steps_from fill (k + 1) (map (fit_of joined) xs)) (taken_by (fit_of joined x).from m fill a)) e
      ∙ ap (steps_value (steps_from fill (k + 1) (map (fit_of joined) xs))) (one_value s1 (shape_over xs) x a all.0 shape whole)
      ∙ along_value (s1 ++ j.size ∷ []) (k + 1) xs (now s1 (shape_over xs) x a all.0 shape whole) all.1 more long (now_whole s1 (shape_over xs) x a all.0 shape whole)
      ∙ ap (λ m. taken_each fill (k + 1) (all_sources joined xs) (taken_from a m (sources x j) fill)) (sym e)

-- ---- the array over the joined axes

module _ (joined : List Axis) where
  pub all_below : (xs : List Axis) → Arrive joined xs → AreBelow (shape_over xs) (all_sources joined xs)
  all_below [] all = tt
  all_below (x ∷ xs) all = (all.0.below, all_below xs all.1)

  pub all_long : (xs : List Axis) → Arrive joined xs → map length (all_sources joined xs) ≡ shape_over (map (joined_in joined) xs)
  all_long [] all = refl
  all_long (x ∷ xs) all = (λ i. all.0.long i ∷ all_long xs all.1 i)

  taken_is : (fill : Option ℤ) (xs : List Axis) (a : Array) → Arrive joined xs → length a.cells ≡ size a.shape → a.shape ≡ shape_over xs → steps_value (steps_from fill 0 (map (fit_of joined) xs)) a ≡ fitted_cells joined xs fill a
  taken_is fill xs a all whole shape =
      along_value joined fill [] 0 xs a all refl shape whole
      ∙ taken_all fill (shape_over xs) (all_sources joined xs) a whole shape (all_below xs all) ∙ ap (λ s. made a.kind s (λ p. cell_or fill a (source_point (all_sources joined xs) p))) (all_long xs all)

  pub same_hole : (xs : List Axis) → any_hole (map (fit_of joined) xs) ≡ has_hole joined xs
  same_hole [] = refl
  same_hole (x ∷ xs) = ap (λ b. list_any is_none (sources x (joined_in joined x)) || b) (same_hole xs)

-- ---- a fill that isn't needed

each_source : (s : List (Option ℕ)) (i : ℕ) → list_any is_none s ≡ false → i < length s → is_some (get_or s i None) ≡ true
each_source [] i whole lt = absurd (omega arith)
each_source (None ∷ s) zero whole lt = absurd cc
each_source (Some k ∷ s) zero whole lt = refl
each_source (o ∷ s) (suc i) whole lt = each_source s i (or_parts (is_none o) (list_any is_none s) whole).1 (omega arith)

pub source_some : (ss : List (List (Option ℕ))) (p : List ℕ) → list_any (λ s. list_any is_none s) ss ≡ false → IsPoint (map length ss) p → is_some (source_point ss p) ≡ true
source_some [] p whole here = refl
source_some (s ∷ ss) [] whole here = refl
source_some (s ∷ ss) (i ∷ p) whole here =
    let parts = or_parts (list_any is_none s) (list_any (λ s. list_any is_none s) ss) whole in
    by (get_or s i None) (source_point ss p) (each_source s i parts.0 here.0) (source_some ss p parts.1 here.1)
  where
    by : (o : Option ℕ) (r : Option (List ℕ)) → is_some o ≡ true → is_some r ≡ true → is_some (elim o [ None ↦ None | Some k ↦ option_map (λ q. k ∷ q) r ]) ≡ true
    by None r e f = absurd cc
    by (Some k) None e f = absurd cc
    by (Some k) (Some q) e f = refl

module _ (joined : List Axis) (fill : Option ℤ) (xs : List Axis) (a : Array) (all : Arrive joined xs) where
  unfilled : has_hole joined xs ≡ false → fitted_cells joined xs None a ≡ fitted_cells joined xs fill a
  unfilled whole =
      ap (λ cells. record { kind = a.kind; shape = shape_over (map (joined_in joined) xs); cells = cells })
      (tab_same (shape_over (map (joined_in joined) xs)) (λ p. cell_or None a (source_point (all_sources joined xs) p)) (λ p. cell_or fill a (source_point (all_sources joined xs) p))
      (λ p here. same (source_point (all_sources joined xs) p) (source_some (all_sources joined xs) p whole (subst (λ s. IsPoint s p) (sym (all_long joined xs all)) here))))
    where
      same : (o : Option (List ℕ)) → is_some o ≡ true → cell_or None a o ≡ cell_or fill a o
      same None e = absurd cc
      same (Some q) e = refl

  -- the cells along each axis are those at the positions of all, or the fill
  pub after_is : length a.cells ≡ size a.shape → a.shape ≡ shape_over xs → cells_after fill (map (fit_of joined) xs) a ≡ fitted_cells joined xs fill a
  after_is whole shape = ap (λ b. steps_value (steps_from (fill_in b fill) 0 (map (fit_of joined) xs)) a) (same_hole joined xs) ∙ by (has_hole joined xs) refl
    where
      by : (b : Bool) → has_hole joined xs ≡ b → steps_value (steps_from (fill_in b fill) 0 (map (fit_of joined) xs)) a ≡ fitted_cells joined xs fill a
      by true e = taken_is joined fill xs a all whole shape
      by false e = taken_is joined None xs a all whole shape ∙ unfilled e

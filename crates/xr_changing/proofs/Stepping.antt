-- What the steps to new labels make of cells.
use Rattle.xr_changing.proofs.Common.{All, AllByRecursion, Array, Axis, Bool, Change, IsBelow, IsCell, IsPoint, List, None, Option, Some, Step, StepsFit, TakesFit, [], along, ap, append_assoc, arith, axis_called, called_below, cells_along, cells_by, change_called, changed_axis, false, from_source, get_or, greatest, greatest_both, has_hole, is_none, is_open, is_some, length, length-append, length-set, list_any, lit<, map, mul-le, new_axis, or_right, place, refl, set, size, size_up, step_by, steps_cells, steps_from, steps_value, suc, sym, taken_from, true, zero, ℕ, ℤ, ◌&&◌, ◌*◌, ◌++◌, ◌<◌, ◌||◌, ◌∙◌, ◌∷◌, ◌≡◌, ◌≤◌}
use Rattle.std.proofs.Math.Seq.{set-append_seam}
use Rattle.plan_core.proofs.Tabs.{All-tab, place_below, suc_times}
use Rattle.plan_core.proofs.Valued.{taken_is}

-- ---- the steps make the cells along the new axes

one_along : (fill : Option ℤ) (k : ℕ) (o : Option Change) (ss : List Step) (a : Array) → steps_value (step_by fill k o ++ ss) a ≡ steps_value ss (cells_by fill a k o)
one_along fill k None ss a = refl
one_along fill k (Some c) ss a = refl

pub value_along : (cs : List Change) (fill : Option ℤ) (k : ℕ) (dims : List (List ℕ)) (a : Array) → steps_value (steps_from cs fill k dims) a ≡ cells_along cs fill k dims a
value_along cs fill k [] a = refl
value_along cs fill k (d ∷ dims) a = one_along fill k (change_called cs d) (steps_from cs fill (suc k) dims) a ∙ value_along cs fill (suc k) dims (cells_by fill a k (change_called cs d))

-- ---- cells of the kind, missing only where they were or where a missing one fills

-- a cell of the kind for each point, and none that is missing unless the array is masked
pub record AreAll (masked : Bool) (a : Array) : Type 0 where
  pub whole : length a.cells ≡ size a.shape
  pub range : All (IsCell a.kind) a.cells
  pub seen : masked ≡ false → All (λ c. is_some c ≡ true) a.cells

-- its position along an axis that has other ones, and the point with an old one in its place
inside_at : (s : List ℕ) (k n q : ℕ) (p : List ℕ) → k < length s → IsPoint (set s k n) p → (get_or p k 0 < n) × (q < get_or s k 0 → IsPoint s (along k q p))
inside_at [] k n q p lt inside = absurd (omega arith)
inside_at (m ∷ ns) zero n q (i ∷ p) lt inside = (inside.0, λ below. (below, inside.1))
inside_at (m ∷ ns) (suc k) n q (i ∷ p) lt inside = let rest = inside_at ns k n q p (omega arith) inside.1 in (rest.0, λ below. (inside.0, rest.1 below))
inside_at (m ∷ ns) zero n q [] lt inside = absurd inside
inside_at (m ∷ ns) (suc k) n q [] lt inside = absurd inside

module _ (a : Array) (masked : Bool) (is : AreAll masked a) (k : ℕ) (from : List (Option ℕ)) (fill : Option ℤ) (lt : k < length a.shape) (below : All (IsBelow (get_or a.shape k 0)) from) (fits : IsCell a.kind fill)
    (covers : masked ≡ false → (i : ℕ) → i < length from → (is_some (get_or from i None) || is_some fill) ≡ true) where
  seen : masked ≡ false → (p : List ℕ) → IsPoint (set a.shape k (length from)) p → (o : Option ℕ) → IsBelow (get_or a.shape k 0) o → (is_some o || is_some fill) ≡ true → is_some (from_source a fill (λ i. along k i p) o) ≡ true
  seen plain p here None b some = some
  seen plain p here (Some i) b some =
      let low = place_below a.shape (along k i p) ((inside_at a.shape k (length from) i p lt here).1 b) in
      let whole = is.whole in
      is.seen plain (place a.shape (along k i p)) None (omega (arith, low, whole))

  pub taken_all : AreAll masked (taken_from a k from fill)
  taken_all =
      let made = taken_is false a k from fill (record { whole = is.whole; range = is.range }) fits in
      record {
        whole = made.whole;
        range = made.range;
        seen = λ plain. All-tab (λ c. is_some c ≡ true) (set a.shape k (length from)) (λ p. from_source a fill (λ i. along k i p) (get_or from (get_or p k 0) None))
            (λ p here.
            let lt = (inside_at a.shape k (length from) 0 p lt here).0 in
            seen plain p here (get_or from (get_or p k 0) None) (below (get_or p k 0) None lt) (covers plain (get_or p k 0) lt));
      }

-- each position shows an old one, or a number
covered : (from : List (Option ℕ)) (fill : Option ℤ) → (list_any is_none from && is_none fill) ≡ false → (i : ℕ) → i < length from → (is_some (get_or from i None) || is_some fill) ≡ true
covered from (Some n) e i lt = or_right (is_some (get_or from i None)) true refl
covered [] None e i lt = absurd (omega arith)
covered (None ∷ from) None e i lt = absurd cc
covered (Some p ∷ from) None e zero lt = refl
covered (Some p ∷ from) None e (suc i) lt = covered from None e i (omega arith)

-- ---- what steps make of cells, along dimensions behind others

grown : (front s t : List ℕ) → size s ≤ size t → size (front ++ s) ≤ size (front ++ t)
grown [] s t le = le
grown (n ∷ front) s t le = mul-le n (size (front ++ s)) n (size (front ++ t)) (omega arith) (grown front s t le)

none_open : (a b c : Bool) → ((a || b) && c) ≡ false → ((a && c) ≡ false) × ((b && c) ≡ false)
none_open true true c e = (e, e)
none_open true false c e = (e, refl)
none_open false b c e = (refl, e)

-- cells of these sizes, and how many are added on the way
pub record IsAlong (masked : Bool) (ss : List Step) (a b : Array) (sizes : List ℕ) (most : ℕ) : Type 0 where
  pub shape : b.shape ≡ sizes
  pub kind : b.kind ≡ a.kind
  pub fits : StepsFit ss a
  pub all : AreAll masked b
  pub few : steps_cells ss a ≤ most

module _ (cs : List Change) (fill : Option ℤ) (masked : Bool) (axes : List Axis) (most : ℕ) where
  abbrev pub old : List ℕ → ℕ
  old d = (axis_called axes d).size

  abbrev pub new : List ℕ → ℕ
  new d = (axis_called (map (new_axis cs) axes) d).size

  -- the greatest of both
  abbrev pub wide : List ℕ → ℕ
  wide d = greatest (axes ++ map (new_axis cs) axes) d

  old_low : (d : List ℕ) → old d ≤ wide d
  old_low d = let both = greatest_both axes (map (new_axis cs) axes) d in let low = called_below axes d in omega arith

  new_low : (d : List ℕ) → new d ≤ wide d
  new_low d = let both = greatest_both axes (map (new_axis cs) axes) d in let low = called_below (map (new_axis cs) axes) d in omega arith

  -- the old sizes of these dimensions become the new ones, and no array on the way has more cells than so many
  abbrev pub Goes : (ℕ → List Step) → List (List ℕ) → Type 0
  Goes ss dims = (front : List ℕ) (k : ℕ) (a : Array) → k ≡ length front → a.shape ≡ front ++ map old dims → length a.shape ≤ 16 → size (front ++ map wide dims) ≤ most → TakesFit (ss k) a.shape a.kind → AreAll masked a → IsAlong masked (ss k) a (steps_value (ss k) a) (front ++ map new dims) (length dims * most)

  -- behind one that has its new size
  behind : (d : List ℕ) (dims : List (List ℕ)) → Goes (λ k. steps_from cs fill k dims) dims → (front : List ℕ) (k : ℕ) (a : Array) → k ≡ length front → a.shape ≡ front ++ new d ∷ map old dims → length a.shape ≤ 16 → size (front ++ wide d ∷ map wide dims) ≤ most → TakesFit (steps_from cs fill (suc k) dims) a.shape a.kind → AreAll masked a
      → IsAlong masked (steps_from cs fill (suc k) dims) a (steps_value (steps_from cs fill (suc k) dims) a) (front ++ new d ∷ map new dims) (length dims * most)
  behind d dims rest front k a e shape rank few fit is =
      let long = length-append front (new d ∷ []) in
      let up = grown front (new d ∷ map wide dims) (wide d ∷ map wide dims) (mul-le (new d) (size (map wide dims)) (wide d) (size (map wide dims)) (new_low d) (omega arith)) in
      let same = ap size (append_assoc front (new d ∷ []) (map wide dims)) in
      let r = rest (front ++ new d ∷ []) (suc k) a (omega (arith, long)) (shape ∙ sym (append_assoc front (new d ∷ []) (map old dims))) rank (omega (arith, up, same)) fit is in
      record { shape = r.shape ∙ append_assoc front (new d ∷ []) (map new dims); kind = r.kind; fits = r.fits; all = r.all; few = r.few }

  one_more : (d : List ℕ) (dims : List (List ℕ)) (o : Option Change) → new d ≡ (changed_axis (axis_called axes d) o).size → (masked ≡ false → (is_open o && is_none fill) ≡ false) → Goes (λ k. steps_from cs fill k dims) dims → Goes (λ k. step_by fill k o ++ steps_from cs fill (suc k) dims) (d ∷ dims)
  one_more d dims None same plain rest front k a e shape rank few fit is =
      let r = behind d dims rest front k a e (shape ∙ ap (λ n. front ++ n ∷ map old dims) (sym same)) rank few fit is in
      let more = suc_times (length dims) most in
      let added = r.few in
      record { shape = r.shape; kind = r.kind; fits = r.fits; all = r.all; few = omega (arith, more, added) }
  one_more d dims (Some c) same plain rest front k a e shape rank few fit is =
      let m = length c.from in
      let now : set a.shape k m ≡ front ++ new d ∷ map old dims = (λ i. set (shape i) (e i) m) ∙ set-append_seam front (old d) (map old dims) m ∙ ap (λ n. front ++ n ∷ map old dims) (sym same) in
      let long = length-set a.shape k m in
      let all = taken_all a masked is k c.from fill fit.0.axis fit.0.below fit.0.cell (λ f. covered c.from fill (plain f)) in
      let r = behind d dims rest front k (taken_from a k c.from fill) e now (omega (arith, long)) few fit.1 all in
      let up = grown front (new d ∷ map old dims) (wide d ∷ map wide dims) (mul-le (new d) (size (map old dims)) (wide d) (size (map wide dims)) (new_low d) (size_up old wide dims old_low)) in
      let here = ap size now in
      let more = suc_times (length dims) most in
      let added = r.few in
      record {
        shape = r.shape;
        kind = r.kind;
        fits = (record { fits = (lit< tt, fit.0.axis, fit.0.below, fit.0.cell, λ e. absurd cc); small = fit.0.small; low_rank = omega (arith, long) }, r.fits);
        all = r.all;
        few = omega (arith, up, here, more, added);
      }

  pub all_along : (dims : List (List ℕ)) → AllByRecursion (λ d. new d ≡ (changed_axis (axis_called axes d) (change_called cs d)).size) dims → (masked ≡ false → (has_hole cs dims && is_none fill) ≡ false) → Goes (λ k. steps_from cs fill k dims) dims
  all_along [] sizes plain = λ front k a e shape rank few fit is. record { shape = shape; kind = refl; fits = tt; all = is; few = omega arith }
  all_along (d ∷ dims) sizes plain =
      let parts = λ (f : masked ≡ false). none_open (is_open (change_called cs d)) (has_hole cs dims) (is_none fill) (plain f) in
      one_more d dims (change_called cs d) sizes.0 (λ f. (parts f).0) (all_along dims sizes.1 (λ f. (parts f).1))

-- Names that are as many as those of the axes and differ are all of them.
use Rattle.xr_parts.proofs.Common.{All, All-head, All-tail, AllByRecursion, Axis, Bool, IsArrangement, IsOrder, IsThere, List, [], among, and_parts, ap, are_distinct, arith, axes_called, axis_called, axis_names, bytes_eq, bytes_eq_swap, cases_Bool, cond, eq-eqb, false, get_or, inl, inr, is_once, length, length-map, list_any, map, no_axis, not, not-true, or_left, or_parts, or_right, refl, shape_over, size, suc, subst, sym, true, zero, ℕ, ◌*◌, ◌<◌, ◌==◌, ◌||◌, ◌∙◌, ◌∷◌, ◌≡◌}
use Rattle.xr_parts.proofs.Words.{AreAmong, distinct_cons, distinct_parts, neither, same_text}
use Rattle.xr_parts.proofs.Axes.{called_cons, called_on, own_axes}

-- ---- an axis taken out

abbrev out : List ℕ → List Axis → List Axis
out name [] = []
out name (x ∷ xs) = cond (bytes_eq x.name name) xs (x ∷ out name xs)

module _ (name : List ℕ) where
  taken_out : (axes : List Axis) → among (axis_names axes) name ≡ true
      → (size (shape_over axes) ≡ (axis_called axes name).size * size (shape_over (out name axes))) × (length axes ≡ suc (length (out name axes)))
  taken_out [] has = absurd cc
  taken_out (x ∷ xs) has =
      subst (λ (y : Axis). (size (shape_over (x ∷ xs)) ≡ y.size * size (shape_over (out name (x ∷ xs)))) × (length (x ∷ xs) ≡ suc (length (out name (x ∷ xs))))) (sym (called_cons x xs name))
      (by (bytes_eq x.name name) (ap (λ t. t || among (axis_names xs) name) (bytes_eq_swap x.name name) ∙ has) (taken_out xs))
    where
      turned : (a b c : ℕ) → a * (b * c) ≡ b * (a * c)
      turned a b c = grind arith

      by : (b : Bool) → (b || among (axis_names xs) name) ≡ true → (among (axis_names xs) name ≡ true → (size (shape_over xs) ≡ (axis_called xs name).size * size (shape_over (out name xs))) × (length xs ≡ suc (length (out name xs))))
          → (x.size * size (shape_over xs) ≡ (cond b x (axis_called xs name)).size * size (shape_over (cond b xs (x ∷ out name xs)))) × (suc (length xs) ≡ suc (length (cond b xs (x ∷ out name xs))))
      by true e rest = (refl, refl)
      by false e rest = let more = rest e in (ap (λ n. x.size * n) more.0 ∙ turned x.size (axis_called xs name).size (size (shape_over (out name xs))), ap suc more.1)

  -- an axis of another name stays
  left_out : (other : List ℕ) → bytes_eq name other ≡ false → (axes : List Axis) → (axis_called (out name axes) other ≡ axis_called axes other) × (among (axis_names (out name axes)) other ≡ among (axis_names axes) other)
  left_out other differ [] = (refl, refl)
  left_out other differ (x ∷ xs) = by (bytes_eq x.name name) refl (left_out other differ xs)
    where
      by : (b : Bool) → bytes_eq x.name name ≡ b → (axis_called (out name xs) other ≡ axis_called xs other) × (among (axis_names (out name xs)) other ≡ among (axis_names xs) other)
          → (axis_called (cond b xs (x ∷ out name xs)) other ≡ axis_called (x ∷ xs) other) × (among (axis_names (cond b xs (x ∷ out name xs))) other ≡ among (axis_names (x ∷ xs)) other)
      by true e rest =
          let apart : bytes_eq x.name other ≡ false = ap (λ n. bytes_eq n other) (same_text x.name name e) ∙ differ in
          (sym (called_on x xs other apart), sym (ap (λ b. b || among (axis_names xs) other) (bytes_eq_swap other x.name ∙ apart)))
      by false e rest = (called_cons x (out name xs) other ∙ ap (cond (bytes_eq x.name other) x) rest.0 ∙ sym (called_cons x xs other), ap (λ b. bytes_eq other x.name || b) rest.1)

abbrev pub sizes : List Axis → List (List ℕ) → List ℕ
sizes axes dims = map (λ d. (axis_called axes d).size) dims

-- the names behind one that differs from them are left
others_left : (d : List ℕ) (ds : List (List ℕ)) (axes : List Axis) → among ds d ≡ false → AreAmong (axis_names axes) ds → AreAmong (axis_names (out d axes)) ds × (sizes (out d axes) ds ≡ sizes axes ds)
others_left d [] axes lacks all = (tt, refl)
others_left d (n ∷ ns) axes lacks all =
    let parts = or_parts (bytes_eq d n) (among ns d) lacks in
    let here = left_out d n parts.0 axes in
    let rest = others_left d ns axes parts.1 all.1 in
    ((here.1 ∙ all.0, rest.0), ap (λ (x : Axis). x.size ∷ sizes (out d axes) ns) here.0 ∙ ap (λ t. (axis_called axes n).size ∷ t) rest.1)

-- ---- all of the axes

pub all_named : (dims : List (List ℕ)) (axes : List Axis) → AreAmong (axis_names axes) dims → are_distinct dims ≡ true → length dims ≡ length axes
    → (size (sizes axes dims) ≡ size (shape_over axes)) × ((name : List ℕ) → among (axis_names axes) name ≡ true → among dims name ≡ true)
all_named [] [] all d long = (refl, λ name has. has)
all_named [] (x ∷ xs) all d long = absurd (omega arith)
all_named (n ∷ ns) axes all d long =
    let parts = distinct_parts n ns d in
    let taken = taken_out n axes all.0 in
    let left = others_left n ns axes parts.0 all.1 in
    let fewer : length axes ≡ suc (length (out n axes)) = taken.1 in
    let rest = all_named ns (out n axes) left.0 parts.1 (omega arith) in (
      ap (λ t. (axis_called axes n).size * size t) (sym left.1) ∙ ap (λ m. (axis_called axes n).size * m) rest.0 ∙ sym taken.0,
      λ name has.
          elim (cases_Bool (bytes_eq n name)) [
            | inl e ↦ or_left (bytes_eq name n) (among ns name) (bytes_eq_swap name n ∙ e)
            | inr e ↦ or_right (bytes_eq name n) (among ns name) (rest.1 name ((left_out n name e axes).1 ∙ has))
          ],
    )

-- ---- axes by their numbers

abbrev pub named_at : List Axis → ℕ → List ℕ
named_at axes k = (get_or axes k no_axis).name

there_at : (axes xs : List Axis) (k : ℕ) → AllByRecursion (IsThere axes) xs → k < length xs → IsThere axes (get_or xs k no_axis)
there_at axes [] k all lt = absurd (omega arith)
there_at axes (x ∷ xs) zero all lt = all.0
there_at axes (x ∷ xs) (suc k) all lt = there_at axes xs k all.1 (omega arith)

among_at : (xs : List Axis) (k : ℕ) (name : List ℕ) → k < length xs → among (axis_names xs) name ≡ false → bytes_eq name (named_at xs k) ≡ false
among_at [] k name lt lacks = absurd (omega arith)
among_at (x ∷ xs) zero name lt lacks = (or_parts (bytes_eq name x.name) (among (axis_names xs) name) lacks).0
among_at (x ∷ xs) (suc k) name lt lacks = among_at xs k name (omega arith) (or_parts (bytes_eq name x.name) (among (axis_names xs) name) lacks).1

never : (b : Bool) → b ≡ true → b ≡ false → ⊥
never b s t = cc

-- axes of one name have one number
same_place : (axes : List Axis) (j k : ℕ) → are_distinct (axis_names axes) ≡ true → j < length axes → k < length axes → bytes_eq (named_at axes j) (named_at axes k) ≡ true → j ≡ k
same_place [] j k d lj lk e = absurd (omega arith)
same_place (x ∷ xs) zero zero d lj lk e = refl
same_place (x ∷ xs) zero (suc k) d lj lk e = absurd (never _ e (among_at xs k x.name (omega arith) (distinct_parts x.name (axis_names xs) d).0))
same_place (x ∷ xs) (suc j) zero d lj lk e = absurd (never _ (bytes_eq_swap x.name (named_at xs j) ∙ e) (among_at xs j x.name (omega arith) (distinct_parts x.name (axis_names xs) d).0))
same_place (x ∷ xs) (suc j) (suc k) d lj lk e = ap suc (same_place xs j k (distinct_parts x.name (axis_names xs) d).1 (omega arith) (omega arith) e)

module _ (axes : List Axis) (distinct : are_distinct (axis_names axes) ≡ true) where
  abbrev pub names_at : List ℕ → List (List ℕ)
  names_at order = map (named_at axes) order

  pub called_names : (order : List ℕ) → All (λ k. k < length axes) order → map (λ k. get_or axes k no_axis) order ≡ axes_called axes (names_at order)
  called_names [] below = refl
  called_names (k ∷ ks) below =
      let there = there_at axes axes k (own_axes axes distinct) (All-head (λ k. k < length axes) k ks below) in
      ap (λ (x : Axis). x ∷ map (λ k. get_or axes k no_axis) ks) (sym there.1) ∙ ap (λ xs. axis_called axes (named_at axes k) ∷ xs) (called_names ks (All-tail (λ k. k < length axes) k ks below))

  pub names_among : (order : List ℕ) → All (λ k. k < length axes) order → AreAmong (axis_names axes) (names_at order)
  names_among [] below = tt
  names_among (k ∷ ks) below = ((there_at axes axes k (own_axes axes distinct) (All-head (λ k. k < length axes) k ks below)).0, names_among ks (All-tail (λ k. k < length axes) k ks below))

  other_numbers : (k : ℕ) (ks : List ℕ) → k < length axes → All (λ k. k < length axes) ks → list_any (λ j. j == k) ks ≡ false → among (names_at ks) (named_at axes k) ≡ false
  other_numbers k [] lt below lacks = refl
  other_numbers k (j ∷ js) lt below lacks =
      let parts = or_parts (j == k) (list_any (λ j. j == k) js) lacks in
      neither (bytes_eq (named_at axes k) (named_at axes j)) (among (names_at js) (named_at axes k))
      (elim (cases_Bool (bytes_eq (named_at axes k) (named_at axes j))) [
        | inl e ↦ absurd (never (j == k) (eq-eqb j k (sym (same_place axes k j distinct lt (All-head (λ k. k < length axes) j js below) e))) parts.0)
        | inr e ↦ e
      ])
      (other_numbers k js lt (All-tail (λ k. k < length axes) j js below) parts.1)

  pub names_differ : (order : List ℕ) → All (λ k. k < length axes) order → is_once order ≡ true → are_distinct (names_at order) ≡ true
  names_differ [] below once = refl
  names_differ (k ∷ ks) below once =
      let parts = and_parts (not (list_any (λ j. j == k) ks)) (is_once ks) once in
      let rest = All-tail (λ k. k < length axes) k ks below in
      distinct_cons (named_at axes k) (names_at ks) (other_numbers k ks (All-head (λ k. k < length axes) k ks below) rest (not-true (list_any (λ j. j == k) ks) parts.0)) (names_differ ks rest parts.1)

  any_number : (k : ℕ) (ks : List ℕ) → k < length axes → All (λ k. k < length axes) ks → among (names_at ks) (named_at axes k) ≡ true → list_any (λ j. j == k) ks ≡ true
  any_number k ks lt below has =
      elim (cases_Bool (list_any (λ j. j == k) ks)) [
        | inl e ↦ e
        | inr e ↦ absurd (never (among (names_at ks) (named_at axes k)) has (other_numbers k ks lt below e))
      ]

  -- each axis stands somewhere
  pub order_from : (order : List ℕ) → IsArrangement (length axes) order → IsOrder (length axes) order
  order_from order is = (
    is.long,
    λ k lt.
        let long : length (names_at order) ≡ length axes = length-map order (named_at axes) ∙ is.long in
        let there = there_at axes axes k (own_axes axes distinct) lt in
        any_number k order lt is.below ((all_named (names_at order) axes (names_among order is.below) (names_differ order is.below is.once) long).1 (named_at axes k) there.0),
  )

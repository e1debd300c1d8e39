-- An axis of a value has labels after the join where it has some, and stays bare where it has none.
use Rattle.xr_aligning.proofs.Common.{AllByRecursion, Axis, Bool, How, IsThere, KeepsLabels, Labels, List, None, Ok, Option, SizeConflict, Some, WouldPromote, [], aligned, all_names, among, among_both, ap, are_distinct, axes_named, axis_called, axis_names, axis_of, bind_ok, bytes_eq, bytes_eq_swap, called_cons, called_holds, cond, distinct_parts, each_left, each_weaker, false, has_all, has_labels, has_size, indexes, inner, is_some, join, joined_each, joined_index, joined_or_own, labelled_axis, labels_of, length, list_all, list_any, names_once, of_called, once_among, or_left, or_parts, or_right, refl, same_text, subst, sym, true, unless, with_labels, ℕ, ◌&&◌, ◌>>=◌, ◌||◌, ◌∙◌, ◌∷◌, ◌≡◌}
use Rattle.xr_parts.proofs.Axes.{own_axes}

-- ---- the joined axis of a name

-- whether one of the axes has labels
abbrev pub some_labels : List Labels → Bool
some_labels [] = false
some_labels (l ∷ ls) = true

has_own : (j : How) (x m : Axis) (ls : List Labels) → labelled_axis j x ls ≡ Ok m → some_labels ls ≡ true → is_some m.labels ≡ true
unfolding labelled_axis
has_own j x m [] made some = absurd cc
has_own j x m (l ∷ ls) made some =
    let step = bind_ok (joined_index j l ls) (λ k. Ok (record x { size = length (labels_of k.list); labels = Some k })) m made in
    let k : Labels = step.0 in
    ap (λ (y : Axis). is_some y.labels) (sym (inner (record x { size = length (labels_of k.list); labels = Some k }) m step.2))

has_joined : (j : How) (filled : Bool) (x m : Axis) (xs : List Axis) → join j filled (x ∷ xs) ≡ Ok m → some_labels (indexes (x ∷ xs)) ≡ true → is_some m.labels ≡ true
unfolding join
has_joined j filled x m xs is some =
    let all : List Axis = x ∷ xs in
    let s1 = bind_ok (labelled_axis j x (indexes all)) (λ joined. unless (list_all (has_size joined) all) SizeConflict >>= λ u. unless (filled || list_all (has_all joined) all) WouldPromote >>= λ v. Ok joined) m is in
    let s2 = bind_ok (unless (list_all (has_size s1.0) all) SizeConflict) (λ u. unless (filled || list_all (has_all s1.0) all) WouldPromote >>= λ v. Ok s1.0) m s1.2 in
    let s3 = bind_ok (unless (filled || list_all (has_all s1.0) all) WouldPromote) (λ v. Ok s1.0) m s2.2 in
    let same : s1.0 ≡ m = inner s1.0 m s3.2 in
    has_own j x m (indexes all) (s1.1 ∙ ap Ok same) some

alone : (x : Axis) → some_labels (indexes (x ∷ [])) ≡ true → is_some x.labels ≡ true
alone x some = by x.labels some
  where
    by : (o : Option Labels) → some_labels (elim o as (λ o. List Labels) [ None ↦ [] | Some l ↦ l ∷ [] ]) ≡ true → is_some o ≡ true
    by None some = absurd cc
    by (Some l) some = refl

has_named : (j : How) (filled : Bool) (xs : List Axis) (m : Axis) → joined_or_own j filled xs ≡ Ok m → some_labels (indexes xs) ≡ true → is_some m.labels ≡ true
unfolding joined_or_own
has_named j filled [] m is some = absurd cc
has_named j filled (x ∷ []) m is some = subst (λ (y : Axis). is_some y.labels ≡ true) (inner x m is) (alone x some)
has_named j filled (x ∷ y ∷ xs) m is some = has_joined j filled x m (y ∷ xs) is some

-- ---- all names

module _ (j : How) (filled : Bool) (lists : List (List Axis)) where
  -- what a joined axis of this name has
  abbrev pub HasOf : List ℕ → Axis → Type 0
  HasOf n m = some_labels (indexes (axes_named n lists)) ≡ true → is_some m.labels ≡ true

  has_each : (names : List (List ℕ)) (axes : List Axis) → joined_each j filled lists names ≡ Ok axes → axis_names axes ≡ names → AllByRecursion (λ (m : Axis). HasOf m.name m) axes
  unfolding joined_each
  has_each [] axes is called = subst (AllByRecursion (λ (m : Axis). HasOf m.name m)) (inner [] axes is) tt
  has_each (n ∷ ns) axes is called =
      let s1 = bind_ok (joined_or_own j filled (axes_named n lists)) (λ x. joined_each j filled lists ns >>= λ xs. Ok (x ∷ xs)) axes is in
      let s2 = bind_ok (joined_each j filled lists ns) (λ xs. Ok (s1.0 ∷ xs)) axes s1.2 in
      let same : s1.0 ∷ s2.0 ≡ axes = inner (s1.0 ∷ s2.0) axes s2.2 in
      let names : axis_names (s1.0 ∷ s2.0) ≡ n ∷ ns = ap axis_names same ∙ called in
      subst (AllByRecursion (λ (m : Axis). HasOf m.name m)) same
      (subst (λ k. HasOf k s1.0) (sym (first s1.0.name n (axis_names s2.0) ns names)) (has_named j filled (axes_named n lists) s1.0 s1.1), has_each ns s2.0 s2.1 (others s1.0.name n (axis_names s2.0) ns names))
    where
      first : (m n : List ℕ) (ms ns : List (List ℕ)) → m ∷ ms ≡ n ∷ ns → m ≡ n
      first m n ms ns e = cc

      others : (m n : List ℕ) (ms ns : List (List ℕ)) → m ∷ ms ≡ n ∷ ns → ms ≡ ns
      others m n ms ns e = cc

-- ---- each value is one of those that are joined

-- what its axes give to the joins
pub record IsSeen (lists : List (List Axis)) (xs : List Axis) : Type 0 where
  pub names : (n : List ℕ) → among (axis_names xs) n ≡ true → among (all_names lists) n ≡ true
  pub labels : (n : List ℕ) (x : Axis) → axis_of n xs ≡ Some x → is_some x.labels ≡ true → some_labels (indexes (axes_named n lists)) ≡ true

first_labels : (x : Axis) (xs : List Axis) → is_some x.labels ≡ true → some_labels (indexes (x ∷ xs)) ≡ true
first_labels x xs some = by x.labels some
  where
    by : (o : Option Labels) → is_some o ≡ true → some_labels (elim o as (λ o. List Labels) [ None ↦ indexes xs | Some l ↦ l ∷ indexes xs ]) ≡ true
    by None some = absurd cc
    by (Some l) some = refl

more_labels : (x : Axis) (xs : List Axis) → some_labels (indexes xs) ≡ true → some_labels (indexes (x ∷ xs)) ≡ true
more_labels x xs some = by x.labels
  where
    by : (o : Option Labels) → some_labels (elim o as (λ o. List Labels) [ None ↦ indexes xs | Some l ↦ l ∷ indexes xs ]) ≡ true
    by None = some
    by (Some l) = refl

here_seen : (xs : List Axis) (lists : List (List Axis)) (n : List ℕ) (x : Axis) → axis_of n xs ≡ Some x → is_some x.labels ≡ true → some_labels (indexes (axes_named n (xs ∷ lists))) ≡ true
here_seen xs lists n x is some =
    ap (λ o. some_labels (indexes (elim o as (λ o. List Axis) [ None ↦ axes_named n lists | Some y ↦ y ∷ axes_named n lists ]))) is ∙ first_labels x (axes_named n lists) some

later_seen : (xs : List Axis) (lists : List (List Axis)) (n : List ℕ) → some_labels (indexes (axes_named n lists)) ≡ true → some_labels (indexes (axes_named n (xs ∷ lists))) ≡ true
later_seen xs lists n some = by (axis_of n xs)
  where
    by : (o : Option Axis) → some_labels (indexes (elim o as (λ o. List Axis) [ None ↦ axes_named n lists | Some y ↦ y ∷ axes_named n lists ])) ≡ true
    by None = some
    by (Some y) = more_labels y (axes_named n lists) some

pub all_seen : (lists : List (List Axis)) → AllByRecursion (IsSeen lists) lists
all_seen [] = tt
all_seen (xs ∷ lists) = (
  record {
    names = λ n e. among_both (axis_names xs) (all_names lists) n ∙ or_left (among (axis_names xs) n) (among (all_names lists) n) e;
    labels = here_seen xs lists;
  },
  each_weaker (IsSeen lists) (IsSeen (xs ∷ lists)) lists
      (λ ys seen. record {
        names = λ n e. among_both (axis_names xs) (all_names lists) n ∙ or_right (among (axis_names xs) n) (among (all_names lists) n) (seen.names n e);
        labels = λ n x is some. later_seen xs lists n (seen.labels n x is some);
      }) (all_seen lists),
)

-- ---- the joined axes of the names that have labels

abbrev has_index : List Axis → List ℕ → Bool
has_index own n = list_any (λ (x : Axis). bytes_eq x.name n && is_some x.labels) own

none_index : (own : List Axis) (n : List ℕ) → among (axis_names own) n ≡ false → has_index own n ≡ false
none_index [] n absent = refl
none_index (x ∷ xs) n absent =
    let parts = or_parts (bytes_eq n x.name) (among (axis_names xs) n) absent in
    (λ i. ((bytes_eq_swap x.name n ∙ parts.0) i && is_some x.labels) || none_index xs n parts.1 i)

index_is : (own : List Axis) (n : List ℕ) → are_distinct (axis_names own) ≡ true → among (axis_names own) n ≡ true → has_index own n ≡ is_some (axis_called own n).labels
index_is [] n distinct has = absurd cc
index_is (x ∷ xs) n distinct has =
    by (bytes_eq x.name n) refl (index_is xs n parts.1) ∙ ap (λ (y : Axis). is_some y.labels) (sym (called_cons x xs n))
  where
    parts : (among (axis_names xs) x.name ≡ false) × (are_distinct (axis_names xs) ≡ true)
    parts = distinct_parts x.name (axis_names xs) distinct

    or_none : (b : Bool) → (b || false) ≡ b
    or_none true = refl
    or_none false = refl

    by : (b : Bool) → bytes_eq x.name n ≡ b → (among (axis_names xs) n ≡ true → has_index xs n ≡ is_some (axis_called xs n).labels) → ((b && is_some x.labels) || has_index xs n) ≡ is_some (cond b x (axis_called xs n)).labels
    by true e rest =
        let absent : among (axis_names xs) n ≡ false = ap (among (axis_names xs)) (sym (same_text x.name n e)) ∙ parts.0 in
        ap (λ b. is_some x.labels || b) (none_index xs n absent) ∙ or_none (is_some x.labels)
    by false e rest = rest (ap (λ b. b || among (axis_names xs) n) (sym (bytes_eq_swap n x.name ∙ e)) ∙ has)

labels_among : (own joined : List Axis) (n : List ℕ) → among (axis_names (with_labels own joined)) n ≡ (among (axis_names joined) n && has_index own n)
labels_among own [] n = refl
labels_among own (m ∷ joined) n = by (bytes_eq n m.name) (has_labels own m) refl refl (labels_among own joined n)
  where
    rest : List Axis
    rest = with_labels own joined

    and_none : (b : Bool) → (b && false) ≡ false
    and_none true = refl
    and_none false = refl

    by : (b h : Bool) → bytes_eq n m.name ≡ b → has_labels own m ≡ h → among (axis_names rest) n ≡ (among (axis_names joined) n && has_index own n) → among (axis_names (cond h (m ∷ rest) rest)) n ≡ ((b || among (axis_names joined) n) && has_index own n)
    by true true e has later = ap (λ b. b || among (axis_names rest) n) e ∙ sym has ∙ ap (has_index own) (sym (same_text n m.name e))
    by true false e has later =
        let none : has_index own n ≡ false = ap (has_index own) (same_text n m.name e) ∙ has in
        later ∙ ap (λ b. among (axis_names joined) n && b) none ∙ and_none (among (axis_names joined) n) ∙ sym none
    by false true e has later = ap (λ b. b || among (axis_names rest) n) e ∙ later
    by false false e has later = later

module _ (j : How) (filled : Bool) (lists : List (List Axis)) (joined : List Axis) (is : aligned j filled lists ≡ Ok joined) (called : axis_names joined ≡ names_once (all_names lists)) where
  all_have : AllByRecursion (λ (m : Axis). HasOf j filled lists m.name m) joined
  unfolding aligned
  all_have = has_each j filled lists (names_once (all_names lists)) joined is called

  module _ (own : List Axis) (distinct : are_distinct (axis_names own) ≡ true) (seen : IsSeen lists own) where
    abbrev js : List Axis
    js = with_labels own joined

    one_keeps : (x : Axis) → IsThere own x → KeepsLabels js x
    one_keeps x there = by (is_some x.labels) refl
      where
        index : has_index own x.name ≡ is_some x.labels
        index = index_is own x.name distinct there.0 ∙ ap (λ (y : Axis). is_some y.labels) there.1

        stands : among (axis_names joined) x.name ≡ true
        stands = ap (λ ns. among ns x.name) called ∙ once_among [] (all_names lists) x.name ∙ seen.names x.name there.0

        found : among (axis_names js) x.name ≡ is_some x.labels
        found = labels_among own joined x.name ∙ (λ i. stands i && index i)

        by : (b : Bool) → is_some x.labels ≡ b → KeepsLabels js x
        by true e =
            let here = called_holds (λ (m : Axis). HasOf j filled lists m.name m) x.name js (each_left (λ (m : Axis). HasOf j filled lists m.name m) (λ (m : Axis). HasOf j filled lists m.name m) (has_labels own) (λ m p has. has) joined all_have) (found ∙ e) in
            let some : some_labels (indexes (axes_named x.name lists)) ≡ true = seen.labels x.name x (of_called x.name own there.0 ∙ ap Some there.1) e in
            ap (λ b. is_some (cond b (axis_called js x.name) x).labels) (found ∙ e) ∙ here.0 (ap (λ n. some_labels (indexes (axes_named n lists))) here.1 ∙ some) ∙ sym e
        by false e = ap (λ b. is_some (cond b (axis_called js x.name) x).labels) (found ∙ e)

    all_keep : (xs : List Axis) → AllByRecursion (IsThere own) xs → AllByRecursion (KeepsLabels js) xs
    all_keep [] there = tt
    all_keep (x ∷ xs) there = (one_keeps x there.0, all_keep xs there.1)

    pub labels_kept : AllByRecursion (KeepsLabels js) own
    labels_kept = all_keep own (own_axes own distinct)

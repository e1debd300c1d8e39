-- The axes of two values, joined: each has the one of its name.
use Rattle.std.proofs.Common.{◌≡◌, ℕ, Bool, true, false, ◌||◌, cond, List, [], ◌∷◌, ◌++◌, fold, Option, Some, None, Ok, refl, sym, ap, subst, ◌∙◌, inl, inr}
use Rattle.std.specs.Str.{bytes_eq}
use Rattle.std.specs.List.{AllByRecursion}
use Rattle.std.proofs.lemmas.Bool.{cases_Bool}
use Rattle.std.proofs.lemmas.List.{append-nil}
use Rattle.xr_types.specs.Names.{among, are_distinct, axis_names}
use Rattle.xr_types.specs.Results.{◌>>=◌}
use Rattle.xr_types.specs.declared.axis.Axis.{Axis}
use Rattle.xr_types.specs.declared.operation.How.TheVariants.{Inner}
use Rattle.xr_defs.specs.Selecting.{axis_called}
use Rattle.xr_defs.specs.WellFormed.{IsDimension}
use Rattle.xr_operations.specs.Alignment.{add_name, aligned, all_names, axes_named, axis_of, joined_each, joined_or_own, names_once}
use Rattle.xr_values.proofs.Named.{bytes_eq_swap}
use Rattle.xr_parts.specs.Frames.{IsThere}
use Rattle.xr_parts.proofs.Axes.{called_here, called_holds, called_on, own_axes}
use Rattle.xr_parts.proofs.Words.{itself, join, same_text}
use Rattle.xr_joining.specs.Fitted.{Arrives, AreJoined, Comes}
use Rattle.xr_joining.proofs.MeetLaws.{bind_ok, comes_itself, inner, meet}

-- ---- names, each once

or_assoc : (a b c : Bool) → ((a || b) || c) ≡ (a || (b || c))
or_assoc true b c = refl
or_assoc false b c = refl

pub among_both : (xs ys : List (List ℕ)) (n : List ℕ) → among (xs ++ ys) n ≡ (among xs n || among ys n)
among_both [] ys n = refl
among_both (x ∷ xs) ys n = ap (λ b. bytes_eq n x || b) (among_both xs ys n) ∙ sym (or_assoc (bytes_eq n x) (among xs n) (among ys n))

or_false : (b : Bool) → (b || false) ≡ b
or_false true = refl
or_false false = refl

-- a name more, unless it is there
pub add_among : (names : List (List ℕ)) (m n : List ℕ) → among (add_name names m) n ≡ (among names n || bytes_eq n m)
add_among names m n = by (among names m) refl
  where
    stands : (b : Bool) → bytes_eq n m ≡ b → among names m ≡ true → among names n ≡ (among names n || b)
    stands true e has = ap (among names) (same_text n m e) ∙ has ∙ sym (ap (λ b. b || true) (ap (among names) (same_text n m e) ∙ has))
    stands false e has = sym (or_false (among names n))

    by : (b : Bool) → among names m ≡ b → among (cond b names (names ++ m ∷ [])) n ≡ (among names n || bytes_eq n m)
    by true e = stands (bytes_eq n m) refl e
    by false e = among_both names (m ∷ []) n ∙ ap (λ b. among names n || b) (or_false (bytes_eq n m))

add_distinct : (names : List (List ℕ)) (m : List ℕ) → are_distinct names ≡ true → are_distinct (add_name names m) ≡ true
add_distinct names m d = by (among names m) refl
  where
    by : (b : Bool) → among names m ≡ b → are_distinct (cond b names (names ++ m ∷ [])) ≡ true
    by true e = d
    by false e = join names (m ∷ []) (record { first = d; second = refl; apart = (e, tt) })

pub once_among : (names ns : List (List ℕ)) (n : List ℕ) → among (fold add_name names ns) n ≡ (among names n || among ns n)
once_among names [] n = sym (or_false (among names n))
once_among names (m ∷ ns) n =
    once_among (add_name names m) ns n ∙ ap (λ b. b || among ns n) (add_among names m n) ∙ or_assoc (among names n) (bytes_eq n m) (among ns n)

pub once_distinct : (names ns : List (List ℕ)) → are_distinct names ≡ true → are_distinct (fold add_name names ns) ≡ true
once_distinct names [] d = d
once_distinct names (m ∷ ns) d = once_distinct (add_name names m) ns (add_distinct names m d)

-- ---- the axis of a name

pub of_holds : (P : Axis → Type 0) (n : List ℕ) (xs : List Axis) (x : Axis) → AllByRecursion P xs → axis_of n xs ≡ Some x → P x × (x.name ≡ n)
of_holds P n [] x all is = absurd cc
of_holds P n (y ∷ ys) x all is =
    elim (cases_Bool (bytes_eq y.name n)) [
      | inl e ↦ (let same : y ≡ x = here e in (subst P same all.0, ap (λ (z : Axis). z.name) (sym same) ∙ same_text y.name n e))
      | inr e ↦ of_holds P n ys x all.1 (sym (ap (λ b. cond b (Some y) (axis_of n ys)) e) ∙ is)
    ]
  where
    here : bytes_eq y.name n ≡ true → y ≡ x
    here e = let there : Some y ≡ Some x = sym (ap (λ b. cond b (Some y) (axis_of n ys)) e) ∙ is in cc

pub of_called : (n : List ℕ) (xs : List Axis) → among (axis_names xs) n ≡ true → axis_of n xs ≡ Some (axis_called xs n)
of_called n [] has = absurd cc
of_called n (y ∷ ys) has =
    elim (cases_Bool (bytes_eq y.name n)) [
      | inl e ↦ ap (λ b. cond b (Some y) (axis_of n ys)) e ∙ ap Some (sym (called_here y ys n e))
      | inr e ↦
          ap (λ b. cond b (Some y) (axis_of n ys)) e
          ∙ of_called n ys (ap (λ b. b || among (axis_names ys) n) (sym (bytes_eq_swap n y.name ∙ e)) ∙ has)
          ∙ ap Some (sym (called_on y ys n e))
    ]

-- ---- each joined axis

module _ (one other : List Axis) (ones : AllByRecursion IsDimension one) (others : AllByRecursion IsDimension other) where
  abbrev lists : List (List Axis)
  lists = one ∷ other ∷ []

  record Joined (n : List ℕ) (j : Axis) : Type 0 where
    name : j.name ≡ n
    formed : IsDimension j
    first : (x : Axis) → axis_of n one ≡ Some x → Comes x j
    second : (y : Axis) → axis_of n other ≡ Some y → Comes y j

  same_axis : (x y : Axis) (o : Option Axis) → o ≡ Some x → o ≡ Some y → x ≡ y
  same_axis x y o e f = cc

  none_there : (x : Axis) (o : Option Axis) → o ≡ None → o ≡ Some x → ⊥
  none_there x o e f = cc

  alone : (n : List ℕ) (x j : Axis) (o : Option Axis) (there : o ≡ Some x) → x ≡ j → (z : Axis) → o ≡ Some z → Comes z j
  alone n x j o there same z is = subst (λ w. Comes w j) (same_axis x z o there is) (subst (Comes x) same (comes_itself x))

  joined_named : (n : List ℕ) (j : Axis) → (among (axis_names one) n || among (axis_names other) n) ≡ true → joined_or_own Inner false (axes_named n lists) ≡ Ok j → Joined n j
  unfolding joined_or_own
  joined_named n j has is = by (axis_of n one) (axis_of n other) refl refl is
    where
      absent : (xs : List Axis) → axis_of n xs ≡ None → among (axis_names xs) n ≡ false
      absent xs none = elim (cases_Bool (among (axis_names xs) n)) [
        | inl e ↦ absurd (none_there (axis_called xs n) (axis_of n xs) none (of_called n xs e))
        | inr e ↦ e
      ]

      never : (b c : Bool) → b ≡ false → c ≡ false → (b || c) ≡ true → ⊥
      never b c e f g = cc

      by : (o p : Option Axis) → axis_of n one ≡ o → axis_of n other ≡ p → joined_or_own Inner false (elim o [ None ↦ elim p [ None ↦ [] | Some y ↦ y ∷ [] ] | Some x ↦ x ∷ elim p [ None ↦ [] | Some y ↦ y ∷ [] ] ]) ≡ Ok j → Joined n j
      by None None e f is = absurd (never (among (axis_names one) n) (among (axis_names other) n) (absent one e) (absent other f) has)
      by (Some x) None e f is =
          let same : x ≡ j = inner x j is in
          let own = of_holds IsDimension n one x ones e in
          record {
            name = ap (λ (z : Axis). z.name) (sym same) ∙ own.1;
            formed = subst IsDimension same own.0;
            first = alone n x j (axis_of n one) e same;
            second = λ z there. absurd (none_there z (axis_of n other) f there);
          }
      by None (Some y) e f is =
          let same : y ≡ j = inner y j is in
          let own = of_holds IsDimension n other y others f in
          record {
            name = ap (λ (z : Axis). z.name) (sym same) ∙ own.1;
            formed = subst IsDimension same own.0;
            first = λ z there. absurd (none_there z (axis_of n one) e there);
            second = alone n y j (axis_of n other) f same;
          }
      by (Some x) (Some y) e f is =
          let own = of_holds IsDimension n one x ones e in
          let their = of_holds IsDimension n other y others f in
          let both = meet x y j own.0 their.0 (their.1 ∙ sym own.1) is in
          record {
            name = both.first.name ∙ own.1;
            formed = both.formed;
            first = λ z there. subst (λ w. Comes w j) (same_axis x z (axis_of n one) e there) both.first;
            second = λ z there. subst (λ w. Comes w j) (same_axis y z (axis_of n other) f there) both.second;
          }

  abbrev HasOne : List ℕ → Type 0
  HasOne n = (among (axis_names one) n || among (axis_names other) n) ≡ true

  record EachJoined (names : List (List ℕ)) (axes : List Axis) : Type 0 where
    called : axis_names axes ≡ names
    each : AllByRecursion (λ (j : Axis). Joined j.name j) axes

  each_joined : (names : List (List ℕ)) (axes : List Axis) → AllByRecursion HasOne names → joined_each Inner false lists names ≡ Ok axes → EachJoined names axes
  unfolding joined_each
  each_joined [] axes all is =
      let same : [] ≡ axes = inner [] axes is in
      subst (EachJoined []) same (record { called = refl; each = tt })
  each_joined (n ∷ ns) axes all is =
      let s1 = bind_ok (joined_or_own Inner false (axes_named n lists)) (λ x. joined_each Inner false lists ns >>= λ xs. Ok (x ∷ xs)) axes is in
      let s2 = bind_ok (joined_each Inner false lists ns) (λ xs. Ok (s1.0 ∷ xs)) axes s1.2 in
      let same : s1.0 ∷ s2.0 ≡ axes = inner (s1.0 ∷ s2.0) axes s2.2 in
      let here = joined_named n s1.0 all.0 s1.1 in
      let rest = each_joined ns s2.0 all.1 s2.1 in
      subst (EachJoined (n ∷ ns)) same (record {
        called = (λ i. here.name i ∷ rest.called i);
        each = (subst (λ m. Joined m s1.0) (sym here.name) here, rest.each);
      })

  -- ---- all of them

  abbrev names : List (List ℕ)
  names = names_once (all_names lists)

  among_names : (n : List ℕ) → among names n ≡ (among (axis_names one) n || among (axis_names other) n)
  among_names n = once_among [] (all_names lists) n ∙ among_both (axis_names one) (axis_names other ++ []) n ∙ ap (λ ns. among (axis_names one) n || among ns n) (append-nil (axis_names other))

  have_one : (ns : List (List ℕ)) → AllByRecursion (λ n. among names n ≡ true) ns → AllByRecursion HasOne ns
  have_one [] all = tt
  have_one (n ∷ ns) all = (sym (among_names n) ∙ all.0, have_one ns all.1)

  or_right : (b c : Bool) → c ≡ true → (b || c) ≡ true
  or_right true c e = refl
  or_right false c e = e

  stand : (ns ms : List (List ℕ)) → ((n : List ℕ) → among ns n ≡ true → among ms n ≡ true) → AllByRecursion (λ n. among ms n ≡ true) ns
  stand [] ms sub = tt
  stand (n ∷ ns) ms sub = (sub n (ap (λ b. b || among ns n) (itself n)), stand ns ms (λ m e. sub m (or_right (bytes_eq m n) (among ns m) e)))

  module _ (axes : List Axis) (is : aligned Inner false lists ≡ Ok axes) where
    all_joined : EachJoined names axes
    unfolding aligned
    all_joined = each_joined names axes (have_one names (stand names names (λ n e. e))) is

    abbrev JoinedAs : Axis → Type 0
    JoinedAs j = Joined j.name j

    -- the joined axis of a name
    named_joined : (n : List ℕ) → HasOne n → (among (axis_names axes) n ≡ true) × Joined n (axis_called axes n)
    named_joined n has =
        let there : among (axis_names axes) n ≡ true = ap (λ ns. among ns n) all_joined.called ∙ among_names n ∙ has in
        let found = called_holds JoinedAs n axes all_joined.each there in
        (there, subst (λ m. Joined m (axis_called axes n)) found.1 found.0)

    dims_formed : (xs : List Axis) → AllByRecursion JoinedAs xs → AllByRecursion IsDimension xs
    dims_formed [] all = tt
    dims_formed (x ∷ xs) all = (all.0.formed, dims_formed xs all.1)

    first_arrive : (xs : List Axis) → AllByRecursion (IsThere one) xs → AllByRecursion (Arrives axes) xs
    first_arrive [] all = tt
    first_arrive (x ∷ xs) all =
        let found = named_joined x.name (ap (λ b. b || among (axis_names other) x.name) all.0.0) in
        ((found.0, found.1.first x (of_called x.name one all.0.0 ∙ ap Some all.0.1)), first_arrive xs all.1)

    second_arrive : (xs : List Axis) → AllByRecursion (IsThere other) xs → AllByRecursion (Arrives axes) xs
    second_arrive [] all = tt
    second_arrive (x ∷ xs) all =
        let found = named_joined x.name (or_right (among (axis_names one) x.name) (among (axis_names other) x.name) all.0.0) in
        ((found.0, found.1.second x (of_called x.name other all.0.0 ∙ ap Some all.0.1)), second_arrive xs all.1)

    pub are_joined : are_distinct (axis_names one) ≡ true → are_distinct (axis_names other) ≡ true → AreJoined one other axes
    are_joined d e = record {
      dims = record { each = dims_formed axes all_joined.each; distinct = ap are_distinct all_joined.called ∙ once_distinct [] (all_names lists) refl };
      first = first_arrive one (own_axes one d);
      second = second_arrive other (own_axes other e);
    }

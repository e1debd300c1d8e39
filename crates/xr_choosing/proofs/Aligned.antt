-- The axes of several values, joined by `exact`: each has the one of its name, in its own size.
use Rattle.std.proofs.Common.{◌≡◌, ℕ, Bool, true, false, ◌||◌, List, [], ◌∷◌, Option, Some, None, Ok, refl, sym, ap, subst, ◌∙◌}
use Rattle.std.specs.Str.{bytes_eq}
use Rattle.std.specs.List.{AllByRecursion}
use Rattle.xr_types.specs.Names.{among, are_distinct, axis_names}
use Rattle.xr_types.specs.Results.{◌>>=◌}
use Rattle.xr_types.specs.declared.axis.Axis.{Axis}
use Rattle.xr_types.specs.declared.operation.How.TheVariants.{Exact}
use Rattle.xr_defs.specs.Selecting.{axis_called}
use Rattle.xr_defs.specs.WellFormed.{AreDimensions, IsDimension}
use Rattle.xr_operations.specs.Alignment.{aligned, all_names, axes_named, axis_of, joined_each, joined_or_own, names_once}
use Rattle.xr_parts.specs.Frames.{IsThere}
use Rattle.xr_parts.proofs.Axes.{called_holds, own_axes}
use Rattle.xr_parts.proofs.Words.{itself}
use Rattle.xr_joining.specs.Fitted.{Arrives}
use Rattle.xr_joining.proofs.JoinedAxes.{among_both, of_called, of_holds, once_among, once_distinct}
use Rattle.xr_joining.proofs.MeetLaws.{bind_ok, comes_itself, inner}
use Rattle.xr_choosing.proofs.Exact.{exact_join, Exactly, IsNamed, Rests}

-- ---- the axes of a name

exactly : (n : List ℕ) (xs : List Axis) (j : Axis) → (xs ≡ [] → ⊥) → AllByRecursion (IsNamed n) xs → joined_or_own Exact false xs ≡ Ok j → Exactly n j xs
unfolding joined_or_own
exactly n [] j some named is = absurd (some refl)
exactly n (x ∷ []) j some named is = subst (λ k. Exactly n k (x ∷ [])) (inner x j is) (record { name = named.0.1; formed = named.0.0; each = ((comes_itself x, refl), tt) })
exactly n (x ∷ y ∷ xs) j some named is = exact_join n x j (y ∷ xs) named is

or_parts_of : (b c : Bool) → (b || c) ≡ true → b ≡ false → c ≡ true
or_parts_of b c e f = cc

some_named : (n : List ℕ) (lists : List (List Axis)) → among (all_names lists) n ≡ true → axes_named n lists ≡ [] → ⊥
some_named n [] has none = absurd cc
some_named n (xs ∷ lists) has none = by (axis_of n xs) refl none (some_named n lists)
  where
    absent : (b : Bool) → among (axis_names xs) n ≡ b → axis_of n xs ≡ None → b ≡ false
    absent true e none = absurd (let there = of_called n xs e in cc)
    absent false e none = refl

    by : (o : Option Axis) → axis_of n xs ≡ o → elim o as (λ o. List Axis) [ None ↦ axes_named n lists | Some x ↦ x ∷ axes_named n lists ] ≡ [] → (among (all_names lists) n ≡ true → axes_named n lists ≡ [] → ⊥) → ⊥
    by None e none rest = rest (or_parts_of (among (axis_names xs) n) (among (all_names lists) n) (sym (among_both (axis_names xs) (all_names lists) n) ∙ has) (absent (among (axis_names xs) n) refl e)) none
    by (Some x) e none rest = cc

all_named : (n : List ℕ) (lists : List (List Axis)) → AllByRecursion (λ (xs : List Axis). AllByRecursion IsDimension xs) lists → AllByRecursion (IsNamed n) (axes_named n lists)
all_named n [] dims = tt
all_named n (xs ∷ lists) dims = by (axis_of n xs) refl (all_named n lists dims.1)
  where
    by : (o : Option Axis) → axis_of n xs ≡ o → AllByRecursion (IsNamed n) (axes_named n lists) → AllByRecursion (IsNamed n) (elim o as (λ o. List Axis) [ None ↦ axes_named n lists | Some x ↦ x ∷ axes_named n lists ])
    by None e rest = rest
    by (Some x) e rest = (of_holds IsDimension n xs x dims.0 e, rest)

abbrev At : List ℕ → Axis → List Axis → Type 0
At n j own = (x : Axis) → axis_of n own ≡ Some x → Rests j x

each_at : (n : List ℕ) (j : Axis) (lists : List (List Axis)) → AllByRecursion (Rests j) (axes_named n lists) → AllByRecursion (At n j) lists
each_at n j [] all = tt
each_at n j (xs ∷ lists) all = by (axis_of n xs) refl all (each_at n j lists)
  where
    none_there : (x : Axis) (o : Option Axis) → o ≡ None → o ≡ Some x → ⊥
    none_there x o e f = cc

    same_axis : (x y : Axis) (o : Option Axis) → o ≡ Some x → o ≡ Some y → x ≡ y
    same_axis x y o e f = cc

    by : (o : Option Axis) → axis_of n xs ≡ o → AllByRecursion (Rests j) (elim o as (λ o. List Axis) [ None ↦ axes_named n lists | Some x ↦ x ∷ axes_named n lists ]) → (AllByRecursion (Rests j) (axes_named n lists) → AllByRecursion (At n j) lists) → AllByRecursion (At n j) (xs ∷ lists)
    by None e all rest = (λ x there. absurd (none_there x (axis_of n xs) e there), rest all)
    by (Some x) e all rest = (λ z there. subst (Rests j) (same_axis x z (axis_of n xs) e there) all.0, rest all.1)

-- ---- all names

-- an axis whose name stands for a joined one of its size
abbrev pub Arrived : List Axis → Axis → Type 0
Arrived axes x = Arrives axes x × (x.size ≡ (axis_called axes x.name).size)

pub record AreRested (lists : List (List Axis)) (axes : List Axis) : Type 0 where
  pub dims : AreDimensions axes
  pub each : AllByRecursion (λ (own : List Axis). AllByRecursion (Arrived axes) own) lists

or_right : (b c : Bool) → c ≡ true → (b || c) ≡ true
or_right true c e = refl
or_right false c e = e

module _ (lists : List (List Axis)) (dims : AllByRecursion (λ (xs : List Axis). AllByRecursion IsDimension xs) lists) where
  record Joined (n : List ℕ) (j : Axis) : Type 0 where
    name : j.name ≡ n
    formed : IsDimension j
    each : AllByRecursion (At n j) lists

  abbrev Stands : List ℕ → Type 0
  Stands n = among (all_names lists) n ≡ true

  joined_named : (n : List ℕ) (j : Axis) → Stands n → joined_or_own Exact false (axes_named n lists) ≡ Ok j → Joined n j
  joined_named n j has is =
      let all = exactly n (axes_named n lists) j (some_named n lists has) (all_named n lists dims) is in
      record { name = all.name; formed = all.formed; each = each_at n j lists all.each }

  record EachJoined (names : List (List ℕ)) (axes : List Axis) : Type 0 where
    called : axis_names axes ≡ names
    each : AllByRecursion (λ (j : Axis). Joined j.name j) axes

  each_joined : (names : List (List ℕ)) (axes : List Axis) → AllByRecursion Stands names → joined_each Exact false lists names ≡ Ok axes → EachJoined names axes
  unfolding joined_each
  each_joined [] axes all is = subst (EachJoined []) (inner [] axes is) (record { called = refl; each = tt })
  each_joined (n ∷ ns) axes all is =
      let s1 = bind_ok (joined_or_own Exact false (axes_named n lists)) (λ x. joined_each Exact false lists ns >>= λ xs. Ok (x ∷ xs)) axes is in
      let s2 = bind_ok (joined_each Exact false lists ns) (λ xs. Ok (s1.0 ∷ xs)) axes s1.2 in
      let same : s1.0 ∷ s2.0 ≡ axes = inner (s1.0 ∷ s2.0) axes s2.2 in
      let here = joined_named n s1.0 all.0 s1.1 in
      let rest = each_joined ns s2.0 all.1 s2.1 in
      subst (EachJoined (n ∷ ns)) same (record {
        called = (λ i. here.name i ∷ rest.called i);
        each = (subst (λ m. Joined m s1.0) (sym here.name) here, rest.each);
      })

  abbrev names : List (List ℕ)
  names = names_once (all_names lists)

  stand : (ns : List (List ℕ)) → ((n : List ℕ) → among ns n ≡ true → Stands n) → AllByRecursion Stands ns
  stand [] sub = tt
  stand (n ∷ ns) sub = (sub n (ap (λ b. b || among ns n) (itself n)), stand ns (λ m e. sub m (or_right (bytes_eq m n) (among ns m) e)))

  module _ (axes : List Axis) (is : aligned Exact false lists ≡ Ok axes) where
    all_joined : EachJoined names axes
    unfolding aligned
    all_joined = each_joined names axes (stand names (λ n e. sym (once_among [] (all_names lists) n) ∙ e)) is

    abbrev JoinedAs : Axis → Type 0
    JoinedAs j = Joined j.name j

    named_joined : (n : List ℕ) → Stands n → (among (axis_names axes) n ≡ true) × Joined n (axis_called axes n)
    named_joined n has =
        let there : among (axis_names axes) n ≡ true = ap (λ ns. among ns n) all_joined.called ∙ once_among [] (all_names lists) n ∙ has in
        let found = called_holds JoinedAs n axes all_joined.each there in
        (there, subst (λ m. Joined m (axis_called axes n)) found.1 found.0)

    dims_formed : (xs : List Axis) → AllByRecursion JoinedAs xs → AllByRecursion IsDimension xs
    dims_formed [] all = tt
    dims_formed (x ∷ xs) all = (all.0.formed, dims_formed xs all.1)

    arrive : (own : List Axis) → ((n : List ℕ) → among (axis_names own) n ≡ true → Stands n) → ((n : List ℕ) → Stands n → At n (axis_called axes n) own) → (xs : List Axis) → AllByRecursion (IsThere own) xs → AllByRecursion (Arrived axes) xs
    arrive own here at [] all = tt
    arrive own here at (x ∷ xs) all =
        let named = here x.name all.0.0 in
        let rest = at x.name named x (of_called x.name own all.0.0 ∙ ap Some all.0.1) in
        ((((named_joined x.name named).0, rest.0), rest.1), arrive own here at xs all.1)

    each_own : (ls : List (List Axis)) → ((n : List ℕ) → among (all_names ls) n ≡ true → Stands n) → ((n : List ℕ) → Stands n → AllByRecursion (At n (axis_called axes n)) ls)
        → AllByRecursion (λ (own : List Axis). are_distinct (axis_names own) ≡ true) ls → AllByRecursion (λ (own : List Axis). AllByRecursion (Arrived axes) own) ls
    each_own [] sub at d = tt
    each_own (own ∷ ls) sub at d = (
      arrive own (λ n e. sub n (among_both (axis_names own) (all_names ls) n ∙ ap (λ b. b || among (all_names ls) n) e)) (λ n h. (at n h).0) own (own_axes own d.0),
      each_own ls (λ n e. sub n (among_both (axis_names own) (all_names ls) n ∙ or_right (among (axis_names own) n) (among (all_names ls) n) e)) (λ n h. (at n h).1) d.1,
    )

    pub are_rested : AllByRecursion (λ (own : List Axis). are_distinct (axis_names own) ≡ true) lists → AreRested lists axes
    are_rested d = record {
      dims = record { each = dims_formed axes all_joined.each; distinct = ap are_distinct all_joined.called ∙ once_distinct [] (all_names lists) refl };
      each = each_own lists (λ n e. e) (λ n h. (named_joined n h).1.each) d;
    }

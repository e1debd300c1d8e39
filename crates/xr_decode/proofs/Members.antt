-- What stands in a list, and names by which it is found.
use Rattle.std.proofs.Common.{◌≡◌, ◌+◌, ◌<◌, ◌⊎◌, inl, inr, ℕ, zero, suc, Bool, true, false, cond, not, List, [], ◌∷◌, ◌++◌, length, map, filter, find, get_or, Option, Some, None, option_map, refl, sym, ap, subst, ◌∙◌, arith, add-one}
use Rattle.std.specs.Str.{bytes_eq}
use Rattle.std.specs.List.{list_all, list_any, AllByRecursion}
use Rattle.std.proofs.lemmas.Bool.{and_parts, and_from, or_cases, or_left, or_right, not-true, not_from_false, false_from_ne_true, true≢false}
use Rattle.std.proofs.lemmas.Slice.Eq.{bytes_eq-Decides}
use Rattle.xr_types.specs.declared.axis.Axis.{Axis}
use Rattle.xr_types.specs.Names.{among}
use Rattle.xr_types.specs.Names.{are_distinct}
use Rattle.xr_types.specs.Names.{axis_names}
use Rattle.xr_defs.specs.Values.{axis_position, no_axis}
use Rattle.xr_defs.specs.Selecting.{axis_called}

abbrev pub Has : {X : Type 0} → List X → X → Type 0
Has [] x = ⊥
Has (y ∷ ys) x = (y ≡ x) ⊎ Has ys x

pub has_map : {X Y : Type 0} (g : X → Y) (xs : List X) (x : X) → Has xs x → Has (map g xs) (g x)
has_map g [] x h = absurd h
has_map g (y ∷ ys) x (inl e) = inl (ap g e)
has_map g (y ∷ ys) x (inr h) = inr (has_map g ys x h)

pub has_mapped : {X Y : Type 0} (g : X → Y) (xs : List X) (y : Y) → Has (map g xs) y → (x : X) × Has xs x × (g x ≡ y)
has_mapped g [] y h = absurd h
has_mapped g (x ∷ xs) y (inl e) = (x, inl refl, e)
has_mapped g (x ∷ xs) y (inr h) = let w = has_mapped g xs y h in (w.0, inr w.1, w.2)

has_filter_by : {X : Type 0} (b : Bool) (y x : X) (ys : List X) → b ≡ true → (y ≡ x) ⊎ Has ys x → Has (cond b (y ∷ ys) ys) x
has_filter_by true y x ys e h = h
has_filter_by false y x ys e h = absurd cc

has_behind : {X : Type 0} (b : Bool) (y x : X) (ys : List X) → Has ys x → Has (cond b (y ∷ ys) ys) x
has_behind true y x ys h = inr h
has_behind false y x ys h = h

pub has_filter : {X : Type 0} (p : X → Bool) (xs : List X) (x : X) → Has xs x → p x ≡ true → Has (filter p xs) x
has_filter p [] x h e = absurd h
has_filter p (y ∷ ys) x (inl is) e = has_filter_by (p y) y x (filter p ys) (ap p is ∙ e) (inl is)
has_filter p (y ∷ ys) x (inr h) e = has_behind (p y) y x (filter p ys) (has_filter p ys x h e)

filtered_by : {X : Type 0} (p : X → Bool) (b : Bool) (y x : X) (ys : List X) → p y ≡ b → Has (cond b (y ∷ ys) ys) x → ((y ≡ x) × (p x ≡ true)) ⊎ Has ys x
filtered_by p true y x ys e (inl is) = inl (is, ap p (sym is) ∙ e)
filtered_by p true y x ys e (inr h) = inr h
filtered_by p false y x ys e h = inr h

pub has_filtered : {X : Type 0} (p : X → Bool) (xs : List X) (x : X) → Has (filter p xs) x → Has xs x × (p x ≡ true)
has_filtered p [] x h = absurd h
has_filtered p (y ∷ ys) x h =
    elim (filtered_by p (p y) y x (filter p ys) refl h) [
      | inl w ↦ (inl w.0, w.1)
      | inr k ↦ let rest = has_filtered p ys x k in (inr rest.0, rest.1)
    ]

pub has_at : {X : Type 0} (xs : List X) (i : ℕ) (d : X) → i < length xs → Has xs (get_or xs i d)
has_at [] i d lt = absurd (omega arith)
has_at (x ∷ xs) zero d lt = inl refl
has_at (x ∷ xs) (suc i) d lt = inr (has_at xs i d (omega arith))

pub every : {X : Type 0} (P : X → Type 0) (xs : List X) → ((x : X) → Has xs x → P x) → AllByRecursion P xs
every P [] h = tt
every P (x ∷ xs) h = (h x (inl refl), every P xs (λ y m. h y (inr m)))

-- what a filter keeps passes
passes_by : {X : Type 0} (p : X → Bool) (b : Bool) (x : X) (xs : List X) → p x ≡ b → list_all p xs ≡ true → list_all p (cond b (x ∷ xs) xs) ≡ true
passes_by p true x xs e rest = and_from (p x) (list_all p xs) e rest
passes_by p false x xs e rest = rest

pub filter_passes : {X : Type 0} (p : X → Bool) (xs : List X) → list_all p (filter p xs) ≡ true
filter_passes p [] = refl
filter_passes p (x ∷ xs) = passes_by p (p x) x (filter p xs) refl (filter_passes p xs)

pub at_member : {X : Type 0} (P : X → Type 0) (xs : List X) (x : X) → AllByRecursion P xs → Has xs x → P x
at_member P [] x all h = absurd h
at_member P (y ∷ ys) x all (inl e) = subst P e all.0
at_member P (y ∷ ys) x all (inr h) = at_member P ys x all.1 h

pub has_any : {X : Type 0} (t : X → Bool) (xs : List X) (x : X) → Has xs x → t x ≡ true → list_any t xs ≡ true
has_any t [] x h e = absurd h
has_any t (y ∷ ys) x (inl is) e = or_left (t y) (list_any t ys) (ap t is ∙ e)
has_any t (y ∷ ys) x (inr h) e = or_right (t y) (list_any t ys) (has_any t ys x h e)

pub any_has : {X : Type 0} (t : X → Bool) (xs : List X) → list_any t xs ≡ true → (x : X) × Has xs x × (t x ≡ true)
any_has t [] e = absurd cc
any_has t (y ∷ ys) e =
    elim (or_cases (t y) (list_any t ys) e) [
      | inl is ↦ (y, inl refl, is)
      | inr rest ↦ let w = any_has t ys rest in (w.0, inr w.1, w.2)
    ]

-- ---- names

pub same_bytes : (a b : List ℕ) → a ≡ b → bytes_eq a b ≡ true
same_bytes a b e = (bytes_eq-Decides a b).1 e

pub bytes_same : (a b : List ℕ) → bytes_eq a b ≡ true → a ≡ b
bytes_same a b e = (bytes_eq-Decides a b).0 e

pub among_has : (names : List (List ℕ)) (n : List ℕ) → Has names n → among names n ≡ true
among_has names n h = has_any (bytes_eq n) names n h (same_bytes n n refl)

pub has_among : (names : List (List ℕ)) (n : List ℕ) → among names n ≡ true → Has names n
has_among names n e = let w = any_has (bytes_eq n) names e in subst (Has names) (sym (bytes_same n w.0 w.2)) w.1

-- no item is named so
pub not_among : (names : List (List ℕ)) (n : List ℕ) → (Has names n → ⊥) → among names n ≡ false
not_among names n none = false_from_ne_true (among names n) (λ e. none (has_among names n e))

pub absent : (names : List (List ℕ)) (n : List ℕ) → among names n ≡ false → Has names n → ⊥
absent names n e h = true≢false (sym (among_has names n h) ∙ e)

-- two items of one name are the same
pub same_named : {X : Type 0} (name : X → List ℕ) (xs : List X) (x y : X) → are_distinct (map name xs) ≡ true → Has xs x → Has xs y → name x ≡ name y → x ≡ y
same_named name [] x y e h k is = absurd h
same_named name (z ∷ zs) x y e (inl a) (inl b) is = sym a ∙ b
same_named name (z ∷ zs) x y e (inl a) (inr k) is =
    let gone = not-true (among (map name zs) (name z)) (and_parts (not (among (map name zs) (name z))) (are_distinct (map name zs)) e).0 in
    absurd (absent (map name zs) (name z) gone (subst (Has (map name zs)) (sym is ∙ sym (ap name a)) (has_map name zs y k)))
same_named name (z ∷ zs) x y e (inr h) (inl b) is =
    let gone = not-true (among (map name zs) (name z)) (and_parts (not (among (map name zs) (name z))) (are_distinct (map name zs)) e).0 in
    absurd (absent (map name zs) (name z) gone (subst (Has (map name zs)) (is ∙ sym (ap name b)) (has_map name zs x h)))
same_named name (z ∷ zs) x y e (inr h) (inr k) is = same_named name zs x y (and_parts (not (among (map name zs) (name z))) (are_distinct (map name zs)) e).1 h k is

pub has_either : (xs ys : List (List ℕ)) (n : List ℕ) → Has (xs ++ ys) n → Has xs n ⊎ Has ys n
has_either [] ys n h = inr h
has_either (x ∷ xs) ys n (inl e) = inl (inl e)
has_either (x ∷ xs) ys n (inr h) = elim (has_either xs ys n h) [ inl k ↦ inl (inr k) | inr k ↦ inr k ]

pub found_has : {X : Type 0} (p : X → Bool) (xs : List X) (x : X) → find p xs ≡ Some x → Has xs x × (p x ≡ true)
found_has p [] x e = absurd cc
found_has p (y ∷ ys) x e = by (found_has p ys x) (p y) refl e
  where
    by : (find p ys ≡ Some x → Has ys x × (p x ≡ true)) → (b : Bool) → p y ≡ b → cond b (Some y) (find p ys) ≡ Some x → Has (y ∷ ys) x × (p x ≡ true)
    by behind true is e = let same : y ≡ x = cc in (inl same, ap p (sym same) ∙ is)
    by behind false is e = let rest = behind e in (inr rest.0, rest.1)

-- lists of different names without a name in common
pub distinct_both : (xs ys : List (List ℕ)) → are_distinct xs ≡ true → are_distinct ys ≡ true → ((n : List ℕ) → Has xs n → Has ys n → ⊥) → are_distinct (xs ++ ys) ≡ true
distinct_both [] ys a b apart = b
distinct_both (x ∷ xs) ys a b apart =
    let parts = and_parts (not (among xs x)) (are_distinct xs) a in
    and_from (not (among (xs ++ ys) x)) (are_distinct (xs ++ ys))
    (not_from_false (among (xs ++ ys) x) (not_among (xs ++ ys) x (λ h. elim (has_either xs ys x h) [ inl k ↦ absent xs x (not-true (among xs x) parts.0) k | inr k ↦ apart x (inl refl) k ])))
    (distinct_both xs ys parts.1 b (λ n h k. apart n (inr h) k))

-- ---- an axis by its name

abbrev at_place : List Axis → Option ℕ → Axis
at_place xs None = no_axis
at_place xs (Some k) = get_or xs k no_axis

found_behind : (y : Axis) (ys : List Axis) (o : Option ℕ) → at_place (y ∷ ys) (option_map (λ n. n + 1) o) ≡ at_place ys o
found_behind y ys None = refl
found_behind y ys (Some k) = ap (λ j. get_or (y ∷ ys) j no_axis) (add-one k)

pub called_one : (xs : List Axis) (x : Axis) → are_distinct (axis_names xs) ≡ true → Has xs x → axis_called xs x.name ≡ x
called_one [] x e h = absurd h
called_one (y ∷ ys) x e (inl is) =
    ap (λ b. at_place (y ∷ ys) (cond b (Some 0) (option_map (λ n. n + 1) (axis_position x.name ys)))) (same_bytes y.name x.name (ap (λ (z : Axis). z.name) is)) ∙ is
called_one (y ∷ ys) x e (inr h) =
    let parts = and_parts (not (among (axis_names ys) y.name)) (are_distinct (axis_names ys)) e in
    let other : bytes_eq y.name x.name ≡ false = false_from_ne_true (bytes_eq y.name x.name) (λ same. absent (axis_names ys) y.name (not-true (among (axis_names ys) y.name) parts.0)
    (subst (Has (axis_names ys)) (sym (bytes_same y.name x.name same)) (has_map (λ (z : Axis). z.name) ys x h))) in
    ap (λ b. at_place (y ∷ ys) (cond b (Some 0) (option_map (λ n. n + 1) (axis_position x.name ys)))) other
    ∙ found_behind y ys (axis_position x.name ys) ∙ called_one ys x parts.1 h

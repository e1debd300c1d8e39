-- Lists by their first item and the others.
use Rattle.std.proofs.Common.{◌≡◌, ◌∙◌, ◌<◌, ◌≤◌, ◌-◌, ◌&&◌, Bool, true, false, cond, List, [], ◌∷◌, ◌++◌, length, get_or, take, drop, map, Option, Some, None, Result, Ok, Err, arith, refl, sym, ap, subst, append_assoc}
use Rattle.std.specs.Prelude.{find, IfOk, OnOk}
use Rattle.std.specs.List.{list_all, AllByRecursion}
use Rattle.std.proofs.lemmas.Bool.{and_parts}
use Rattle.std.proofs.lemmas.List.{append-nil, map-append, take_all}

abbrev pub others : {X : Type 0} → List X → List X
others xs = take (length xs - 1) (drop 1 xs)

pub whole : {X : Type 0} (xs : List X) (x : X) → 1 ≤ length xs → x ≡ get_or xs 0 x → xs ≡ x ∷ others xs
whole [] x some is = absurd (omega arith)
whole (y ∷ ys) x some is =
    let n : length (y ∷ ys) - 1 ≡ length ys = omega arith in
    let rest : others (y ∷ ys) ≡ ys = ap (λ k. take k (drop 1 (y ∷ ys))) n ∙ take_all (length ys) ys (omega arith) in
    (λ i. sym is i ∷ sym rest i)

pub none_behind : {X Y : Type 0} (F : List X → List Y) → F [] ≡ [] → (old : List Y) (xs : List X) → length xs < 1 → old ≡ old ++ F xs
none_behind F law old [] none = sym (append-nil old) ∙ ap (λ ys. old ++ ys) (sym law)
none_behind F law old (x ∷ xs) none = absurd (omega arith)

pub one_behind : {X Y : Type 0} (F : List X → List Y) (G : X → List Y) → ((x : X) (xs : List X) → F (x ∷ xs) ≡ G x ++ F xs) → (old next new : List Y) (xs : List X) (x : X) → 1 ≤ length xs → x ≡ get_or xs 0 x
    → next ≡ old ++ G x → new ≡ next ++ F (others xs) → new ≡ old ++ F xs
one_behind F G law old next new xs x some is one rest =
    rest ∙ ap (λ ys. ys ++ F (others xs)) one ∙ append_assoc old (G x) (F (others xs)) ∙ ap (λ ys. old ++ ys) (sym (law x (others xs)) ∙ ap F (sym (whole xs x some is)))

pub on_ok : {A E : Type 0} {P Q : Type 0} (r : Result A E) → (P → Q) → OnOk r P → OnOk r Q
on_ok (Ok a) f p = f p
on_ok (Err e) f p = p

pub if_ok : {A E : Type 0} {P Q : A → Type 0} (r : Result A E) → ((a : A) → P a → Q a) → IfOk r P → IfOk r Q
if_ok (Ok a) f p = f a p
if_ok (Err e) f p = p

pub mapped_one : {X Y : Type 0} (f : X → Y) (old new : List X) (x : X) → new ≡ old ++ x ∷ [] → map f new ≡ map f old ++ f x ∷ []
mapped_one f old new x is = ap (map f) is ∙ map-append f old (x ∷ [])

module _ {X : Type 0} (P : X → Type 0) where
  pub first_holds : (xs : List X) (x : X) → 1 ≤ length xs → x ≡ get_or xs 0 x → AllByRecursion P xs → P x × AllByRecursion P (others xs)
  first_holds xs x some is all = subst (AllByRecursion P) (whole xs x some is) all

  pub one_holds : (old new : List X) (x : X) → new ≡ old ++ x ∷ [] → AllByRecursion P old → P x → AllByRecursion P new
  one_holds old new x is all one = subst (AllByRecursion P) (sym is) (by old all)
    where
      by : (ys : List X) → AllByRecursion P ys → AllByRecursion P (ys ++ x ∷ [])
      by [] a = (one, tt)
      by (y ∷ ys) a = (a.0, by ys a.1)

pub first_tested : {X : Type 0} (f : X → Bool) (xs : List X) (x : X) → 1 ≤ length xs → x ≡ get_or xs 0 x → list_all f xs ≡ true → (f x ≡ true) × (list_all f (others xs) ≡ true)
first_tested f xs x some is all = and_parts (f x) (list_all f (others xs)) (ap (list_all f) (sym (whole xs x some is)) ∙ all)

-- what holds of each holds of the one that is found
pub found_holds : {X : Type 0} (P : X → Type 0) (test : X → Bool) (xs : List X) (x : X) → AllByRecursion P xs → find test xs ≡ Some x → P x
found_holds {X} P test [] x all is = absurd cc
found_holds {X} P test (y ∷ ys) x all is = by (test y) is (found_holds P test ys x all.1)
  where
    by : (b : Bool) → cond b (Some y) (find test ys) ≡ Some x → (find test ys ≡ Some x → P x) → P x
    by true here rest = let same : y ≡ x = cc in subst P same all.0
    by false here rest = rest here

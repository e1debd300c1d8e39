-- Lists by their first item and the others.
use Rattle.std.proofs.Common.{◌≡◌, ◌∙◌, ◌≤◌, ◌-◌, List, [], ◌∷◌, ◌++◌, length, get_or, take, drop, Result, Ok, Err, arith, sym, ap, subst, append_assoc}
use Rattle.std.specs.Prelude.{IfOk, OnOk}
use Rattle.std.specs.List.{AllByRecursion}
use Rattle.std.proofs.lemmas.List.{take_all}

abbrev pub others : {X : Type 0} → List X → List X
others xs = take (length xs - 1) (drop 1 xs)

pub whole : {X : Type 0} (xs : List X) (x : X) → 1 ≤ length xs → x ≡ get_or xs 0 x → xs ≡ x ∷ others xs
whole [] x some is = absurd (omega arith)
whole (y ∷ ys) x some is =
    let n : length (y ∷ ys) - 1 ≡ length ys = omega arith in
    let rest : others (y ∷ ys) ≡ ys = ap (λ k. take k (drop 1 (y ∷ ys))) n ∙ take_all (length ys) ys (omega arith) in
    (λ i. sym is i ∷ sym rest i)

pub always : {A E : Type 0} {P : Type 0} (r : Result A E) → P → IfOk r (λ a. P)
always (Ok a) p = p
always (Err e) p = tt

pub on_ok : {A E : Type 0} {P Q : Type 0} (r : Result A E) → (P → Q) → OnOk r P → OnOk r Q
on_ok (Ok a) f p = f p
on_ok (Err e) f p = p

pub if_ok : {A E : Type 0} {P Q : A → Type 0} (r : Result A E) → ((a : A) → P a → Q a) → IfOk r P → IfOk r Q
if_ok (Ok a) f p = f a p
if_ok (Err e) f p = p

module _ {X : Type 0} (P : X → Type 0) where
  pub first_holds : (xs : List X) (x : X) → 1 ≤ length xs → x ≡ get_or xs 0 x → AllByRecursion P xs → P x × AllByRecursion P (others xs)
  first_holds xs x some is all = subst (AllByRecursion P) (whole xs x some is) all

pub one_behind : {X Y : Type 0} (F : List X → List Y) (G : X → List Y) → ((x : X) (xs : List X) → F (x ∷ xs) ≡ G x ++ F xs) → (old next new : List Y) (xs : List X) (x : X) → 1 ≤ length xs → x ≡ get_or xs 0 x
    → next ≡ old ++ G x → new ≡ next ++ F (others xs) → new ≡ old ++ F xs
one_behind F G law old next new xs x some is one rest =
    rest ∙ ap (λ ys. ys ++ F (others xs)) one ∙ append_assoc old (G x) (F (others xs)) ∙ ap (λ ys. old ++ ys) (sym (law x (others xs)) ∙ ap F (sym (whole xs x some is)))

-- Lists by their first item and the rest, as a function that calls itself takes them.
use Rattle.std.proofs.Common.{◌≡◌, ◌≤◌, ◌-◌, Bool, true, List, [], ◌∷◌, ◌++◌, length, map, get_or, take, drop, Result, Ok, Err, sym, ap, subst, ◌∙◌, arith, append_assoc}
use Rattle.std.specs.Prelude.{OnOk}
use Rattle.std.specs.List.{list_all, AllByRecursion}
use Rattle.std.proofs.lemmas.Bool.{and_parts}
use Rattle.std.proofs.lemmas.List.{map-append, take_all}

abbrev pub behind : {X : Type 0} → List X → List X
behind xs = take (length xs - 1) (drop 1 xs)

pub whole_list : {X : Type 0} (xs : List X) (x : X) → 1 ≤ length xs → x ≡ get_or xs 0 x → xs ≡ x ∷ behind xs
whole_list [] x some is = absurd (omega arith)
whole_list (y ∷ ys) x some is =
    let n : length (y ∷ ys) - 1 ≡ length ys = omega arith in
    let rest : take (length (y ∷ ys) - 1) (drop 1 (y ∷ ys)) ≡ ys = ap (λ k. take k (drop 1 (y ∷ ys))) n ∙ take_all (length ys) ys (omega arith) in
    (λ i. sym is i ∷ sym rest i)

each_rest : {X : Type 0} (P : X → Type 0) (xs : List X) (x : X) → 1 ≤ length xs → x ≡ get_or xs 0 x → AllByRecursion P xs → P x × AllByRecursion P (behind xs)
each_rest P xs x some is all = subst (AllByRecursion P) (whole_list xs x some is) all

each_last : {X : Type 0} (P : X → Type 0) (xs : List X) (x : X) → AllByRecursion P xs → P x → AllByRecursion P (xs ++ x ∷ [])
each_last P [] x all one = (one, tt)
each_last P (y ∷ ys) x all one = (all.0, each_last P ys x all.1 one)

-- ---- one more, behind those that were there

module _ {X Y E : Type 0} (r : Result (Unit {0}) E) (old mid new : List X) (x : X) (ys : List Y) (y : Y) (some : 1 ≤ length ys) (is : y ≡ get_or ys 0 y) (pushed : mid ≡ old ++ x ∷ []) where
  pub more_told : {Z W : Type 0} (f : X → Z) (g : Y → W) (h : W → Z) → f x ≡ h (g y) → OnOk r (map f new ≡ map f mid ++ map h (map g (behind ys))) → OnOk r (map f new ≡ map f old ++ map h (map g ys))
  more_told f g h same told = by r told
    where
      by : (r : Result (Unit {0}) E) → OnOk r (map f new ≡ map f mid ++ map h (map g (behind ys))) → OnOk r (map f new ≡ map f old ++ map h (map g ys))
      by (Err e) told = tt
      by (Ok u) told =
          told ∙ ap (λ xs. map f xs ++ map h (map g (behind ys))) pushed ∙ ap (λ zs. zs ++ map h (map g (behind ys))) (map-append f old (x ∷ [])) ∙ append_assoc (map f old) (f x ∷ []) (map h (map g (behind ys)))
          ∙ ap (λ z. map f old ++ z ∷ map h (map g (behind ys))) same ∙ ap (λ ws. map f old ++ map h (map g ws)) (sym (whole_list ys y some is))

  pub more_each : (P : X → Type 0) (Q : Y → Type 0) → (Q y → P x) → OnOk r (AllByRecursion Q (behind ys) → AllByRecursion P mid → AllByRecursion P new) → OnOk r (AllByRecursion Q ys → AllByRecursion P old → AllByRecursion P new)
  more_each P Q gives told = by r told
    where
      by : (r : Result (Unit {0}) E) → OnOk r (AllByRecursion Q (behind ys) → AllByRecursion P mid → AllByRecursion P new) → OnOk r (AllByRecursion Q ys → AllByRecursion P old → AllByRecursion P new)
      by (Err e) told = tt
      by (Ok u) told = λ qs ps. let parts = each_rest Q ys y some is qs in told parts.1 (subst (AllByRecursion P) (sym pushed) (each_last P old x ps (gives parts.0)))

  -- where each of them passes a test
  pub more_passing : {W : Type 0} (P : X → Type 0) (Q : Y → Type 0) (g : Y → W) (b : W → Bool) → (Q y → b (g y) ≡ true → P x)
      → OnOk r (AllByRecursion Q (behind ys) → list_all b (map g (behind ys)) ≡ true → AllByRecursion P mid → AllByRecursion P new)
      → OnOk r (AllByRecursion Q ys → list_all b (map g ys) ≡ true → AllByRecursion P old → AllByRecursion P new)
  more_passing P Q g b gives told = by r told
    where
      by : (r : Result (Unit {0}) E)
          → OnOk r (AllByRecursion Q (behind ys) → list_all b (map g (behind ys)) ≡ true → AllByRecursion P mid → AllByRecursion P new)
          → OnOk r (AllByRecursion Q ys → list_all b (map g ys) ≡ true → AllByRecursion P old → AllByRecursion P new)
      by (Err e) told = tt
      by (Ok u) told = λ qs bs ps.
          let parts = each_rest Q ys y some is qs in
          let both = and_parts (b (g y)) (list_all b (map g (behind ys))) (subst (λ zs. list_all b (map g zs) ≡ true) (whole_list ys y some is) bs) in
          told parts.1 both.1 (subst (AllByRecursion P) (sym pushed) (each_last P old x ps (gives parts.0 both.0)))

-- Labels that stand in two lists, none twice, are no more than those of each.
use Rattle.std.proofs.Common.{◌≡◌, ◌≤◌, ◌+◌, suc, Bool, true, false, ◌||◌, cond, List, [], ◌∷◌, length, refl, sym, ap, ◌∙◌, arith}
use Rattle.std.specs.List.{filter, list_any}
use Rattle.std.specs.declared.cmp.Ordering.{Ordering}
use Rattle.std.specs.declared.cmp.Ordering.TheVariants.{Less, Equal, Greater}
use Rattle.std.specs.Ordering.{is_eq}
use Rattle.std.proofs.lemmas.Bool.{or_parts, and_from, and_parts}
use Rattle.std.proofs.lemmas.Cmp.{tied_itself}
use Rattle.xr_types.specs.declared.axis.Label.{Label}
use Rattle.xr_arrays.specs.Labels.{order, repeats, same}
use Rattle.xr_arrays.proofs.LabelLaws.{order_total}
use Rattle.xr_defs.specs.Building.{same_labels}
use Rattle.xr_operations.specs.Alignment.{holds_label}

is_equal : (o : Ordering) → is_eq o ≡ true → o ≡ Equal
is_equal Less e = absurd cc
is_equal Equal e = refl
is_equal Greater e = absurd cc

pub same_itself : (x : Label) → same x x ≡ true
same_itself x = ap is_eq (tied_itself order_total x)

-- labels that are the same are the same as others
pub same_as : (x y z : Label) → same x y ≡ true → same x z ≡ same y z
same_as x y z e = ap is_eq (order_total.congr x y z (is_equal (order x y) e))

pub same_swap : (x y : Label) → same x y ≡ true → same y x ≡ true
same_swap x y e = sym (same_as x y x e) ∙ same_itself x

pub all_same : (ls : List Label) → same_labels ls ls ≡ true
all_same [] = refl
all_same (l ∷ ls) = and_from (same l l) (same_labels ls ls) (same_itself l) (all_same ls)

pub same_length : (ls ms : List Label) → same_labels ls ms ≡ true → length ls ≡ length ms
same_length [] [] e = refl
same_length [] (m ∷ ms) e = absurd cc
same_length (l ∷ ls) [] e = absurd cc
same_length (l ∷ ls) (m ∷ ms) e = ap (λ n. suc n) (same_length ls ms (and_parts (same l m) (same_labels ls ms) e).1)

-- ---- how many pass

pub fewer_pass : {X : Type 0} (p : X → Bool) (xs : List X) → length (filter p xs) ≤ length xs
fewer_pass p [] = omega arith
fewer_pass p (x ∷ xs) = by (p x) (fewer_pass p xs)
  where
    by : (b : Bool) → length (filter p xs) ≤ length xs → length (cond b (x ∷ filter p xs) (filter p xs)) ≤ length (x ∷ xs)
    by true le = omega arith
    by false le = omega arith

either_pass : {X : Type 0} (p q : X → Bool) (xs : List X) → length (filter (λ x. p x || q x) xs) ≤ length (filter p xs) + length (filter q xs)
either_pass p q [] = omega arith
either_pass p q (x ∷ xs) = by (p x) (q x) (either_pass p q xs)
  where
    by : (b c : Bool) → length (filter (λ x. p x || q x) xs) ≤ length (filter p xs) + length (filter q xs)
        → length (cond (b || c) (x ∷ filter (λ x. p x || q x) xs) (filter (λ x. p x || q x) xs)) ≤ length (cond b (x ∷ filter p xs) (filter p xs)) + length (cond c (x ∷ filter q xs) (filter q xs))
    by true true le = omega arith
    by true false le = omega arith
    by false true le = omega arith
    by false false le = omega arith

none_pass : {X : Type 0} (xs : List X) → length (filter (λ x. false) xs) ≡ 0
none_pass [] = refl
none_pass (x ∷ xs) = none_pass xs

none_again : (m x : Label) (xs : List Label) → same m x ≡ true → list_any (λ y. same x y) xs ≡ false → length (filter (same m) xs) ≡ 0
none_again m x [] e other = refl
none_again m x (y ∷ xs) e other =
    let parts = or_parts (same x y) (list_any (λ y. same x y) xs) other in
    ap (λ b. length (cond b (y ∷ filter (same m) xs) (filter (same m) xs))) (same_as m x y e ∙ parts.0) ∙ none_again m x xs e parts.1

-- of labels of which none stands twice, one is the same as another
once_same : (m : Label) (xs : List Label) → repeats xs ≡ false → length (filter (same m) xs) ≤ 1
once_same m [] once = omega arith
once_same m (x ∷ xs) once =
    let parts = or_parts (list_any (λ y. same x y) xs) (repeats xs) once in
    by (same m x) refl parts.0 (once_same m xs parts.1)
  where
    by : (b : Bool) → same m x ≡ b → list_any (λ y. same x y) xs ≡ false → length (filter (same m) xs) ≤ 1 → length (cond b (x ∷ filter (same m) xs) (filter (same m) xs)) ≤ 1
    by true e other le = let none = none_again m x xs e other in omega arith
    by false e other le = le

pub fewer_held : (ms ls : List Label) → repeats ls ≡ false → length (filter (holds_label ms) ls) ≤ length ms
fewer_held [] ls once = let none = none_pass ls in omega arith
fewer_held (m ∷ ms) ls once =
    let both = either_pass (same m) (holds_label ms) ls in
    let one = once_same m ls once in
    let rest = fewer_held ms ls once in
    omega arith

-- Names that are distinct, and what holds of each item of a list.
use Rattle.std.proofs.Common.{◌≡◌, ◌<◌, ◌+◌, ℕ, Bool, true, false, cond, List, [], ◌∷◌, ◌++◌, length, map, take, get_or, refl, sym, ap, subst, ◌∙◌}
use Rattle.std.proofs.lemmas.List.{take_more}
use Rattle.std.specs.Prelude.{not, ◌&&◌, ◌||◌, filter}
use Rattle.std.specs.List.{AllByRecursion}
use Rattle.std.specs.Str.{bytes_eq}
use Rattle.std.proofs.lemmas.Bool.{and_parts}
use Rattle.std.proofs.lemmas.List.Folds.{list_any-append}
use Rattle.std.proofs.lemmas.Slice.Eq.{bytes_eq-Decides}
use Rattle.std.proofs.lemmas.Bool.Decides.{same_from_decides}
use Rattle.xr_defs.specs.declared.value.Coord.{Coord}
use Rattle.xr_types.specs.Names.{among}
use Rattle.xr_types.specs.Names.{are_distinct}
use Rattle.xr_defs.specs.Printing.{by_name, put_coord, is_below}
use Rattle.xr_defs.specs.Encoding.{coord_names}

-- ---- tests

pub not_true : (b : Bool) → not b ≡ true → b ≡ false
not_true true e = cc
not_true false e = refl

pub true_not : (b : Bool) → b ≡ false → not b ≡ true
true_not true e = cc
true_not false e = refl

pub neither : (a b : Bool) → (a || b) ≡ false → (a ≡ false) × (b ≡ false)
neither true b e = cc
neither false b e = (refl, e)

pub both_false : (a b : Bool) → a ≡ false → b ≡ false → (a || b) ≡ false
both_false true b e f = cc
both_false false b e f = f

pub both_true : (a b : Bool) → a ≡ true → b ≡ true → (a && b) ≡ true
both_true true b e f = f
both_true false b e f = cc

pub eq_swap : (a b : List ℕ) → bytes_eq a b ≡ bytes_eq b a
eq_swap a b = same_from_decides (bytes_eq a b) (bytes_eq b a) (bytes_eq-Decides a b) ((λ e. sym ((bytes_eq-Decides b a).0 e)), (λ e. (bytes_eq-Decides b a).1 (sym e)))

pub eq_itself : (a : List ℕ) → bytes_eq a a ≡ true
eq_itself a = (bytes_eq-Decides a a).1 refl

pub eq_same : (a b : List ℕ) → bytes_eq a b ≡ true → a ≡ b
eq_same a b e = (bytes_eq-Decides a b).0 e

-- ---- each item of a list

pub weaken : {X : Type 0} (P Q : X → Type 0) → ((x : X) → P x → Q x) → (xs : List X) → AllByRecursion P xs → AllByRecursion Q xs
weaken P Q f [] all = tt
weaken P Q f (x ∷ xs) all = (f x all.0, weaken P Q f xs all.1)

pub all_with : {X : Type 0} (P Q R : X → Type 0) → ((x : X) → P x → Q x → R x) → (xs : List X) → AllByRecursion P xs → AllByRecursion Q xs → AllByRecursion R xs
all_with P Q R f [] ps qs = tt
all_with P Q R f (x ∷ xs) ps qs = (f x ps.0 qs.0, all_with P Q R f xs ps.1 qs.1)

pub all_join : {X : Type 0} (P : X → Type 0) (xs ys : List X) → AllByRecursion P xs → AllByRecursion P ys → AllByRecursion P (xs ++ ys)
all_join P [] ys ps qs = qs
all_join P (x ∷ xs) ys ps qs = (ps.0, all_join P xs ys ps.1 qs)

pub all_parts : {X : Type 0} (P : X → Type 0) (xs ys : List X) → AllByRecursion P (xs ++ ys) → AllByRecursion P xs × AllByRecursion P ys
all_parts P [] ys all = (tt, all)
all_parts P (x ∷ xs) ys all = let rest = all_parts P xs ys all.1 in ((all.0, rest.0), rest.1)

pub all_mapped : {X Y : Type 0} (P : Y → Type 0) (f : X → Y) (xs : List X) → AllByRecursion (λ x. P (f x)) xs → AllByRecursion P (map f xs)
all_mapped P f [] all = tt
all_mapped P f (x ∷ xs) all = (all.0, all_mapped P f xs all.1)

pub all_unmapped : {X Y : Type 0} (P : Y → Type 0) (f : X → Y) (xs : List X) → AllByRecursion P (map f xs) → AllByRecursion (λ x. P (f x)) xs
all_unmapped P f [] all = tt
all_unmapped P f (x ∷ xs) all = (all.0, all_unmapped P f xs all.1)

filtered_one : {X : Type 0} (P : X → Type 0) (p : X → Bool) (x : X) (xs : List X) (b : Bool) → P x → AllByRecursion P (filter p xs) → AllByRecursion P (cond b (x ∷ filter p xs) (filter p xs))
filtered_one P p x xs true here all = (here, all)
filtered_one P p x xs false here all = all

pub all_filtered : {X : Type 0} (P : X → Type 0) (p : X → Bool) (xs : List X) → AllByRecursion P xs → AllByRecursion P (filter p xs)
all_filtered P p [] all = tt
all_filtered P p (x ∷ xs) all = filtered_one P p x xs (p x) all.0 (all_filtered P p xs all.1)

unfiltered_one : {X : Type 0} (P : X → Type 0) (p : X → Bool) (x : X) (xs : List X) (b : Bool) → p x ≡ b → AllByRecursion P (cond b (x ∷ filter p xs) (filter p xs)) → (p x ≡ true → P x) × AllByRecursion P (filter p xs)
unfiltered_one P p x xs true e all = ((λ f. all.0), all.1)
unfiltered_one P p x xs false e all = ((λ f. let clash : false ≡ true = sym e ∙ f in absurd cc), all)

pub all_unfiltered : {X : Type 0} (P : X → Type 0) (p : X → Bool) (xs : List X) → AllByRecursion P (filter p xs) → AllByRecursion (λ x. p x ≡ true → P x) xs
all_unfiltered P p [] all = tt
all_unfiltered P p (x ∷ xs) all = let both = unfiltered_one P p x xs (p x) refl all in (both.0, all_unfiltered P p xs both.1)

-- ---- lists one behind the other

-- none of these stands among those
abbrev pub AreApart : List (List ℕ) → List (List ℕ) → Type 0
AreApart xs ys = AllByRecursion (λ x. among ys x ≡ false) xs

pub distinct_parts : (xs ys : List (List ℕ)) → are_distinct (xs ++ ys) ≡ true → (are_distinct xs ≡ true) × ((are_distinct ys ≡ true) × AreApart xs ys)
distinct_parts [] ys e = (refl, (e, tt))
distinct_parts (x ∷ xs) ys e =
    let both = and_parts (not (among (xs ++ ys) x)) (are_distinct (xs ++ ys)) e in
    let rest = distinct_parts xs ys both.1 in
    let out = neither (among xs x) (among ys x) (sym (list_any-append (bytes_eq x) xs ys) ∙ not_true (among (xs ++ ys) x) both.0) in
    (both_true _ _ (true_not (among xs x) out.0) rest.0, (rest.1.0, (out.1, rest.1.1)))

pub distinct_join : (xs ys : List (List ℕ)) → are_distinct xs ≡ true → are_distinct ys ≡ true → AreApart xs ys → are_distinct (xs ++ ys) ≡ true
distinct_join [] ys e f apart = f
distinct_join (x ∷ xs) ys e f apart =
    let both = and_parts (not (among xs x)) (are_distinct xs) e in
    both_true _ _ (true_not (among (xs ++ ys) x) (list_any-append (bytes_eq x) xs ys ∙ both_false (among xs x) (among ys x) (not_true (among xs x) both.0) apart.0)) (distinct_join xs ys both.1 f apart.1)

-- ---- coordinates by their names

or_swap : (a b c : Bool) → (a || (b || c)) ≡ (b || (a || c))
or_swap true true c = refl
or_swap true false c = refl
or_swap false b c = refl

put_one : (c d : Coord) (ds : List Coord) (n : List ℕ) (b : Bool) → among (coord_names (put_coord c ds)) n ≡ (bytes_eq n c.name || among (coord_names ds) n)
    → among (coord_names (cond b (d ∷ put_coord c ds) (c ∷ d ∷ ds))) n ≡ (bytes_eq n c.name || (bytes_eq n d.name || among (coord_names ds) n))
put_one c d ds n true goes = ap (λ b. bytes_eq n d.name || b) goes ∙ or_swap (bytes_eq n d.name) (bytes_eq n c.name) (among (coord_names ds) n)
put_one c d ds n false goes = refl

among_put : (c : Coord) (ds : List Coord) (n : List ℕ) → among (coord_names (put_coord c ds)) n ≡ (bytes_eq n c.name || among (coord_names ds) n)
among_put c [] n = refl
among_put c (d ∷ ds) n = put_one c d ds n (is_below d.name c.name) (among_put c ds n)

pub among_sorted : (cs : List Coord) (n : List ℕ) → among (coord_names (by_name cs)) n ≡ among (coord_names cs) n
among_sorted [] n = refl
among_sorted (c ∷ cs) n = among_put c (by_name cs) n ∙ ap (λ b. bytes_eq n c.name || b) (among_sorted cs n)

distinct_one : (c d : Coord) (ds : List Coord) (b : Bool) → among (coord_names (d ∷ ds)) c.name ≡ false → are_distinct (coord_names (d ∷ ds)) ≡ true → (among (coord_names ds) c.name ≡ false → are_distinct (coord_names ds) ≡ true → are_distinct (coord_names (put_coord c ds)) ≡ true)
    → are_distinct (coord_names (cond b (d ∷ put_coord c ds) (c ∷ d ∷ ds))) ≡ true
distinct_one c d ds true new e goes =
    let both = and_parts (not (among (coord_names ds) d.name)) (are_distinct (coord_names ds)) e in
    let apart = neither (bytes_eq c.name d.name) (among (coord_names ds) c.name) new in
    both_true _ _ (true_not (among (coord_names (put_coord c ds)) d.name) (among_put c ds d.name ∙ both_false (bytes_eq d.name c.name) (among (coord_names ds) d.name) (eq_swap d.name c.name ∙ apart.0) (not_true _ both.0)))
    (goes apart.1 both.1)
distinct_one c d ds false new e goes = both_true _ _ (true_not (among (coord_names (d ∷ ds)) c.name) new) e

distinct_put : (c : Coord) (ds : List Coord) → among (coord_names ds) c.name ≡ false → are_distinct (coord_names ds) ≡ true → are_distinct (coord_names (put_coord c ds)) ≡ true
distinct_put c [] new e = refl
distinct_put c (d ∷ ds) new e = distinct_one c d ds (is_below d.name c.name) new e (distinct_put c ds)

pub distinct_sorted : (cs : List Coord) → are_distinct (coord_names cs) ≡ true → are_distinct (coord_names (by_name cs)) ≡ true
distinct_sorted [] e = refl
distinct_sorted (c ∷ cs) e =
    let both = and_parts (not (among (coord_names cs) c.name)) (are_distinct (coord_names cs)) e in
    distinct_put c (by_name cs) (among_sorted cs c.name ∙ not_true (among (coord_names cs) c.name) both.0) (distinct_sorted cs both.1)

-- names apart from others are so in any order of the others
apart_sorted : (xs : List (List ℕ)) (cs : List Coord) (ys : List (List ℕ)) → AreApart xs (coord_names cs ++ ys) → AreApart xs (coord_names (by_name cs) ++ ys)
apart_sorted [] cs ys apart = tt
apart_sorted (x ∷ xs) cs ys apart = (
  list_any-append (bytes_eq x) (coord_names (by_name cs)) ys ∙ ap (λ b. b || among ys x) (among_sorted cs x) ∙ sym (list_any-append (bytes_eq x) (coord_names cs) ys) ∙ apart.0,
  apart_sorted xs cs ys apart.1,
)

put_apart : (c : Coord) (ds : List Coord) (ys : List (List ℕ)) → among ys c.name ≡ false → AreApart (coord_names ds) ys → AreApart (coord_names (put_coord c ds)) ys
put_apart c [] ys here all = (here, tt)
put_apart c (d ∷ ds) ys here all = by (is_below d.name c.name) (put_apart c ds ys here all.1)
  where
    by : (b : Bool) → AreApart (coord_names (put_coord c ds)) ys → AreApart (coord_names (cond b (d ∷ put_coord c ds) (c ∷ d ∷ ds))) ys
    by true rest = (all.0, rest)
    by false rest = (here, all)

sorted_apart : (cs : List Coord) (ys : List (List ℕ)) → AreApart (coord_names cs) ys → AreApart (coord_names (by_name cs)) ys
sorted_apart [] ys all = tt
sorted_apart (c ∷ cs) ys all = put_apart c (by_name cs) ys all.0 (sorted_apart cs ys all.1)

pub distinct_any_order : (xs : List (List ℕ)) (cs : List Coord) (ys : List (List ℕ)) → are_distinct (xs ++ (coord_names cs ++ ys)) ≡ true → are_distinct (xs ++ (coord_names (by_name cs) ++ ys)) ≡ true
distinct_any_order xs cs ys e =
    let outer = distinct_parts xs (coord_names cs ++ ys) e in
    let inner = distinct_parts (coord_names cs) ys outer.1.0 in
    distinct_join xs (coord_names (by_name cs) ++ ys) outer.0
    (distinct_join (coord_names (by_name cs)) ys (distinct_sorted cs inner.0) inner.1.0 (sorted_apart cs ys inner.1.1)) (apart_sorted xs cs ys outer.1.1)

-- one item more
pub all_more : {X : Type 0} (P : X → Type 0) (xs : List X) (i : ℕ) (x : X) → i < length xs → x ≡ get_or xs i x → P x → AllByRecursion P (take i xs) → AllByRecursion P (take (i + 1) xs)
all_more P xs i x lt is here all = subst (AllByRecursion P) (sym (take_more xs i x lt ∙ ap (λ y. take i xs ++ y ∷ []) (sym is))) (all_join P (take i xs) (x ∷ []) all (here, tt))

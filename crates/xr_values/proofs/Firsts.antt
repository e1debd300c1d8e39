-- The first of each name in a list: names stay distinct, and which of them are kept where those of their name are like them.
use Rattle.xr_values.proofs.Common.{All, All-cons, All-head, All-nil, All-tail, All-weaker, Bool, Bor, List, [], among, and_from, and_parts, ap, append-nil, are_distinct, arith, bytes_eq, bytes_eq-Decides, cond_both, drop, drop-drop, false, filter, filter-append, filter_passes, get_or, if◌then◌else◌, length, list_all, list_all-map, map, map-append, nat_tests, not, not-true, not_from_false, or_left, or_parts, refl, subst, sym, take, take-append-drop, true, ℕ, ◌&&◌, ◌++◌, ◌+◌, ◌<◌, ◌||◌, ◌∙◌, ◌∷◌, ◌≡◌}
use Rattle.std.proofs.lemmas.List.Elements.{All-filter, All-map}
use Rattle.std.proofs.lemmas.List.Folds.{list_any_none}
use Rattle.xr_values.proofs.Named.{bytes_eq_swap}
use Rattle.xr_values.proofs.Places.{from_place, take_one}

-- a test of what references or fields hold, and nothing put behind a list
pub ruleset through_map = (list_all-map, append-nil)

abbrev pub nows : {X : Type 0} → List (Bor X) → List X
nows xs = map (λ x. x.now) xs

module _ {X : Type 0} (name : X → List ℕ) where
  abbrev pub named : X → X → Bool
  named x y = bytes_eq (name y) (name x)

  abbrev pub Other : List ℕ → X → Type 0
  Other n x = bytes_eq n (name x) ≡ false

  pub absent : (n : List ℕ) (xs : List X) → All (Other n) xs → among (map name xs) n ≡ false
  absent n xs all = list_any_none (bytes_eq n) (map name xs) (All-map (λ m. bytes_eq n m ≡ false) name xs all)

  others : (n : List ℕ) (xs : List X) → among (map name xs) n ≡ false → All (Other n) xs
  others n [] is = All-nil (Other n)
  others n (x ∷ xs) is = let parts = or_parts (bytes_eq n (name x)) (among (map name xs) n) is in All-cons (Other n) x xs parts.0 (others n xs parts.1)

  pub distinct_filtered : (p : X → Bool) (xs : List X) → are_distinct (map name xs) ≡ true → are_distinct (map name (filter p xs)) ≡ true
  distinct_filtered p [] distinct = refl
  distinct_filtered p (x ∷ xs) distinct =
      let parts = and_parts (not (among (map name xs) (name x))) (are_distinct (map name xs)) distinct in
      let left = All-filter p (Other (name x)) xs (others (name x) xs (not-true (among (map name xs) (name x)) parts.0)) in
      cond_both (p x) (x ∷ filter p xs) (filter p xs) (λ ys. are_distinct (map name ys) ≡ true)
      (λ e. and_from (not (among (map name (filter p xs)) (name x))) (are_distinct (map name (filter p xs))) (not_from_false (among (map name (filter p xs)) (name x)) (absent (name x) (filter p xs) left)) (distinct_filtered p xs parts.1))
      (λ e. distinct_filtered p xs parts.1)

  abbrev pub is_fresh : List X → X → Bool
  is_fresh xs x = list_all (λ y. not (named x y)) xs

  abbrev pub if_fresh : List X → X → List X
  if_fresh xs x = if is_fresh xs x then x ∷ [] else []

  filtered_fresh : (y x : X) (xs : List X) → filter (λ z. not (named y z)) (if_fresh xs x) ≡ if_fresh (y ∷ xs) x
  filtered_fresh y x xs =
      elim (is_fresh xs x) as (λ b. filter (λ z. not (named y z)) (if b then x ∷ [] else []) ≡ (if b then (if not (named y x) then x ∷ [] else []) else [])) [ true ↦ refl | false ↦ refl ]
      ∙ rw (bytes_eq_swap (name x) (name y)) (by (is_fresh xs x) (not (named x y)))
    where
      by : (b t : Bool) → (if b then (if t then x ∷ [] else []) else []) ≡ (if t && b then x ∷ [] else [])
      by b t = grind (arith, nat_tests)

  -- the first of each name, in the order of first appearance
  module _ (first : List X → List X) (none : first [] ≡ []) (some : (x : X) (xs : List X) → first (x ∷ xs) ≡ x ∷ filter (λ y. not (named x y)) (first xs)) where
    pub first_distinct : (xs : List X) → are_distinct (map name (first xs)) ≡ true
    first_distinct [] = ap (λ ys. are_distinct (map name ys)) none
    first_distinct (x ∷ xs) =
        let left = filter (λ y. not (named x y)) (first xs) in
        let apart = All-weaker (λ y. not (named x y) ≡ true) (Other (name x)) (λ y e. bytes_eq_swap (name x) (name y) ∙ not-true (named x y) e) left (filter_passes (λ y. not (named x y)) (first xs)) in
        ap (λ ys. are_distinct (map name ys)) (some x xs)
        ∙ and_from (not (among (map name left) (name x))) (are_distinct (map name left)) (not_from_false (among (map name left) (name x)) (absent (name x) left apart))
        (distinct_filtered (λ y. not (named x y)) (first xs) (first_distinct xs))

    pub firsts_all : (P : X → Type 0) (xs : List X) → All P xs → All P (first xs)
    firsts_all P [] all = subst (All P) (sym none) all
    firsts_all P (x ∷ xs) all =
        subst (All P) (sym (some x xs)) (All-cons P x (filter (λ y. not (named x y)) (first xs)) (All-head P x xs all) (All-filter (λ y. not (named x y)) P (first xs) (firsts_all P xs (All-tail P x xs all))))

    pub first_more : (xs : List X) (x : X) → first (xs ++ x ∷ []) ≡ first xs ++ if_fresh xs x
    first_more [] x = some x [] ∙ ap (λ ys. x ∷ filter (λ y. not (named x y)) ys) none ∙ ap (λ ys. ys ++ x ∷ []) (sym none)
    first_more (y ∷ xs) x = rw (some y (xs ++ x ∷ []), first_more xs x, filter-append (λ z. not (named y z)) (first xs) (if_fresh xs x), filtered_fresh y x xs, some y xs)

    -- which of them stand in the result, and as what
    module _ (same : X → X → Bool) (alike : (x : X) → same x x ≡ true) {Y : Type 0} (p : X → Bool) (shown : List X → X → Y) where
      abbrev pub agree : List X → X → Bool
      agree xs x = list_all (λ y. not (named x y) || same x y) xs

      abbrev pub result : List X → List X → List Y
      result whole upto = map (shown whole) (filter (λ x. p x && agree whole x) (first upto))

      abbrev pub here : List X → List X → X → List X → List Y
      here whole before x behind = if is_fresh before x && (p x && agree behind x) then shown whole x ∷ [] else []

      -- where none before has its name, those behind it decide
      agree_behind : (before : List X) (x : X) (behind : List X) → is_fresh before x ≡ true → agree (before ++ x ∷ behind) x ≡ agree behind x
      agree_behind [] x behind is = rw ((bytes_eq-Decides (name x) (name x)).1 refl, alike x) refl
      agree_behind (y ∷ before) x behind is =
          let parts = and_parts (not (named x y)) (is_fresh before x) is in
          ap (λ b. b && agree (before ++ x ∷ behind) x) (or_left (not (named x y)) (same x y) parts.0) ∙ agree_behind before x behind parts.1

      -- the result after one more
      one_more : (before : List X) (x : X) (behind : List X) → result (before ++ x ∷ behind) (before ++ x ∷ []) ≡ result (before ++ x ∷ behind) before ++ here (before ++ x ∷ behind) before x behind
      one_more before x behind = let whole = before ++ x ∷ behind in rw (first_more before x, filter-append, map-append) (ap (λ ys. result whole before ++ ys) (by (is_fresh before x) refl))
        where
          by : (b : Bool) → is_fresh before x ≡ b → map (shown (before ++ x ∷ behind)) (filter (λ y. p y && agree (before ++ x ∷ behind) y) (if b then x ∷ [] else [])) ≡ (if b && (p x && agree behind x) then shown (before ++ x ∷ behind) x ∷ [] else [])
          by false is = refl
          by true is = rw (agree_behind before x behind is) (elim (p x && agree behind x) as (λ b. map (shown (before ++ x ∷ behind)) (if b then x ∷ [] else []) ≡ (if b then shown (before ++ x ∷ behind) x ∷ [] else [])) [ true ↦ refl | false ↦ refl ])

      pub kept_on : (all : List (Bor X)) (i : ℕ) (x : Bor X) (before behind : List (Bor X)) (kept new : List Y)
          → i < length all → x ≡ get_or all i x → before ≡ take i all → behind ≡ drop 1 (drop i all)
          → kept ≡ result (nows all) (nows (take i all)) → new ≡ kept ++ here (nows all) (nows before) x.now (nows behind) → new ≡ result (nows all) (nows (take (i + 1) all))
      kept_on all i x before behind kept new lt at front back k n =
          let upto : nows (take (i + 1) all) ≡ nows before ++ x.now ∷ [] = rw (take_one all i x lt at, ← front, map-append) refl in
          let parts : all ≡ before ++ x ∷ behind = sym (take-append-drop i all) ∙ (rw (from_place all i x lt at, ← front, back ∙ drop-drop 1 i all) refl) in
          let whole : nows all ≡ nows before ++ x.now ∷ nows behind = ap nows parts ∙ map-append (λ d. d.now) before (x ∷ behind) in
          n ∙ (rw (k, ← front, upto) (sym (subst (λ w. result w (nows before ++ x.now ∷ []) ≡ result w (nows before) ++ here w (nows before) x.now (nows behind)) (sym whole) (one_more (nows before) x.now (nows behind)))))

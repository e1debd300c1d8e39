-- What a look-up in an index finds.
use Rattle.std.proofs.Common.{◌≡◌, ◌<◌, ◌+◌, ℕ, zero, suc, Bool, true, false, cond, ◌||◌, List, [], ◌∷◌, length, map, Some, None, ◌++◌, Result, Ok, Err, refl, sym, ap, ◌∙◌, arith}
use Rattle.std.specs.List.{filter, list_any, range_with_len}
use Rattle.std.specs.Result.{result_ok}
use Rattle.std.proofs.lemmas.List.{map-append}
use Rattle.xr_types.specs.declared.axis.Label.{Label}
use Rattle.xr_types.specs.declared.axis.Label.TheVariants.{Int, Time, Text}
use Rattle.xr_types.specs.declared.axis.LabelList.{LabelList}
use Rattle.xr_types.specs.declared.axis.LabelList.TheVariants.{Numbers, Times, Texts}
use Rattle.xr_types.specs.declared.fault.Fault.{Fault}
use Rattle.xr_types.specs.declared.fault.Fault.TheVariants.{LabelKind, NotUnique}
use Rattle.xr_arrays.specs.Labels.{find_of, is_kin, labels_of, label_at, place, same, sole}
use Rattle.xr_operations.specs.Alignment.{each_position, found, holds_label}
use Rattle.label_index.proofs.Permuting.{range_push}

-- the one position of some lies below their end
sole_first : (a p : ℕ) (rest : List ℕ) → sole (a ∷ rest) ≡ Ok p → a ≡ p
sole_first a p [] h = cc
sole_first a p (b ∷ rest) h = cc

sole_within : (t : ℕ → Bool) (a n p : ℕ) → sole (filter t (range_with_len a n)) ≡ Ok p → p < a + n
sole_within t a zero p h = cc
sole_within t a (suc n) p h = step (t a) refl (λ k. sole_within t (a + 1) n p k)
  where
    step : (b : Bool) → t a ≡ b → (sole (filter t (range_with_len (a + 1) n)) ≡ Ok p → p < (a + 1) + n) → p < a + suc n
    step true e more = let first : a ≡ p = sole_first a p (filter t (range_with_len (a + 1) n)) (sym (ap (λ b. sole (cond b (a ∷ filter t (range_with_len (a + 1) n)) (filter t (range_with_len (a + 1) n)))) e) ∙ h) in omega arith
    step false e more = let less : p < (a + 1) + n = more (sym (ap (λ b. sole (cond b (a ∷ filter t (range_with_len (a + 1) n)) (filter t (range_with_len (a + 1) n)))) e) ∙ h) in omega arith

pub place_within : (xs : List Label) (l : Label) (p : ℕ) → place xs l ≡ Ok p → p < length xs
place_within xs l p h = let less : p < 0 + length xs = sole_within (λ k. same (label_at xs k) l) 0 (length xs) p h in omega arith

-- ---- a look-up that finds the label, or finds it twice

abbrev pub finds : Result ℕ Fault → Bool
finds (Ok p) = true
finds (Err NotUnique) = true
finds (Err f) = false

abbrev some : List ℕ → Bool
some [] = false
some (p ∷ ps) = true

finds_sole : (ps : List ℕ) → finds (sole ps) ≡ some ps
finds_sole [] = refl
finds_sole (p ∷ []) = refl
finds_sole (p ∷ q ∷ ps) = refl

some_filter : (t : ℕ → Bool) (ps : List ℕ) → some (filter t ps) ≡ list_any t ps
some_filter t [] = refl
some_filter t (p ∷ ps) = step (t p) refl (some_filter t ps)
  where
    step : (b : Bool) → t p ≡ b → some (filter t ps) ≡ list_any t ps → some (filter t (p ∷ ps)) ≡ list_any t (p ∷ ps)
    step true e more = ap (λ b. some (cond b (p ∷ filter t ps) (filter t ps))) e ∙ sym (ap (λ b. b || list_any t ps) e)
    step false e more = ap (λ b. some (cond b (p ∷ filter t ps) (filter t ps))) e ∙ more ∙ sym (ap (λ b. b || list_any t ps) e)

any_range : (test : Label → Bool) (xs : List Label) (g : ℕ → Bool) (a : ℕ) → ((k : ℕ) → k < length xs → g (a + k) ≡ test (label_at xs k)) → list_any g (range_with_len a (length xs)) ≡ list_any test xs
any_range test [] g a h = refl
any_range test (x ∷ xs) g a h =
    let start : a ≡ a + 0 = omega arith in
    let here : g a ≡ test x = ap g start ∙ h 0 (omega arith) in
    let rest : list_any g (range_with_len (a + 1) (length xs)) ≡ list_any test xs = any_range test xs g (a + 1) (λ k s. let e : (a + 1) + k ≡ a + suc k = omega arith in ap g e ∙ h (suc k) (omega arith)) in
    ap (λ b. b || list_any g (range_with_len (a + 1) (length xs))) here ∙ ap (λ b. test x || b) rest

pub held_place : (xs : List Label) (l : Label) → holds_label xs l ≡ finds (place xs l)
held_place xs l =
    let t : ℕ → Bool = λ k. same (label_at xs k) l in
    sym (finds_sole (filter t (range_with_len 0 (length xs))) ∙ some_filter t (range_with_len 0 (length xs)) ∙ any_range (λ m. same m l) xs t 0 (λ k s. let e : 0 + k ≡ k = omega arith in ap t e))

never_held : {X : Type 0} (f : X → Label) (l : Label) → ((x : X) → same (f x) l ≡ false) → (xs : List X) → holds_label (map f xs) l ≡ false
never_held f l never [] = refl
never_held f l never (x ∷ xs) = ap (λ b. b || holds_label (map f xs) l) (never x) ∙ never_held f l never xs

other_kind : (list : LabelList) (l : Label) → is_kin list l ≡ false → holds_label (labels_of list) l ≡ false
other_kind (Numbers kind xs) (Int n) h = cc
other_kind (Numbers kind xs) (Time t) h = never_held Int (Time t) (λ x. refl) xs
other_kind (Numbers kind xs) (Text t) h = never_held Int (Text t) (λ x. refl) xs
other_kind (Times coding xs) (Int n) h = never_held Time (Int n) (λ x. refl) xs
other_kind (Times coding xs) (Time t) h = cc
other_kind (Times coding xs) (Text t) h = never_held Time (Text t) (λ x. refl) xs
other_kind (Texts xs) (Int n) h = never_held Text (Int n) (λ x. refl) xs
other_kind (Texts xs) (Time t) h = never_held Text (Time t) (λ x. refl) xs
other_kind (Texts xs) (Text t) h = cc

pub held_is : (list : LabelList) (l : Label) → holds_label (labels_of list) l ≡ finds (find_of list l)
held_is list l = step (is_kin list l) refl
  where
    step : (b : Bool) → is_kin list l ≡ b → holds_label (labels_of list) l ≡ finds (find_of list l)
    step true e = held_place (labels_of list) l ∙ sym (ap (λ b. finds (cond b (place (labels_of list) l) (Err LabelKind))) e)
    step false e = other_kind list l e ∙ sym (ap (λ b. finds (cond b (place (labels_of list) l) (Err LabelKind))) e)

not_found : (r : Result ℕ Fault) → finds r ≡ false → result_ok r ≡ None
not_found (Ok p) h = cc
not_found (Err f) h = refl

pub found_is : (list : LabelList) (l : Label) → found (labels_of list) l ≡ result_ok (find_of list l)
found_is list l = step (is_kin list l) refl
  where
    step : (b : Bool) → is_kin list l ≡ b → found (labels_of list) l ≡ result_ok (find_of list l)
    step true e = sym (ap (λ b. result_ok (cond b (place (labels_of list) l) (Err LabelKind))) e)
    step false e = not_found (place (labels_of list) l) (sym (held_place (labels_of list) l) ∙ other_kind list l e) ∙ sym (ap (λ b. result_ok (cond b (place (labels_of list) l) (Err LabelKind))) e)

pub each_more : (n : ℕ) → each_position (n + 1) ≡ each_position n ++ Some n ∷ []
each_more n = ap (map Some) (range_push n) ∙ map-append Some (range_with_len 0 n) (n ∷ [])

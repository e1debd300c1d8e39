-- A loop that appends what it makes of each element.
use Rattle.std.proofs.Common.{◌≡◌, ◌<◌, ◌+◌, ℕ, List, [], ◌∷◌, ◌++◌, length, map, zip, drop, get_or, sym, ap, subst, ◌∙◌, arith, append_assoc, add-one, drop-cons}
use Rattle.std.specs.List.{All}
use Rattle.std.proofs.lemmas.List.Elements.{All-append, All-cons}

pub first_at : {X : Type 0} (xs : List X) (i : ℕ) (other : X) → i < length xs → drop i xs ≡ get_or xs i other ∷ drop (i + 1) xs
first_at xs i other lt = drop-cons xs i other lt ∙ ap (λ k. get_or xs i other ∷ drop k xs) (sym (add-one i))

pub first_is : {X : Type 0} (xs : List X) (i : ℕ) (x : X) → i < length xs → x ≡ get_or xs i x → drop i xs ≡ x ∷ drop (i + 1) xs
first_is xs i x lt is = first_at xs i x lt ∙ ap (λ k. k ∷ drop (i + 1) xs) (sym is)

-- one element more
pub step_more : {X Y : Type 0} (f : X → Y) (all : List X → List Y) (xs : List X) (i : ℕ) (x : X) (out more base : List Y) → ((y : X) (ys : List X) → all (y ∷ ys) ≡ f y ∷ all ys) → drop i xs ≡ x ∷ drop (i + 1) xs
    → more ≡ out ++ f x ∷ [] → out ++ all (drop i xs) ≡ base → more ++ all (drop (i + 1) xs) ≡ base
step_more f all xs i x out more base law first is_more so_far =
    let rest = drop (i + 1) xs in
    ap (λ t. t ++ all rest) is_more ∙ append_assoc out (f x ∷ []) (all rest) ∙ ap (λ t. out ++ t) (sym (law x rest)) ∙ ap (λ t. out ++ all t) (sym first) ∙ so_far

-- the same of two lists side by side
pub zipped_more : {A B X Y : Type 0} (f : A → X) (g : X × B → Y) (xs : List A) (bs : List B) (i : ℕ) (x : A) (b : B) (out more base : List Y) → drop i xs ≡ x ∷ drop (i + 1) xs → drop i bs ≡ b ∷ drop (i + 1) bs
    → more ≡ out ++ g (f x, b) ∷ [] → out ++ map g (zip (map f (drop i xs)) (drop i bs)) ≡ base → more ++ map g (zip (map f (drop (i + 1) xs)) (drop (i + 1) bs)) ≡ base
zipped_more f g xs bs i x b out more base first first_b is_more so_far =
    let rest = map g (zip (map f (drop (i + 1) xs)) (drop (i + 1) bs)) in
    ap (λ t. t ++ rest) is_more ∙ append_assoc out (g (f x, b) ∷ []) rest ∙ ap (λ ys. out ++ map g (zip (map f ys) (b ∷ drop (i + 1) bs))) (sym first) ∙ ap (λ cs. out ++ map g (zip (map f (drop i xs)) cs)) (sym first_b) ∙ so_far

pub all_pushed : {Y : Type 0} (P : Y → Type 0) (out more : List Y) (y : Y) → more ≡ out ++ y ∷ [] → P y → All P out → All P more
all_pushed P out more y is here so_far = subst (All P) (sym is) (All-append P out (y ∷ []) so_far (All-cons P y [] here (λ k d none. absurd (omega arith))))

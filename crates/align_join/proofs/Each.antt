-- The axes of each name joined, one name after the other.
use Rattle.std.proofs.Common.{◌≡◌, ◌<◌, ◌≤◌, ◌+◌, ◌++◌, ℕ, Bool, List, [], ◌∷◌, map, drop, length, get_or, Result, Ok, Err, refl, sym, ap, subst, ◌∙◌, append-nil, append_assoc}
use Rattle.std.proofs.lemmas.List.{drop_more, drop_all}
use Rattle.xr_types.specs.Results.{◌>>=◌}
use Rattle.xr_types.specs.declared.axis.Axis.{Axis}
use Rattle.xr_types.specs.declared.fault.Fault.{Fault}
use Rattle.xr_types.specs.declared.operation.How.{How}
use Rattle.xr_operations.specs.Alignment.{axes_named, joined_each, joined_or_own}

bind_same : {A : Type 0} (r : Result A Fault) (g : A → A) → ((x : A) → g x ≡ x) → (r >>= λ x. Ok (g x)) ≡ r
bind_same (Ok x) g h = ap Ok (h x)
bind_same (Err e) g h = refl

module _ (j : How) (filled : Bool) (lists : List (List Axis)) where
  -- at first there is none
  pub each_empty : (names : List (List ℕ)) (out : List Axis) → out ≡ [] → (joined_each j filled lists names >>= λ xs. Ok (out ++ xs)) ≡ joined_each j filled lists names
  each_empty names out e = ap (λ o. joined_each j filled lists names >>= λ xs. Ok (o ++ xs)) e ∙ bind_same (joined_each j filled lists names) (λ xs. xs) (λ xs. refl)

  module _ {Y : Type 0} (f : Y → List ℕ) (names : List Y) (i : ℕ) (out : List Axis) where
    -- what follows a joined axis
    abbrev pub after : Axis → Result (List Axis) Fault
    after x = (joined_each j filled lists (map f (drop (i + 1) names)) >>= λ xs. Ok (x ∷ xs)) >>= λ xs. Ok (out ++ xs)

    split : (one : Result Axis Fault) (rest : Result (List Axis) Fault) → ((one >>= λ x. rest >>= λ xs. Ok (x ∷ xs)) >>= λ xs. Ok (out ++ xs)) ≡ (one >>= λ x. (rest >>= λ xs. Ok (x ∷ xs)) >>= λ xs. Ok (out ++ xs))
    split (Ok x) rest = refl
    split (Err e) rest = refl

    pub each_told : (y : Y) → i < length names → y ≡ get_or names i y → (joined_each j filled lists (map f (drop i names)) >>= λ xs. Ok (out ++ xs)) ≡ (joined_or_own j filled (axes_named (f y) lists) >>= after)
    unfolding joined_each
    each_told y within is =
        let front : drop i names ≡ y ∷ drop (i + 1) names = drop_more names i y within ∙ ap (λ z. z ∷ drop (i + 1) names) (sym is) in
        ap (λ ys. joined_each j filled lists (map f ys) >>= λ xs. Ok (out ++ xs)) front ∙ split (joined_or_own j filled (axes_named (f y) lists)) (joined_each j filled lists (map f (drop (i + 1) names)))

    moved : (x : Axis) (rest : Result (List Axis) Fault) → ((rest >>= λ xs. Ok (x ∷ xs)) >>= λ xs. Ok (out ++ xs)) ≡ (rest >>= λ xs. Ok ((out ++ x ∷ []) ++ xs))
    moved x (Ok xs) = ap Ok (sym (append_assoc out (x ∷ []) xs))
    moved x (Err e) = refl

    pub each_next : (y : Y) → i < length names → y ≡ get_or names i y → (x : Axis) (more : List Axis) (whole : Result (List Axis) Fault) → joined_or_own j filled (axes_named (f y) lists) ≡ Ok x → more ≡ out ++ x ∷ []
        → (joined_each j filled lists (map f (drop i names)) >>= λ xs. Ok (out ++ xs)) ≡ whole → (joined_each j filled lists (map f (drop (i + 1) names)) >>= λ xs. Ok (more ++ xs)) ≡ whole
    each_next y within is x more whole one grown so_far =
        ap (λ m. joined_each j filled lists (map f (drop (i + 1) names)) >>= λ xs. Ok (m ++ xs)) grown ∙ sym (moved x (joined_each j filled lists (map f (drop (i + 1) names)))) ∙ sym (ap (λ r. r >>= after) one) ∙ sym (each_told y within is) ∙ so_far

    pub each_end : (whole : Result (List Axis) Fault) → length names ≤ i → (joined_each j filled lists (map f (drop i names)) >>= λ xs. Ok (out ++ xs)) ≡ whole → whole ≡ Ok out
    unfolding joined_each
    each_end whole past so_far = sym so_far ∙ ap (λ ys. joined_each j filled lists (map f ys) >>= λ xs. Ok (out ++ xs)) (drop_all i names past) ∙ ap Ok (append-nil out)

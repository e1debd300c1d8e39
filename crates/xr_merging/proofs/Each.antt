-- What each of a list gives, one behind the other.
use Rattle.std.proofs.Common.{◌≡◌, ◌∙◌, ◌<◌, ◌≤◌, ◌-◌, ◌+◌, ℕ, List, [], ◌∷◌, ◌++◌, length, get_or, take, drop, Result, Ok, Err, arith, refl, sym, ap, subst, append_assoc}
use Rattle.std.proofs.lemmas.List.{append-nil, drop_all, take_all}
use Rattle.xr_types.specs.Results.{◌>>=◌, Answers}
use Rattle.xr_types.specs.declared.fault.CallFault.{CallFault}
use Rattle.xr_types.specs.declared.fault.CallFault.TheVariants.{Refused, Declined, NoMemory}
use Rattle.xr_types.specs.declared.fault.Fault.{Fault}
use Rattle.xr_combination.specs.Pieces.{each_of}
use Rattle.xr_values.proofs.Places.{from_place}
use Rattle.xr_merging.specs.Each.{behind}

pub behind_none : {A B : Type 0} (f : A → Result B Fault) (old : List B) → behind old (each_of f []) ≡ Ok old
unfolding each_of
behind_none f old = ap Ok (append-nil old)

pub behind_more : {A B : Type 0} (f : A → Result B Fault) (old : List B) (x : A) (xs : List A) (y : B) → f x ≡ Ok y → behind old (each_of f (x ∷ xs)) ≡ behind (old ++ y ∷ []) (each_of f xs)
unfolding each_of
behind_more {A} {B} f old x xs y is = ap (λ r. behind old (r >>= λ z. each_of f xs >>= λ zs. Ok (z ∷ zs))) is ∙ by (each_of f xs)
  where
    by : (r : Result (List B) Fault) → behind old (r >>= λ zs. Ok (y ∷ zs)) ≡ behind (old ++ y ∷ []) r
    by (Ok ys) = ap Ok (sym (append_assoc old (y ∷ []) ys))
    by (Err e) = refl

pub behind_fault : {A B : Type 0} (f : A → Result B Fault) (old : List B) (x : A) (xs : List A) (e : Fault) → f x ≡ Err e → behind old (each_of f (x ∷ xs)) ≡ Err e
unfolding each_of
behind_fault f old x xs e is = ap (λ r. behind old (r >>= λ z. each_of f xs >>= λ zs. Ok (z ∷ zs))) is

pub from_none : {B : Type 0} (r : Result (List B) Fault) → behind [] r ≡ r
from_none (Ok ys) = refl
from_none (Err e) = refl

-- ---- the same by a place in a list

module _ {A B : Type 0} (f : A → Result B Fault) (old : List B) (whole : Result (List B) Fault) (xs : List A) (i : ℕ) (x : A) (inside : i < length xs) (is : x ≡ get_or xs i x) (so_far : behind old (each_of f (drop i xs)) ≡ whole) where
  pub behind_here : (next : List B) (y : B) → f x ≡ Ok y → next ≡ old ++ y ∷ [] → behind next (each_of f (drop (i + 1) xs)) ≡ whole
  behind_here next y gives pushed =
      ap (λ os. behind os (each_of f (drop (i + 1) xs))) pushed ∙ sym (behind_more f old x (drop (i + 1) xs) y gives) ∙ ap (λ ys. behind old (each_of f ys)) (sym (from_place xs i x inside is)) ∙ so_far

  fault_told : {C U : Type 0} (view : C → B) (all : U → List B) (fault : CallFault) → Answers view (Err fault) (f x) → Answers all (Err fault) whole
  fault_told view all (Refused e) told = sym so_far ∙ ap (λ ys. behind old (each_of f ys)) (from_place xs i x inside is) ∙ behind_fault f old x (drop (i + 1) xs) e told
  fault_told view all (Declined n) told = absurd told
  fault_told view all NoMemory told = tt

  pub fault_here : {C U : Type 0} (all : U → List B) (view : C → B) (r : Result U CallFault) (fault : CallFault) → r ≡ Err fault → Answers view (Err fault) (f x) → Answers all r whole
  fault_here all view r fault failed told = subst (λ s. Answers all s whole) (sym failed) (fault_told view all fault told)

pub behind_all : {A B : Type 0} (f : A → Result B Fault) (old : List B) (whole : Result (List B) Fault) (xs : List A) (i : ℕ) → length xs ≤ i → behind old (each_of f (drop i xs)) ≡ whole → whole ≡ Ok old
behind_all f old whole xs i past so_far = sym so_far ∙ ap (λ ys. behind old (each_of f ys)) (drop_all i xs past) ∙ behind_none f old

-- ---- the same by the first of a list

whole : {X : Type 0} (xs : List X) (x : X) → 1 ≤ length xs → x ≡ get_or xs 0 x → xs ≡ x ∷ take (length xs - 1) (drop 1 xs)
whole [] x some is = absurd (omega arith)
whole (y ∷ ys) x some is =
    let n : length (y ∷ ys) - 1 ≡ length ys = omega arith in
    let rest : take (length (y ∷ ys) - 1) (drop 1 (y ∷ ys)) ≡ ys = ap (λ k. take k (drop 1 (y ∷ ys))) n ∙ take_all (length ys) ys (omega arith) in
    (λ i. sym is i ∷ sym rest i)

pub behind_empty : {A B : Type 0} (f : A → Result B Fault) (old : List B) (xs : List A) → length xs < 1 → behind old (each_of f xs) ≡ Ok old
behind_empty f old [] none = behind_none f old
behind_empty f old (x ∷ xs) none = absurd (omega arith)

pub behind_first : {A B : Type 0} (f : A → Result B Fault) (old next : List B) (xs : List A) (x : A) (y : B) → 1 ≤ length xs → x ≡ get_or xs 0 x → f x ≡ Ok y → next ≡ old ++ y ∷ []
    → behind old (each_of f xs) ≡ behind next (each_of f (take (length xs - 1) (drop 1 xs)))
behind_first f old next xs x y some is gives pushed =
    ap (λ ys. behind old (each_of f ys)) (whole xs x some is) ∙ behind_more f old x (take (length xs - 1) (drop 1 xs)) y gives
    ∙ ap (λ os. behind os (each_of f (take (length xs - 1) (drop 1 xs)))) (sym pushed)

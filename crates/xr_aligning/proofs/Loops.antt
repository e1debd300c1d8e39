-- A list at one of its places, as a loop over a slice takes it.
use Rattle.xr_aligning.proofs.Common.{AllByRecursion, Answers, CallFault, Declined, Err, Fault, List, NoMemory, Ok, Refused, Result, [], ap, append_assoc, arith, drop, from_place, get_or, length, map, map-append, subst, suc, sym, zero, ℕ, ◌++◌, ◌+◌, ◌<◌, ◌>>=◌, ◌∙◌, ◌∷◌, ◌≡◌}

each_at : {X : Type 0} (P : X → Type 0) (xs : List X) (i : ℕ) (d : X) → i < length xs → AllByRecursion P xs → P (get_or xs i d)
each_at P [] i d inside all = absurd (omega arith)
each_at P (x ∷ xs) zero d inside all = all.0
each_at P (x ∷ xs) (suc i) d inside all = each_at P xs i d (omega arith) all.1

each_last : {X : Type 0} (P : X → Type 0) (xs : List X) (x : X) → AllByRecursion P xs → P x → AllByRecursion P (xs ++ x ∷ [])
each_last P [] x all one = (one, tt)
each_last P (y ∷ ys) x all one = (all.0, each_last P ys x all.1 one)

module _ {X : Type 0} (old new : List X) (x : X) (pushed : new ≡ old ++ x ∷ []) where
  pub one_mapped : {Z : Type 0} (f : X → Z) → map f new ≡ map f old ++ f x ∷ []
  one_mapped f = ap (map f) pushed ∙ map-append f old (x ∷ [])

  pub all_hold : (P : X → Type 0) → AllByRecursion P old → P x → AllByRecursion P new
  all_hold P all one = subst (AllByRecursion P) (sym pushed) (each_last P old x all one)

module _ {Y : Type 0} (ys : List Y) (i : ℕ) (y : Y) (inside : i < length ys) (is : y ≡ get_or ys i y) where
  pub holds_here : (Q : Y → Type 0) → AllByRecursion Q ys → Q y
  holds_here Q all = subst Q (sym is) (each_at Q ys i y inside all)

  -- the check of the item here passes
  pub passed : {E : Type 0} (F : List Y → Result (Unit {0}) E) (check : Y → Result (Unit {0}) E) → ((x : Y) (xs : List Y) → F (x ∷ xs) ≡ (check x >>= λ u. F xs)) → (whole : Result (Unit {0}) E)
      → check y ≡ Ok tt → F (drop i ys) ≡ whole → F (drop (i + 1) ys) ≡ whole
  passed F check law whole passes so_far = sym (ap F (from_place ys i y inside is) ∙ law y (drop (i + 1) ys) ∙ ap (λ r. r >>= λ u. F (drop (i + 1) ys)) passes) ∙ so_far

  -- the check of the item here fails
  pub failed : (F : List Y → Result (Unit {0}) Fault) (check : Y → Result (Unit {0}) Fault) → ((x : Y) (xs : List Y) → F (x ∷ xs) ≡ (check x >>= λ u. F xs)) → (whole : Result (Unit {0}) Fault) (r : Result (Unit {0}) CallFault) (fault : CallFault)
      → r ≡ Err fault → Answers (λ (u : Unit {0}). u) (Err fault) (check y) → F (drop i ys) ≡ whole → Answers (λ (u : Unit {0}). u) r whole
  failed F check law whole r fault fails told so_far = subst (λ s. Answers (λ (u : Unit {0}). u) s whole) (sym fails) (by fault told)
    where
      by : (f : CallFault) → Answers (λ (u : Unit {0}). u) (Err f) (check y) → Answers (λ (u : Unit {0}). u) (Err f) whole
      by (Refused e) is_fault = sym so_far ∙ ap F (from_place ys i y inside is) ∙ law y (drop (i + 1) ys) ∙ ap (λ s. s >>= λ u. F (drop (i + 1) ys)) is_fault
      by (Declined n) none = absurd none
      by NoMemory want = tt

  -- what the item here gives is put behind others
  pub more : {Z : Type 0} (F : List Y → List Z) (G : Y → List Z) → ((x : Y) (xs : List Y) → F (x ∷ xs) ≡ G x ++ F xs) → (whole old new : List Z) → new ≡ old ++ G y → old ++ F (drop i ys) ≡ whole → new ++ F (drop (i + 1) ys) ≡ whole
  more F G law whole old new one so_far =
      ap (λ zs. zs ++ F (drop (i + 1) ys)) one ∙ append_assoc old (G y) (F (drop (i + 1) ys)) ∙ ap (λ zs. old ++ zs) (sym (law y (drop (i + 1) ys)) ∙ ap F (sym (from_place ys i y inside is))) ∙ so_far

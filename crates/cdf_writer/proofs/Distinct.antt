-- Names that are distinct are each new where they stand.
use Rattle.std.proofs.Common.{◌≡◌, ℕ, Bool, true, false, not, ◌||◌, List, [], ◌∷◌, ◌++◌, length, refl, sym, ap, ◌∙◌, inl, inr, arith}
use Rattle.std.proofs.lemmas.Bool.{cases_Bool}
use Rattle.std.specs.List.{AllByRecursion, filter, list_any}
use Rattle.std.specs.Str.{bytes_eq}
use Rattle.std.proofs.lemmas.Slice.Eq.{bytes_eq-Decides}
use Rattle.std.proofs.lemmas.Bool.Decides.{same_from_decides}
use Rattle.xr_types.specs.Names.{among}

bytes_eq_swap : (a b : List ℕ) → bytes_eq a b ≡ bytes_eq b a
bytes_eq_swap a b = same_from_decides (bytes_eq a b) (bytes_eq b a) (bytes_eq-Decides a b) ((λ e. sym ((bytes_eq-Decides b a).0 e)), (λ e. (bytes_eq-Decides b a).1 (sym e)))

-- none of the names stands among those before
abbrev pub AreNew : List (List ℕ) → List (List ℕ) → Type 0
AreNew seen names = AllByRecursion (λ n. not (among seen n) ≡ true) names

pub nothing_seen : (names : List (List ℕ)) → AreNew [] names
nothing_seen [] = tt
nothing_seen (n ∷ ns) = (refl, nothing_seen ns)

among_push : (seen : List (List ℕ)) (n m : List ℕ) → not (among seen m) ≡ true → bytes_eq m n ≡ false → not (among (seen ++ n ∷ []) m) ≡ true
among_push [] n m new other = ap (λ b. not (b || false)) other
among_push (s ∷ seen) n m new other =
    elim (cases_Bool (bytes_eq m s)) [
      | inl e ↦ let h : not (true || among seen m) ≡ true = rw e at new in absurd cc
      | inr e ↦ let h : not (false || among seen m) ≡ true = rw e at new in rw e (among_push seen n m h other)
    ]

pub seen_more : (seen : List (List ℕ)) (n : List ℕ) (names : List (List ℕ)) → AreNew seen names → not (among names n) ≡ true → AreNew (seen ++ n ∷ []) names
seen_more seen n [] new other = tt
seen_more seen n (m ∷ ms) new other =
    elim (cases_Bool (bytes_eq n m)) [
      | inl e ↦ let h : not (true || among ms n) ≡ true = rw e at other in absurd cc
      | inr e ↦
          let h : not (false || among ms n) ≡ true = rw e at other in
          (among_push seen n m new.0 (bytes_eq_swap m n ∙ e), seen_more seen n ms new.1 h)
    ]

pub none_of_none : {X : Type 0} (p : X → Bool) (xs : List X) → length (filter p xs) ≡ 0 → list_any p xs ≡ false
none_of_none p [] e = refl
none_of_none p (x ∷ xs) e =
    elim (cases_Bool (p x)) [
      | inl y ↦ let h : length (x ∷ filter p xs) ≡ 0 = rw y at e in absurd (omega arith)
      | inr n ↦ let h : length (filter p xs) ≡ 0 = rw n at e in rw n (none_of_none p xs h)
    ]

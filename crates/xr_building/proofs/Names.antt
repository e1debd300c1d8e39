-- Lists of names that differ.
use Rattle.xr_building.proofs.Common.{AreAbsent, IsUtf8, List, [], among, and-true, ap, are_distinct, bytes_eq, bytes_eq_swap, false, is_name, length, neither, not, other_name, refl, split, sym, true, ℕ, ◌&&◌, ◌++◌, ◌==◌, ◌∙◌, ◌∷◌, ◌≡◌}
use Rattle.std.proofs.lemmas.Str.{is_utf8-from_IsUtf8}

-- what stands before is not behind
pub absent_behind : (xs ys : List (List ℕ)) (n : List ℕ) → are_distinct (xs ++ ys) ≡ true → among xs n ≡ true → among ys n ≡ false
absent_behind xs ys n all there = by ys (split xs ys all).apart
  where
    by : (ys : List (List ℕ)) → AreAbsent xs ys → among ys n ≡ false
    by [] absent = refl
    by (y ∷ ys) absent = neither (bytes_eq n y) (among ys n) (bytes_eq_swap n y ∙ other_name xs n y there absent.0) (by ys absent.1)

-- a text that isn't empty is a name
pub named : (t : List ℕ) → IsUtf8 t → not (length t == 0) ≡ is_name t
named t whole = sym (ap (λ b. not (length t == 0) && b) (is_utf8-from_IsUtf8 t whole) ∙ and-true (not (length t == 0)))

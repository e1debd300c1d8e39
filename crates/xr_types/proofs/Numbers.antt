-- Numbers without a sign, seen as numbers.
use Rattle.std.proofs.Common.{◌≡◌, ℕ, zero, suc, ℤ, pos, List, [], ◌∷◌, map, get_or, refl}

pub unsigned_at : (xs : List ℕ) (i : ℕ) → get_or (map pos xs) i (pos 0) ≡ pos (get_or xs i 0)
unsigned_at [] i = refl
unsigned_at (x ∷ xs) zero = refl
unsigned_at (x ∷ xs) (suc i) = unsigned_at xs i

-- What holds of each item holds of the item at a place, and a map keeps the count.
use Rattle.std.proofs.Common.{◌≡◌, ℕ, zero, suc, ◌<◌, List, [], ◌∷◌, length, get_or, map, refl, ap, arith}
use Rattle.std.specs.List.{AllByRecursion}

pub each_at : {X : Type 0} (P : X → Type 0) (xs : List X) (i : ℕ) (d : X) → AllByRecursion P xs → i < length xs → P (get_or xs i d)
each_at P [] i d all lt = absurd (omega arith)
each_at P (x ∷ xs) zero d all lt = all.0
each_at P (x ∷ xs) (suc i) d all lt = each_at P xs i d all.1 (omega arith)

pub map_count : {X Y : Type 0} (g : X → Y) (xs : List X) → length (map g xs) ≡ length xs
map_count g [] = refl
map_count g (x ∷ xs) = ap suc (map_count g xs)

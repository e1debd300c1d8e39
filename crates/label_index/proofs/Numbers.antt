-- Numbers as a form shows them.
use Rattle.std.proofs.Common.{◌≡◌, ℕ, zero, suc, ℤ, pos, List, [], ◌∷◌, map, length, get_or, refl}
use Rattle.std.proofs.lemmas.List.{length-map}
use Rattle.xr_types.specs.declared.integers.IntegersForm.{IntegersForm}
use Rattle.xr_types.specs.declared.integers.IntegersForm.TheVariants.{Signed, Unsigned}
use Rattle.xr_types.specs.Integers.{Shows}
use Rattle.label_index.specs.Slots.{shown}

pub shows_is : (form : IntegersForm) (all : List ℤ) → Shows form all → shown form ≡ all
shows_is (Signed xs) all h = h
shows_is (Unsigned xs) all h = h

pub natural_at : (xs : List ℕ) (i : ℕ) → get_or (map pos xs) i (pos 0) ≡ pos (get_or xs i 0)
natural_at [] i = refl
natural_at (x ∷ xs) zero = refl
natural_at (x ∷ xs) (suc i) = natural_at xs i

pub natural_count : (xs : List ℕ) → length (map pos xs) ≡ length xs
natural_count xs = length-map xs pos

-- The cells of a file that are there.
use Rattle.std.proofs.Common.{◌≡◌, ℤ, Bool, true, false, not, cond, List, [], ◌∷◌, map, Option, Some, None, refl, ap}
use Rattle.xr_arrays.specs.Stored.{is_fill, unless_fill}
use Rattle.stored_cells.specs.Counted.{present as shown}
use Rattle.plan_core.specs.Rows.{those}

-- the numbers that no fill number hides
pub those_present : (fills ns : List ℤ) → those (map (unless_fill fills) ns) ≡ shown fills ns
those_present fills [] = refl
those_present fills (n ∷ ns) = one (is_fill fills n) n (map (unless_fill fills) ns) (shown fills ns) (those_present fills ns)
  where
    one : (hidden : Bool) (n : ℤ) (cells : List (Option ℤ)) (rest : List ℤ) → those cells ≡ rest → those (cond hidden None (Some n) ∷ cells) ≡ cond (not hidden) (n ∷ rest) rest
    one true n cells rest e = e
    one false n cells rest e = ap (λ t. n ∷ t) e

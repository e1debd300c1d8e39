-- Folds over lists one behind the other.
use Rattle.std.proofs.Common.{◌≡◌, List, ◌++◌, fold, [], ◌∷◌, refl}

pub folds_on : {A X : Type 0} (f : A → X → A) (z : A) (xs ys : List X) → fold f z (xs ++ ys) ≡ fold f (fold f z xs) ys
folds_on f z [] ys = refl
folds_on f z (x ∷ xs) ys = folds_on f (f z x) xs ys

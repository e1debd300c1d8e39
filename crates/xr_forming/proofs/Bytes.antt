-- Texts and numbers that are the same one by one.
use Rattle.std.proofs.Common.{◌≡◌, ℕ, ℤ, Bool, true, List, arith}
use Rattle.std.specs.Str.{bytes_eq}
use Rattle.std.specs.Cmp.{signed_Decides}
use Rattle.std.specs.Cmp.Lexicographic.{pointwise}
use Rattle.std.specs.Ordering.{int_eq}
use Rattle.std.proofs.lemmas.Slice.Eq.{bytes_eq-Decides, slice_eq-Decides}

pub same_bytes : (xs ys : List ℕ) → bytes_eq xs ys ≡ true → xs ≡ ys
same_bytes xs ys e = search (arith, bytes_eq-Decides xs ys)

pub same_signed : (xs ys : List ℤ) (r : Bool) → r ≡ pointwise int_eq xs ys → r ≡ true → xs ≡ ys
same_signed xs ys r is e = search (arith, slice_eq-Decides signed_Decides xs ys r is)

-- Lists of cells by their places.
use Rattle.std.proofs.Common.{◌≡◌, ◌<◌, ℕ, zero, suc, pos, List, [], ◌∷◌, length, map, zip, get_or, refl, sym, ap, ◌∙◌, arith}
use Rattle.std.specs.Prelude.{Option, Some, None}
use Rattle.std.proofs.lemmas.Int.{ints}
use Rattle.std.proofs.lemmas.List.{get_or-map, length-map}
use Rattle.std.proofs.lemmas.List.Elements.{All-from_get_or, All-get_or}
use Rattle.xr_types.specs.Kinds.{InRange}
use Rattle.xr_types.specs.declared.kind.DType.TheVariants as kinds
use Rattle.xr_arrays.specs.Arrays.{cell, hidden, kind_of, wide, InKind, IsCell}
use Rattle.xr_arrays.specs.declared.typed.Cells.{Cells}
use Rattle.xr_arrays.specs.declared.typed.Cells.TheVariants.{Bool, Char, Int8, Int16, Int32, Int64, UInt8, UInt16, UInt32, UInt64}
use Rattle.cell_strips.specs.Rows.{count, number_at, byte_at, Covers}

-- ---- two lists side by side

pub zip_at : {X Y Z : Type 0} (g : X × Y → Z) (xs : List X) (ys : List Y) (i : ℕ) (c : X) (d : Y) (e : Z) → i < length xs → i < length ys → get_or (map g (zip xs ys)) i e ≡ g (get_or xs i c, get_or ys i d)
zip_at g [] ys i c d e a b = absurd (omega arith)
zip_at g (x ∷ xs) [] i c d e a b = absurd (omega arith)
zip_at g (x ∷ xs) (y ∷ ys) zero c d e a b = refl
zip_at g (x ∷ xs) (y ∷ ys) (suc i) c d e a b = zip_at g xs ys i c d e (omega arith) (omega arith)

pub zip_long : {X Y Z : Type 0} (g : X × Y → Z) (xs : List X) (ys : List Y) → length ys ≡ length xs → length (map g (zip xs ys)) ≡ length xs
zip_long g [] ys long = refl
zip_long g (x ∷ xs) [] long = absurd (omega arith)
zip_long g (x ∷ xs) (y ∷ ys) long = let rest : length ys ≡ length xs = omega arith in ap suc (zip_long g xs ys rest)

module _ {X Y Z V : Type 0} (g : X × (Y × Z) → V) where
  pub zip_three_at : (xs : List X) (ys : List Y) (zs : List Z) (i : ℕ) (c : X) (d : Y) (e : Z) (v : V) → i < length xs → i < length ys → i < length zs → get_or (map g (zip xs (zip ys zs))) i v ≡ g (get_or xs i c, (get_or ys i d, get_or zs i e))
  zip_three_at [] ys zs i c d e v a b f = absurd (omega arith)
  zip_three_at (x ∷ xs) [] zs i c d e v a b f = absurd (omega arith)
  zip_three_at (x ∷ xs) (y ∷ ys) [] i c d e v a b f = absurd (omega arith)
  zip_three_at (x ∷ xs) (y ∷ ys) (z ∷ zs) zero c d e v a b f = refl
  zip_three_at (x ∷ xs) (y ∷ ys) (z ∷ zs) (suc i) c d e v a b f = zip_three_at xs ys zs i c d e v (omega arith) (omega arith) (omega arith)

  pub zip_three_long : (xs : List X) (ys : List Y) (zs : List Z) → length ys ≡ length xs → length zs ≡ length xs → length (map g (zip xs (zip ys zs))) ≡ length xs
  zip_three_long [] ys zs b f = refl
  zip_three_long (x ∷ xs) [] zs b f = absurd (omega arith)
  zip_three_long (x ∷ xs) (y ∷ ys) [] b f = absurd (omega arith)
  zip_three_long (x ∷ xs) (y ∷ ys) (z ∷ zs) b f =
      let rest : length ys ≡ length xs = omega arith in let last : length zs ≡ length xs = omega arith in ap suc (zip_three_long xs ys zs rest last)

-- ---- the numbers of cells

natural_at : (v : List ℕ) (i : ℕ) → get_or (map pos v) i (pos 0) ≡ pos (get_or v i 0)
natural_at [] i = refl
natural_at (x ∷ v) zero = refl
natural_at (x ∷ v) (suc i) = natural_at v i

pub number_is : (c : Cells) (i : ℕ) → get_or (wide c) i (pos 0) ≡ number_at c i
number_is (Bool v) i = natural_at v i
number_is (Char v) i = natural_at v i
number_is (Int8 v) i = refl
number_is (Int16 v) i = refl
number_is (Int32 v) i = refl
number_is (Int64 v) i = refl
number_is (UInt8 v) i = natural_at v i
number_is (UInt16 v) i = natural_at v i
number_is (UInt32 v) i = natural_at v i
number_is (UInt64 v) i = natural_at v i

pub count_is : (c : Cells) → length (wide c) ≡ count c
count_is (Bool v) = length-map v pos
count_is (Char v) = length-map v pos
count_is (Int8 v) = refl
count_is (Int16 v) = refl
count_is (Int32 v) = refl
count_is (Int64 v) = refl
count_is (UInt8 v) = length-map v pos
count_is (UInt16 v) = length-map v pos
count_is (UInt32 v) = length-map v pos
count_is (UInt64 v) = length-map v pos

-- ---- the cells under a mask

pub seen_long : (c : Cells) (m : Option (List ℕ)) → Covers (count c) m → length (hidden (wide c) m) ≡ count c
seen_long c None long = length-map (wide c) Some ∙ count_is c
seen_long c (Some m) long = zip_long cell (wide c) m (long ∙ sym (count_is c)) ∙ count_is c

pub seen_at : (c : Cells) (m : Option (List ℕ)) (i : ℕ) → Covers (count c) m → i < count c → get_or (hidden (wide c) m) i None ≡ cell (number_at c i, byte_at m i)
seen_at c None i long lt = let n = count_is c in get_or-map Some (wide c) i (pos 0) None (omega (arith, n, lt)) ∙ ap Some (number_is c i)
seen_at c (Some m) i long lt = let n = count_is c in zip_at cell (wide c) m i (pos 0) 0 None (omega (arith, n, lt)) (omega (arith, long, lt)) ∙ ap (λ x. cell (x, get_or m i 0)) (number_is c i)

-- ---- truth values

pub truth_at : (c : Cells) (i : ℕ) → kind_of c ≡ kinds.Bool → InKind c → i < count c → InRange kinds.Bool (number_at c i)
truth_at (Bool v) i is small lt = let s = All-get_or (λ x. x < 2) v i 0 lt small in (omega (arith, ints), omega (arith, ints, s))
truth_at (Char v) i is small lt = absurd cc
truth_at (Int8 v) i is small lt = absurd cc
truth_at (Int16 v) i is small lt = absurd cc
truth_at (Int32 v) i is small lt = absurd cc
truth_at (Int64 v) i is small lt = absurd cc
truth_at (UInt8 v) i is small lt = absurd cc
truth_at (UInt16 v) i is small lt = absurd cc
truth_at (UInt32 v) i is small lt = absurd cc
truth_at (UInt64 v) i is small lt = absurd cc

natural_small : (n : ℕ) → InRange kinds.Bool (pos n) → n < 2
natural_small n range = let up = range.1 in omega (arith, ints, up)

pub in_kind : (c : Cells) → (kind_of c ≡ kinds.Bool → (i : ℕ) → i < count c → IsCell kinds.Bool (Some (number_at c i))) → InKind c
in_kind (Bool v) h = All-from_get_or (λ x. x < 2) v 0 (λ i lt. natural_small (get_or v i 0) (h refl i lt))
in_kind (Char v) h = tt
in_kind (Int8 v) h = tt
in_kind (Int16 v) h = tt
in_kind (Int32 v) h = tt
in_kind (Int64 v) h = tt
in_kind (UInt8 v) h = tt
in_kind (UInt16 v) h = tt
in_kind (UInt32 v) h = tt
in_kind (UInt64 v) h = tt

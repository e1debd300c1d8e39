-- What variables take, summed up in 64 bits.
use Rattle.std.proofs.Common.{◌≡◌, ℕ, zero, suc, ◌+◌, ◌*◌, ◌-◌, ◌^◌, ◌<◌, ◌≤◌, Bool, true, false, cond, List, [], ◌∷◌, length, take, drop, get_or, map, sum, refl, sym, ap, ◌∙◌, inl, inr, arith}
use Rattle.std.proofs.lemmas.Bool.{cases_lt}
use Rattle.std.proofs.lemmas.List.{at_drop_more, get_or_read, map-append}
use Rattle.std.proofs.lemmas.List.Elements.{filter_more}
use Rattle.std.proofs.lemmas.List.Sums.{sum_by-append, sum_by-cons}
use Rattle.std.proofs.lemmas.Nat.{mul-le}
use Rattle.std.proofs.Math.Nat.{mul_assoc}
use Rattle.std.specs.List.{filter}
use Rattle.xr_files.specs.declared.file.CdfDim.{CdfDim}
use Rattle.xr_types.specs.Points.{size}
use Rattle.xr_files.specs.Classic.{dim_at, no_dim}
use Rattle.xr_files.specs.Files.{positions, shape_of}
use Rattle.cdf_writer.specs.Sizes.{capped}

large : (a b : ℕ) → 2 ^ 64 - 1 ≤ a → capped ((2 ^ 64 - 1) * suc b) ≡ capped (a * suc b)
large a b le =
    let one : 2 ^ 64 - 1 ≤ (2 ^ 64 - 1) * suc b = omega arith in
    let two : (2 ^ 64 - 1) * suc b ≤ a * suc b = mul-le (2 ^ 64 - 1) (suc b) a (suc b) le (omega arith) in
    omega (arith, one, two)

pub capped_product : (a b : ℕ) → capped (capped a * b) ≡ capped (a * b)
capped_product a zero = omega arith
capped_product a (suc b) = elim (cases_lt a (2 ^ 64 - 1)) [
  | inl lt ↦ let e : capped a ≡ a = omega arith in ap (λ n. capped (n * suc b)) e
  | inr le ↦ let e : capped a ≡ 2 ^ 64 - 1 = omega arith in ap (λ n. capped (n * suc b)) e ∙ large a b le
]

pub slab_more : (dims : List CdfDim) (ids : List ℕ) (i s : ℕ) (d : CdfDim) → i < length ids → get_or ids i 0 < length dims → d ≡ get_or dims (get_or ids i 0) d
    → capped (capped (s * positions 1 d) * size (shape_of dims 1 (drop (i + 1) ids))) ≡ capped (s * size (shape_of dims 1 (drop i ids)))
slab_more dims ids i s d lt within is =
    let rest : ℕ = size (shape_of dims 1 (drop (i + 1) ids)) in
    let here : d ≡ dim_at dims (get_or ids i 0) = get_or_read dims (get_or ids i 0) d within is no_dim in
    let now : capped (s * size (shape_of dims 1 (drop i ids))) ≡ capped (s * (positions 1 (dim_at dims (get_or ids i 0)) * rest)) = at_drop_more (λ ns. capped (s * size (shape_of dims 1 ns))) ids i 0 lt in
    capped_product (s * positions 1 d) rest ∙ ap capped (mul_assoc s (positions 1 d) rest) ∙ ap (λ e. capped (s * (positions 1 e * rest))) here ∙ sym now

one_room : {X : Type 0} (f : X → ℕ) (b : Bool) (x : X) → sum (map f (cond b (x ∷ []) [])) ≡ cond b (f x) 0
one_room f true x = omega arith
one_room f false x = refl

cons_room : {X : Type 0} (f : X → ℕ) (b : Bool) (x : X) (rest : List X) → sum (map f (cond b (x ∷ rest) rest)) ≡ cond b (f x) 0 + sum (map f rest)
cons_room f true x rest = sum_by-cons (λ n. n) (f x) (map f rest)
cons_room f false x rest = omega arith

-- the next of the variables that pass a test adds its room
pub rooms_more : {X : Type 0} (f : X → ℕ) (p : X → Bool) (xs : List X) (i : ℕ) (x : X) → i < length xs → x ≡ get_or xs i x
    → sum (map f (filter p (take (i + 1) xs))) ≡ sum (map f (filter p (take i xs))) + cond (p x) (f x) 0
rooms_more f p xs i x lt is =
    let front = filter p (take i xs) in
    let y = get_or xs i x in
    let last = cond (p y) (y ∷ []) [] in
    ap (λ l. sum (map f l)) (filter_more p xs i x lt) ∙ ap sum (map-append f front last) ∙ sum_by-append (λ n. n) (map f front) (map f last)
    ∙ ap (λ n. sum (map f front) + n) (one_room f (p y) y ∙ ap (λ z. cond (p z) (f z) 0) (sym is))

-- what is left of the variables that pass a test, one variable on
pub rooms_left : {X : Type 0} (f : X → ℕ) (p : X → Bool) (xs : List X) (i : ℕ) (x : X) → i < length xs → x ≡ get_or xs i x
    → sum (map f (filter p (drop i xs))) ≡ cond (p x) (f x) 0 + sum (map f (filter p (drop (i + 1) xs)))
rooms_left f p xs i x lt is =
    let rest = filter p (drop (i + 1) xs) in
    at_drop_more (λ l. sum (map f (filter p l))) xs i x lt ∙ ap (λ y. sum (map f (cond (p y) (y ∷ rest) rest))) (sym is) ∙ cons_room f (p x) x rest

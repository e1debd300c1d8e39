-- The values of a variable that ends within the bytes of its file are as many bytes as its shape and its type say.
use Rattle.std.proofs.Common.{◌≡◌, ◌+◌, ◌-◌, ◌*◌, ◌<◌, ◌≤◌, ℕ, zero, suc, Bool, true, false, cond, List, [], ◌∷◌, length, take, drop, refl, sym, ap, subst, ◌∙◌, arith, length-append, length-drop}
use Rattle.std.specs.Prelude.{◌||◌, ◌==◌, nat_le, All}
use Rattle.std.specs.List.{flat_map, range_with_len}
use Rattle.std.proofs.lemmas.Bool.{eqb-true, leb-true}
use Rattle.std.proofs.lemmas.List.{length-take-le}
use Rattle.std.proofs.lemmas.List.Elements.{All-head, All-tail}
use Rattle.xr_files.specs.declared.file.CdfDim.{CdfDim}
use Rattle.xr_files.specs.declared.file.VarHead.{VarHead}
use Rattle.xr_types.specs.Points.{size}
use Rattle.xr_types.specs.Widths.{width}
use Rattle.xr_files.specs.Classic.{Header, dim_at, is_record_dim}
use Rattle.xr_files.specs.Files.{positions, shape_of, is_record_var, head_size, recsize, raw_of, end_of, is_inside}

-- each number is that of a dimension, and the record dimension stands first only
pub record AreIds (dims : List CdfDim) (ids : List ℕ) : Type 0 where
  pub below : All (λ i. i < length dims) ids
  pub fixed : All (λ i. is_record_dim (dim_at dims i) ≡ false) (drop 1 ids)

-- ---- shapes with and without records

tail_shape : (dims : List CdfDim) (r s : ℕ) (ids : List ℕ) → All (λ i. is_record_dim (dim_at dims i) ≡ false) ids → shape_of dims r ids ≡ shape_of dims s ids
tail_shape dims r s [] all = refl
tail_shape dims r s (i ∷ ids) all =
    let one : (t : ℕ) → positions t (dim_at dims i) ≡ (dim_at dims i).len = λ t. ap (λ b. cond b t (dim_at dims i).len) (All-head (λ i. is_record_dim (dim_at dims i) ≡ false) i ids all) in
    ap (λ n. n ∷ shape_of dims r ids) (one r ∙ sym (one s)) ∙ ap (λ t. positions s (dim_at dims i) ∷ t) (tail_shape dims r s ids (All-tail (λ i. is_record_dim (dim_at dims i) ≡ false) i ids all))

fixed_shape : (dims : List CdfDim) (r s : ℕ) (ids : List ℕ) → is_record_var dims ids ≡ false → All (λ i. is_record_dim (dim_at dims i) ≡ false) (drop 1 ids) → shape_of dims r ids ≡ shape_of dims s ids
fixed_shape dims r s [] e all = refl
fixed_shape dims r s (i ∷ ids) e all =
    let one : (t : ℕ) → positions t (dim_at dims i) ≡ (dim_at dims i).len = λ t. ap (λ b. cond b t (dim_at dims i).len) e in
    ap (λ n. n ∷ shape_of dims r ids) (one r ∙ sym (one s)) ∙ ap (λ t. positions s (dim_at dims i) ∷ t) (tail_shape dims r s ids all)

record_shape : (dims : List CdfDim) (r : ℕ) (ids : List ℕ) → is_record_var dims ids ≡ true → All (λ i. is_record_dim (dim_at dims i) ≡ false) (drop 1 ids) → size (shape_of dims r ids) ≡ r * size (shape_of dims 1 (drop 1 ids))
record_shape dims r [] e all = absurd cc
record_shape dims r (i ∷ ids) e all = ap (λ b. cond b r (dim_at dims i).len * size (shape_of dims r ids)) e ∙ ap (λ t. r * size t) (tail_shape dims r 1 ids all)

-- ---- values that lie together

nothing_taken : (n : ℕ) (xs : List ℕ) → n ≡ 0 → length (take n xs) ≡ n
nothing_taken n xs z = ap (λ k. length (take k xs)) z ∙ sym z

zero_times : (k : ℕ) → 0 * k ≡ 0
zero_times k = grind arith

fixed_by : (b : Bool) (bytes : List ℕ) (begin n k w last : ℕ) → (k == 0) ≡ b → n ≡ k * w → last ≡ begin + n → (b || nat_le last (length bytes)) ≡ true → length (take n (drop begin bytes)) ≡ n
fixed_by true bytes begin n k w last z is_n is_last e = nothing_taken n (drop begin bytes) (is_n ∙ ap (λ x. x * w) (eqb-true k 0 z) ∙ zero_times w)
fixed_by false bytes begin n k w last z is_n is_last e = length-take-le n (drop begin bytes) (let fits : last ≤ length bytes = leb-true last (length bytes) e in omega (arith, length-drop begin bytes))

fixed_whole : (bytes : List ℕ) (h : Header) (r : ℕ) (v : VarHead) → is_record_var h.dims v.dims ≡ false → AreIds h.dims v.dims → is_inside h r (length bytes) v ≡ true → length (raw_of bytes h r v) ≡ size (shape_of h.dims r v.dims) * width v.kind
fixed_whole bytes h r v fixed ids inside =
    let n : ℕ = head_size h.dims v in
    let is_n : n ≡ size (shape_of h.dims r v.dims) * width v.kind = ap (λ s. size s * width v.kind) (fixed_shape h.dims 1 r v.dims fixed ids.fixed) in
    let last : end_of h r v ≡ v.begin + n = ap (λ b. (cond b (v.begin + (r - 1) * recsize h) v.begin) + n) fixed in
    ap (λ b. length (cond b (flat_map (λ q. take n (drop (v.begin + q * recsize h) bytes)) (range_with_len 0 r)) (take n (drop v.begin bytes)))) fixed
    ∙ fixed_by (size (shape_of h.dims r v.dims) == 0) bytes v.begin n (size (shape_of h.dims r v.dims)) (width v.kind) (end_of h r v) refl is_n last inside ∙ is_n

-- ---- values that lie in records

flat_long : (f : ℕ → List ℕ) (s a n : ℕ) → ((i : ℕ) → a ≤ i → i < a + n → length (f i) ≡ s) → length (flat_map f (range_with_len a n)) ≡ n * s
flat_long f s a zero h = let z : 0 * s ≡ 0 = grind arith in sym z
flat_long f s a (suc n) h =
    let z : suc n * s ≡ s + n * s = grind arith in
    length-append (f a) (flat_map f (range_with_len (a + 1) n)) ∙ ap (λ k. k + length (flat_map f (range_with_len (a + 1) n))) (h a (omega arith) (omega arith))
    ∙ ap (λ k. s + k) (flat_long f s (a + 1) n (λ i lo hi. h i (omega arith) (omega arith))) ∙ sym z

no_factor : (r s q : ℕ) → r * s ≡ 0 → q < r → s ≡ 0
no_factor r zero q e lt = refl
no_factor zero (suc s) q e lt = absurd (omega arith)
no_factor (suc r) (suc s) q e lt = let z : suc r * suc s ≡ suc s + r * suc s = grind arith in absurd (omega arith)

times_in_order : (q r s : ℕ) → q ≤ r → q * s ≤ r * s
times_in_order zero r s le = let z : 0 * s ≡ 0 = grind arith in omega arith
times_in_order (suc q) zero s le = absurd (omega arith)
times_in_order (suc q) (suc r) s le =
    let a : suc q * s ≡ s + q * s = grind arith in
    let b : suc r * s ≡ s + r * s = grind arith in
    let rest = times_in_order q r s (omega arith) in
    omega arith

rows_in_order : (q r rs : ℕ) → q < r → q * rs ≤ (r - 1) * rs
rows_in_order q zero rs lt = absurd (omega arith)
rows_in_order q (suc r) rs lt = let e : suc r - 1 ≡ r = omega arith in subst (λ k. q * rs ≤ k * rs) (sym e) (times_in_order q r rs (omega arith))

piece_by : (b : Bool) (bytes : List ℕ) (begin n r s w rs q : ℕ) → (r * s == 0) ≡ b → n ≡ (1 * s) * w → (b || nat_le (begin + (r - 1) * rs + n) (length bytes)) ≡ true → q < r → length (take n (drop (begin + q * rs) bytes)) ≡ n
piece_by true bytes begin n r s w rs q z is_n e lt =
    let none : s ≡ 0 = no_factor r s q (eqb-true (r * s) 0 z) lt in
    let a : (1 * 0) * w ≡ 0 = grind arith in
    nothing_taken n (drop (begin + q * rs) bytes) (is_n ∙ ap (λ k. (1 * k) * w) none ∙ a)
piece_by false bytes begin n r s w rs q z is_n e lt =
    let fits : begin + (r - 1) * rs + n ≤ length bytes = leb-true _ (length bytes) e in
    let near : q * rs ≤ (r - 1) * rs = rows_in_order q r rs lt in
    length-take-le n (drop (begin + q * rs) bytes) (omega (arith, length-drop (begin + q * rs) bytes))

all_pieces : (r s w : ℕ) → r * ((1 * s) * w) ≡ (r * s) * w
all_pieces r s w = grind arith

record_whole : (bytes : List ℕ) (h : Header) (r : ℕ) (v : VarHead) → is_record_var h.dims v.dims ≡ true → AreIds h.dims v.dims → is_inside h r (length bytes) v ≡ true → length (raw_of bytes h r v) ≡ size (shape_of h.dims r v.dims) * width v.kind
record_whole bytes h r v rec ids inside =
    let n : ℕ = head_size h.dims v in
    let w : ℕ = width v.kind in
    let s : ℕ = size (shape_of h.dims 1 (drop 1 v.dims)) in
    let k : size (shape_of h.dims r v.dims) ≡ r * s = record_shape h.dims r v.dims rec ids.fixed in
    let is_n : n ≡ (1 * s) * w = ap (λ t. t * w) (record_shape h.dims 1 v.dims rec ids.fixed) in
    let last : end_of h r v ≡ v.begin + (r - 1) * recsize h + n = ap (λ b. (cond b (v.begin + (r - 1) * recsize h) v.begin) + n) rec in
    let test : ((r * s == 0) || nat_le (v.begin + (r - 1) * recsize h + n) (length bytes)) ≡ true =
    ap (λ t. (t == 0) || nat_le (v.begin + (r - 1) * recsize h + n) (length bytes)) (sym k) ∙ ap (λ t. (size (shape_of h.dims r v.dims) == 0) || nat_le t (length bytes)) (sym last) ∙ inside in
    ap (λ b. length (cond b (flat_map (λ q. take n (drop (v.begin + q * recsize h) bytes)) (range_with_len 0 r)) (take n (drop v.begin bytes)))) rec
    ∙ flat_long (λ q. take n (drop (v.begin + q * recsize h) bytes)) n 0 r (λ q lo hi. piece_by (r * s == 0) bytes v.begin n r s w (recsize h) q refl is_n test (omega arith))
    ∙ ap (λ t. r * t) is_n ∙ all_pieces r s w ∙ ap (λ t. t * w) (sym k)

whole_by : (b : Bool) (bytes : List ℕ) (h : Header) (r : ℕ) (v : VarHead) → is_record_var h.dims v.dims ≡ b → AreIds h.dims v.dims → is_inside h r (length bytes) v ≡ true → length (raw_of bytes h r v) ≡ size (shape_of h.dims r v.dims) * width v.kind
whole_by true bytes h r v e ids inside = record_whole bytes h r v e ids inside
whole_by false bytes h r v e ids inside = fixed_whole bytes h r v e ids inside

pub values_whole : (bytes : List ℕ) (h : Header) (r : ℕ) (v : VarHead) → AreIds h.dims v.dims → is_inside h r (length bytes) v ≡ true → length (raw_of bytes h r v) ≡ size (shape_of h.dims r v.dims) * width v.kind
values_whole bytes h r v ids inside = whole_by (is_record_var h.dims v.dims) bytes h r v refl ids inside

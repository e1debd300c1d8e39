-- Pieces of bytes put together.
use Rattle.std.proofs.Common.{◌≡◌, ◌≤◌, ◌<◌, ◌+◌, ◌-◌, ◌*◌, ◌/◌, ◌%◌, ◌∙◌, div-lt_iff_lt-mul, mod-lt, div-add-mod', mul-le-mul_right, mul-le-mul_left, not-suc-le-zero, true, ◌^◌, sym, ap, ℕ, zero, suc, List, [], ◌∷◌, ◌++◌, length, take, drop, refl, arith, append-nil, length-drop, length-append}
use Rattle.std.specs.List.{range_with_len, flat_map, slice_range}
use Rattle.std.proofs.Math.Seq.{take-add}
use Rattle.std.proofs.lemmas.List.{drop-drop, drop-take, take-take, take_all, take-append-le, drop-append-le, length-take-le}
use Rattle.xr_types.specs.declared.attr.NcType.{NcType}
use Rattle.xr_types.specs.declared.attr.NcType.TheVariants.{Byte, Char, Short, Int, Float, Double, UByte, UShort, UInt, Int64, UInt64}
use Rattle.xr_types.specs.Widths.{width}
use Rattle.xr_arrays.specs.declared.pieces.Pieces.{Pieces}
use Rattle.std.proofs.lemmas.Bool.Decides.{nat_tests}
use Rattle.xr_arrays.specs.Pieces.{are_inside, pieces, together, values_in, AreInside}

-- a single piece
pub one_piece : (bytes : List ℕ) (begin step n : ℕ) → pieces bytes begin step n 1 ≡ take n (drop begin bytes)
one_piece bytes begin step n =
    let here : begin + 0 * step ≡ begin = grind arith in
    append-nil (take n (drop (begin + 0 * step) bytes)) ∙ ap (λ (k : ℕ). take n (drop k bytes)) here

-- lists of one length behind the first j of them
pub dropped : (f : ℕ → List ℕ) (s a n j : ℕ) → j ≤ n → ((r : ℕ) → a ≤ r → r < a + n → length (f r) ≡ s) → drop (j * s) (flat_map f (range_with_len a n)) ≡ flat_map f (range_with_len (a + j) (n - j))
dropped f s a n zero le long = let z : 0 * s ≡ 0 = grind arith in let x : a ≡ a + 0 = omega arith in let y : n ≡ n - 0 = omega arith in ap (λ k. drop k (flat_map f (range_with_len a n))) z ∙ ap (λ b. flat_map f (range_with_len b n)) x ∙ ap (λ m. flat_map f (range_with_len (a + 0) m)) y
dropped f s a zero (suc j) le long = absurd (not-suc-le-zero le)
dropped f s a (suc n) (suc j) le long =
    let rest = flat_map f (range_with_len (a + 1) n) in
    let here : length (f a) ≡ s = long a (omega arith) (omega arith) in
    let first : drop s (f a ++ rest) ≡ rest = drop-append-le s (f a) rest (omega arith) ∙ ap (λ l. l ++ rest) (drop_all s (f a) (omega arith)) in
    let both : s + j * s ≡ suc j * s = grind arith in
    let x : a + 1 + j ≡ a + suc j = omega arith in
    let y : n - j ≡ suc n - suc j = omega arith in
    sym (ap (λ k. drop k (f a ++ rest)) both)
    ∙ sym (drop-drop (j * s) s (f a ++ rest))
    ∙ ap (drop (j * s)) first
    ∙ dropped f s (a + 1) n j (omega arith) (λ r from to. long r (omega arith) (omega arith))
    ∙ ap (λ b. flat_map f (range_with_len b (n - j))) x
    ∙ ap (λ m. flat_map f (range_with_len (a + suc j) m)) y
  where
    drop_all : (k : ℕ) (l : List ℕ) → length l ≤ k → drop k l ≡ []
    drop_all zero [] le = refl
    drop_all (suc k) [] le = refl
    drop_all zero (x ∷ l) le = absurd (not-suc-le-zero le)
    drop_all (suc k) (x ∷ l) le = drop_all k l (omega arith)

-- bytes within a list that stands in front of others
front : (m k : ℕ) (l rest : List ℕ) → k + m ≤ length l → take m (drop k (l ++ rest)) ≡ take m (drop k l)
front m k l rest le =
    ap (take m) (drop-append-le k l rest (omega arith))
    ∙ take-append-le m (drop k l) rest (omega (arith, length-drop k l))

-- bytes within the front of a list
within : (s m k : ℕ) (l : List ℕ) → k + m ≤ s → take m (drop k (take s l)) ≡ take m (drop k l)
within s m k l le =
    let both : s ≡ k + (s - k) = omega arith in
    ap (λ n. take m (drop k (take n l))) both
    ∙ ap (take m) (drop-take k (s - k) l)
    ∙ take-take m (s - k) (drop k l) (omega arith)

-- bytes of one of the pieces
pub in_piece : (bytes : List ℕ) (begin step s count r m k : ℕ) → ((r : ℕ) → r < count → begin + r * step + s ≤ length bytes) → r < count → k + m ≤ s
    → take m (drop (r * s + k) (pieces bytes begin step s count)) ≡ take m (drop (begin + r * step + k) bytes)
in_piece bytes begin step s count r m k inside lt le =
    let f : ℕ → List ℕ = λ r. take s (drop (begin + r * step) bytes) in
    let long : (r : ℕ) → 0 ≤ r → r < 0 + count → length (f r) ≡ s =
    λ r from to. let fits = inside r (omega arith) in length-take-le s (drop (begin + r * step) bytes) (omega (arith, length-drop (begin + r * step) bytes, fits)) in
    let left : count - r ≡ suc (count - r - 1) = omega arith in
    let z : 0 + r ≡ r = omega arith in
    let here : length (f r) ≡ s = long r (omega arith) (omega arith) in
    let rest = flat_map f (range_with_len (r + 1) (count - r - 1)) in
    sym (ap (take m) (drop-drop k (r * s) (pieces bytes begin step s count)))
    ∙ ap (λ l. take m (drop k l)) (dropped f s 0 count r (omega arith) long ∙ ap (λ b. flat_map f (range_with_len b (count - r))) z ∙ ap (λ n. flat_map f (range_with_len r n)) left)
    ∙ front m k (f r) rest (omega arith)
    ∙ within s m k (drop (begin + r * step) bytes) le
    ∙ ap (take m) (drop-drop k (begin + r * step) bytes)

pub all_values : (kind : NcType) (n : ℕ) → n % width kind ≡ 0 → n / width kind * width kind ≡ n
all_values Byte n e = omega arith
all_values Char n e = omega arith
all_values Short n e = omega arith
all_values Int n e = omega arith
all_values Float n e = omega arith
all_values Double n e = omega arith
all_values UByte n e = omega arith
all_values UShort n e = omega arith
all_values UInt n e = omega arith
all_values Int64 n e = omega arith
all_values UInt64 n e = omega arith

-- bytes in one piece
pub whole_is : (kind : NcType) (bytes : List ℕ) → length bytes % width kind ≡ 0 → pieces bytes 0 0 (length bytes / width kind * width kind) 1 ≡ bytes
whole_is kind bytes e = one_piece bytes 0 0 (length bytes / width kind * width kind) ∙ ap (λ (n : ℕ). take n bytes) (all_values kind (length bytes) e) ∙ take_all (length bytes) bytes (omega arith)

pub whole_inside : (kind : NcType) (n r : ℕ) → n % width kind ≡ 0 → 0 + r * 0 + n / width kind * width kind ≤ n
whole_inside kind n r e = let z : r * 0 ≡ 0 = grind arith in let all = all_values kind n e in omega (arith, z, all)

pub whole_few : (kind : NcType) (n : ℕ) → n % width kind ≡ 0 → 1 * (n / width kind) * width kind ≤ n
whole_few kind n e = let one : 1 * (n / width kind) ≡ n / width kind = grind arith in let all = ap (λ (k : ℕ). k * width kind) one ∙ all_values kind n e in omega (arith, all)

-- pieces that lie apart aren't longer than what they stand in
pub apart_few : (kind : NcType) (count size step begin long : ℕ) → size % width kind ≡ 0 → 1 ≤ count → size ≤ step → begin + (count - 1) * step + size ≤ long → count * (size / width kind) * width kind ≤ long
apart_few kind count size step begin long whole some apart inside =
    let one = size / width kind in
    let turn : count * one * width kind ≡ count * (one * width kind) = grind arith in
    let all : count * one * width kind ≡ count * size = turn ∙ ap (λ (k : ℕ). count * k) (all_values kind size whole) in
    let more : count ≡ (count - 1) + 1 = omega (arith, some) in
    let last : ((count - 1) + 1) * size ≡ (count - 1) * size + size = grind arith in
    let most : (count - 1) * size ≤ (count - 1) * step = mul-le-mul_left (count - 1) apart in
    let is : count * size ≡ (count - 1) * size + size = ap (λ (k : ℕ). k * size) more ∙ last in
    omega (arith, all, is, most, inside)

pub apart_inside : (kind : NcType) (count size step begin long r : ℕ) → size % width kind ≡ 0 → r < count → begin + (count - 1) * step + size ≤ long → begin + r * step + size / width kind * width kind ≤ long
apart_inside kind count size step begin long r whole lt inside =
    let most : r * step ≤ (count - 1) * step = mul-le-mul_right step (let le : r ≤ count - 1 = omega (arith, lt) in le) in
    omega (arith, all_values kind size whole, most, inside)

-- where a value stands: its piece, and its place there
pub record Stands (kind : NcType) (p : Pieces) (from : ℕ) : Type 0 where
  pub piece : from / p.cells < p.count
  pub at : from % p.cells < p.cells
  pub both : from / p.cells * p.cells + from % p.cells ≡ from
  pub inside : p.begin + from / p.cells * p.step + p.cells * width kind ≤ length p.bytes
  pub split : p.cells * width kind ≡ from % p.cells * width kind + (p.cells - from % p.cells) * width kind
  pub bytes : from * width kind ≡ from / p.cells * (p.cells * width kind) + from % p.cells * width kind
  pub behind : from + (p.cells - from % p.cells) ≤ values_in p

pub stands : (kind : NcType) (p : Pieces) (from : ℕ) → AreInside kind p → from < values_in p → Stands kind p from
stands kind p from inside lt = by p.cells refl
  where
    none : p.cells ≡ 0 → ⊥
    none z = let e : p.count * p.cells ≡ 0 = ap (λ (k : ℕ). p.count * k) z ∙ grind arith in omega (arith, lt, e)

    by : (k : ℕ) → k ≡ p.cells → Stands kind p from
    by zero e = absurd (none (sym e))
    by (suc k) e =
        let w = width kind in
        let q = from / p.cells in
        let a = from % p.cells in
        let m = p.cells - a in
        let some : 0 < p.cells = omega (arith, e) in
        let is_piece : q < p.count = (div-lt_iff_lt-mul some).1 lt in
        let is_at : a < p.cells = mod-lt from some in
        let is_both : q * p.cells + a ≡ from = div-add-mod' from p.cells in
        let cut : p.cells ≡ a + m = omega (arith, is_at) in
        let halves : (a + m) * w ≡ a * w + m * w = grind arith in
        let parts : (q * p.cells + a) * w ≡ q * (p.cells * w) + a * w = grind arith in
        let next : suc q * p.cells ≡ q * p.cells + p.cells = grind arith in
        let last : suc q * p.cells ≤ p.count * p.cells = mul-le-mul_right p.cells is_piece in
        record {
          piece = is_piece;
          at = is_at;
          both = is_both;
          inside = inside.inside q is_piece;
          split = ap (λ (n : ℕ). n * w) cut ∙ halves;
          bytes = ap (λ (n : ℕ). n * w) (sym is_both) ∙ parts;
          behind = omega (arith, is_both, is_at, next, last);
        }

-- the values from one on to the end of its piece
pub stand_together : (kind : NcType) (p : Pieces) (from : ℕ) → AreInside kind p → from < values_in p
    → take ((p.cells - from % p.cells) * width kind) (drop (p.begin + from / p.cells * p.step + from % p.cells * width kind) p.bytes) ≡ take ((p.cells - from % p.cells) * width kind) (drop (from * width kind) (together kind p))
stand_together kind p from inside lt =
    let s = stands kind p from inside lt in
    let m = (p.cells - from % p.cells) * width kind in
    sym (ap (λ (n : ℕ). take m (drop n (together kind p))) s.bytes
    ∙ in_piece p.bytes p.begin p.step (p.cells * width kind) p.count (from / p.cells) m (from % p.cells * width kind) inside.inside s.piece (omega (arith, s.split)))

inside_is : (kind : NcType) (long begin step size count : ℕ) → size % width kind ≡ 0 → size ≤ step → 1 ≤ count → begin + (count - 1) * step + size ≤ long → are_inside kind long begin step size count ≡ true
inside_is kind long begin step size count whole apart some inside = grind (arith, nat_tests)

-- pieces that lie apart and inside
pub apart_is : (kind : NcType) (bytes : List ℕ) (begin step size count w : ℕ) → w ≡ width kind → size % w ≡ 0 → size ≤ step → 1 ≤ count → begin + (count - 1) * step + size ≤ length bytes → length bytes < 2 ^ 64
    → (are_inside kind (length bytes) begin step size count ≡ true) × (together kind record { bytes = bytes; begin = begin; step = step; cells = size / w; count = count } ≡ pieces bytes begin step size count) × AreInside kind record { bytes = bytes; begin = begin; step = step; cells = size / w; count = count }
apart_is kind bytes begin step size count w is rest apart some end short =
    let whole : size % width kind ≡ 0 = ap (λ (k : ℕ). size % k) (sym is) ∙ rest in
    let cells : size / w ≡ size / width kind = ap (λ (k : ℕ). size / k) is in
    let all : size / w * width kind ≡ size = ap (λ (k : ℕ). k * width kind) cells ∙ all_values kind size whole in
    let few : count * (size / w) * width kind ≡ count * (size / width kind) * width kind = ap (λ (k : ℕ). count * k * width kind) cells in (
      inside_is kind (length bytes) begin step size count whole apart some end,
      ap (λ (n : ℕ). pieces bytes begin step n count) all,
      record {
        inside = λ r lt. let h = apart_inside kind count size step begin (length bytes) r whole lt end in omega (arith, h, all, all_values kind size whole);
        few = let h = apart_few kind count size step begin (length bytes) whole some apart end in omega (arith, h, few);
        short = short;
      },
    )

-- lists of one length one behind the other
pub long_pieces : (f : ℕ → List ℕ) (s a n : ℕ) → ((r : ℕ) → a ≤ r → r < a + n → length (f r) ≡ s) → length (flat_map f (range_with_len a n)) ≡ n * s
long_pieces f s a zero long = let z : 0 ≡ 0 * s = grind arith in z
long_pieces f s a (suc n) long =
    let rest = flat_map f (range_with_len (a + 1) n) in
    let both : s + n * s ≡ suc n * s = grind arith in
    let first = long a (omega arith) (omega arith) in
    let others = long_pieces f s (a + 1) n (λ r from to. long r (omega arith) (omega arith)) in
    omega (arith, length-append (f a) rest, first, others, both)

-- a piece that is inside has its length
pub piece_long : (bytes : List ℕ) (begin step s count r : ℕ) → ((r : ℕ) → r < count → begin + r * step + s ≤ length bytes) → r < count → length (take s (drop (begin + r * step) bytes)) ≡ s
piece_long bytes begin step s count r inside lt = let fits = inside r lt in length-take-le s (drop (begin + r * step) bytes) (omega (arith, length-drop (begin + r * step) bytes, fits))

-- as many bytes as the values have
pub long_together : (kind : NcType) (p : Pieces) → AreInside kind p → length (together kind p) ≡ values_in p * width kind
long_together kind p inside =
    let s = p.cells * width kind in
    let f : ℕ → List ℕ = λ r. take s (drop (p.begin + r * p.step) p.bytes) in
    let turn : p.count * (p.cells * width kind) ≡ p.count * p.cells * width kind = grind arith in
    long_pieces f s 0 p.count (λ r from to. piece_long p.bytes p.begin p.step s p.count r inside.inside (omega arith))
    ∙ turn

-- all values from the first on
pub all_together : (kind : NcType) (p : Pieces) → AreInside kind p → take (p.count * p.cells * width kind) (drop (0 * width kind) (together kind p)) ≡ together kind p
all_together kind p inside =
    let z : 0 * width kind ≡ 0 = grind arith in
    ap (λ (k : ℕ). take (p.count * p.cells * width kind) (drop k (together kind p))) z ∙ take_all (p.count * p.cells * width kind) (together kind p) (omega (arith, long_together kind p inside))

-- the values of a run behind those that are put together already
pub grown : (all run got : List ℕ) (w from done count more : ℕ) → got ≡ take (done * w) (drop (from * w) all) → run ≡ take (count * w) (drop ((from + done) * w) all) → more ≤ count
    → got ++ take (more * w) run ≡ take ((done + more) * w) (drop (from * w) all)
grown all run got w from done count more so_far is le =
    let there : from * w + done * w ≡ (from + done) * w = grind arith in
    let both : done * w + more * w ≡ (done + more) * w = grind arith in
    let fewer : more * w ≤ count * w = mul-le-mul_right w le in
    ap (λ (l : List ℕ). l ++ take (more * w) run) so_far
    ∙ ap (λ (l : List ℕ). take (done * w) (drop (from * w) all) ++ l)
    (ap (take (more * w)) is ∙ take-take (more * w) (count * w) (drop ((from + done) * w) all) fewer ∙ ap (λ (k : ℕ). take (more * w) (drop k all)) (sym there) ∙ sym (ap (take (more * w)) (drop-drop (done * w) (from * w) all)))
    ∙ sym (take-add (done * w) (more * w) (drop (from * w) all))
    ∙ ap (λ (k : ℕ). take k (drop (from * w) all)) both

-- some of the values of one piece
pub some_of : (all bytes : List ℕ) (w from byte count n : ℕ) → take (count * w) (drop byte bytes) ≡ take (count * w) (drop (from * w) all) → n ≤ count → slice_range bytes byte (byte + n * w) ≡ take (n * w) (drop (from * w) all)
some_of all bytes w from byte count n is le =
    let fewer : n * w ≤ count * w = mul-le-mul_right w le in
    let long : byte + n * w - byte ≡ n * w = omega arith in
    ap (λ (k : ℕ). take k (drop byte bytes)) long
    ∙ sym (take-take (n * w) (count * w) (drop byte bytes) fewer)
    ∙ ap (take (n * w)) is
    ∙ take-take (n * w) (count * w) (drop (from * w) all) fewer

same_by : (kind : NcType) (a b : ℕ) → a * width kind ≡ b * width kind → a ≡ b
same_by Byte a b e = omega arith
same_by Char a b e = omega arith
same_by Short a b e = omega arith
same_by Int a b e = omega arith
same_by Float a b e = omega arith
same_by Double a b e = omega arith
same_by UByte a b e = omega arith
same_by UShort a b e = omega arith
same_by UInt a b e = omega arith
same_by Int64 a b e = omega arith
same_by UInt64 a b e = omega arith

-- as many values as their bytes have room for
pub many : (kind : NcType) (p : Pieces) (s : ℕ) → AreInside kind p → length (together kind p) ≡ s * width kind → values_in p ≡ s
many kind p s inside long = same_by kind (values_in p) s (sym (long_together kind p inside) ∙ long)

-- bytes of so many values hold whole ones
pub whole_values : (kind : NcType) (n s : ℕ) → n ≡ s * width kind → n % width kind ≡ 0
whole_values Byte n s e = omega arith
whole_values Char n s e = omega arith
whole_values Short n s e = omega arith
whole_values Int n s e = omega arith
whole_values Float n s e = omega arith
whole_values Double n s e = omega arith
whole_values UByte n s e = omega arith
whole_values UShort n s e = omega arith
whole_values UInt n s e = omega arith
whole_values Int64 n s e = omega arith
whole_values UInt64 n s e = omega arith

-- Some of the pieces of bytes.
use Rattle.std.proofs.Common.{◌≡◌, ◌≤◌, ◌<◌, ◌+◌, ◌-◌, ◌*◌, ◌/◌, ◌%◌, ◌∙◌, sym, ap, ℕ, zero, suc, List, ◌++◌, length, take, drop, refl, arith, mul-le-mul_right, div-add-mod', le_of_mul-le-mul_right, length-drop}
use Rattle.std.specs.List.{range_with_len, flat_map}
use Rattle.std.proofs.lemmas.List.{take-append-le, take_all, length-take-le}
use Rattle.xr_types.specs.declared.attr.NcType.{NcType}
use Rattle.xr_types.specs.Widths.{width}
use Rattle.xr_arrays.specs.declared.pieces.Pieces.{Pieces}
use Rattle.xr_arrays.specs.Pieces.{pieces, together, values_in, AreInside}
use Rattle.xr_arrays.proofs.LabelPlaces.{range_with_len-add}
use Rattle.xr_arrays.proofs.Together.{dropped, long_pieces, long_together, piece_long}
use Rattle.std.proofs.lemmas.Grind.{flat_map-append}

-- the first m of some lists of one length
taken : (f : ℕ → List ℕ) (s a n m : ℕ) → m ≤ n → ((r : ℕ) → a ≤ r → r < a + n → length (f r) ≡ s) → take (m * s) (flat_map f (range_with_len a n)) ≡ flat_map f (range_with_len a m)
taken f s a n m le long =
    let front = flat_map f (range_with_len a m) in
    let rest = flat_map f (range_with_len (a + m) (n - m)) in
    let both : n ≡ m + (n - m) = omega (arith, le) in
    let is_long : length front ≡ m * s = long_pieces f s a m (λ r from to. long r from (omega (arith, to, le))) in
    ap (λ k. take (m * s) (flat_map f (range_with_len a k))) both
    ∙ ap (λ l. take (m * s) (flat_map f l)) (range_with_len-add a m (n - m))
    ∙ ap (take (m * s)) (flat_map-append f (range_with_len a m) (range_with_len (a + m) (n - m)))
    ∙ take-append-le (m * s) front rest (omega (arith, is_long))
    ∙ take_all (m * s) front (omega (arith, is_long))

shifted : (f g : ℕ → List ℕ) (a b n : ℕ) → ((r : ℕ) → f (a + r) ≡ g (b + r)) → flat_map f (range_with_len a n) ≡ flat_map g (range_with_len b n)
shifted f g a b zero same = refl
shifted f g a b (suc n) same =
    let x : a + 0 ≡ a = omega arith in
    let y : b + 0 ≡ b = omega arith in
    let here : f a ≡ g b = sym (ap f x) ∙ same 0 ∙ ap g y in
    ap (λ l. l ++ flat_map f (range_with_len (a + 1) n)) here
    ∙ ap (λ l. g b ++ l) (shifted f g (a + 1) (b + 1) n (λ r. let u : a + 1 + r ≡ a + (1 + r) = omega arith in let v : b + 1 + r ≡ b + (1 + r) = omega arith in ap f u ∙ same (1 + r) ∙ sym (ap g v)))

-- some pieces, from one on
some_pieces : (bytes : List ℕ) (begin step s count q m : ℕ) → ((r : ℕ) → r < count → begin + r * step + s ≤ length bytes) → q + m ≤ count → pieces bytes (begin + q * step) step s m ≡ take (m * s) (drop (q * s) (pieces bytes begin step s count))
some_pieces bytes begin step s count q m inside le =
    let f : ℕ → List ℕ = λ r. take s (drop (begin + r * step) bytes) in
    let g : ℕ → List ℕ = λ r. take s (drop (begin + q * step + r * step) bytes) in
    let long : (r : ℕ) → r < count → length (f r) ≡ s = λ r lt. piece_long bytes begin step s count r inside lt in
    let z : 0 + q ≡ q = omega arith in
    sym (ap (take (m * s)) (dropped f s 0 count q (omega arith) (λ r from to. long r (omega arith)) ∙ ap (λ b. flat_map f (range_with_len b (count - q))) z)
    ∙ taken f s q (count - q) m (omega arith) (λ r from to. long r (omega arith))
    ∙ shifted f g q 0 m (λ r. let e : begin + (q + r) * step ≡ begin + q * step + (0 + r) * step = grind arith in ap (λ (k : ℕ). take s (drop k bytes)) e))

-- whole pieces, from a value on
pub record Cut (kind : NcType) (p : Pieces) (from n byte : ℕ) : Type 0 where
  pub values : pieces p.bytes byte p.step (p.cells * width kind) (n / p.cells) ≡ take (n * width kind) (drop (from * width kind) (together kind p))
  pub inside : (r : ℕ) → r < n / p.cells → byte + r * p.step + p.cells * width kind ≤ length p.bytes
  pub few : n / p.cells * p.cells * width kind ≤ length p.bytes

pub whole_pieces : (kind : NcType) (p : Pieces) (from n byte : ℕ) → AreInside kind p → 0 < p.cells → from % p.cells ≡ 0 → n % p.cells ≡ 0 → from + n ≤ values_in p → byte ≡ p.begin + from / p.cells * p.step + from % p.cells * width kind → Cut kind p from n byte
whole_pieces kind p from n byte inside some is_first is_whole within is =
    let w = width kind in
    let q = from / p.cells in
    let m = n / p.cells in
    let first : q * p.cells ≡ from = let e : q * p.cells + from % p.cells ≡ from = div-add-mod' from p.cells in omega (arith, e, is_first) in
    let whole : m * p.cells ≡ n = let e : m * p.cells + n % p.cells ≡ n = div-add-mod' n p.cells in omega (arith, e, is_whole) in
    let both : (q + m) * p.cells ≡ q * p.cells + m * p.cells = grind arith in
    let le : q + m ≤ p.count = least (q + m) p.count p.cells some (omega (arith, both, first, whole, within)) in
    let z : from % p.cells * w ≡ 0 = ap (λ (k : ℕ). k * w) is_first ∙ grind arith in
    let here : byte ≡ p.begin + q * p.step = omega (arith, is, z) in
    let s1 : m * (p.cells * w) ≡ n * w = turn m p.cells w ∙ ap (λ (k : ℕ). k * w) whole in
    let s2 : q * (p.cells * w) ≡ from * w = turn q p.cells w ∙ ap (λ (k : ℕ). k * w) first in
    let fewer : n * w ≤ values_in p * w = mul-le-mul_right w (omega (arith, within)) in
    record {
      values = ap (λ (b : ℕ). pieces p.bytes b p.step (p.cells * w) m) here
          ∙ some_pieces p.bytes p.begin p.step (p.cells * w) p.count q m inside.inside le
          ∙ ap (λ (k : ℕ). take k (drop (q * (p.cells * w)) (together kind p))) s1
          ∙ ap (λ (k : ℕ). take (n * w) (drop k (together kind p))) s2;
      inside = λ r lt. let h = inside.inside (q + r) (omega (arith, lt, le)) in let e : (q + r) * p.step ≡ q * p.step + r * p.step = grind arith in omega (arith, h, e, here);
      few = let e = ap (λ (k : ℕ). k * w) whole in omega (arith, e, fewer, inside.few);
    }
  where
    turn : (m c w : ℕ) → m * (c * w) ≡ m * c * w
    turn m c w = grind arith

    least : (a b c : ℕ) → 0 < c → a * c ≤ b * c → a ≤ b
    least a b c some le = le_of_mul-le-mul_right le some

-- as many bytes as the values that are cut out have
pub long_part : (kind : NcType) (p : Pieces) (from n : ℕ) → AreInside kind p → from + n ≤ values_in p → length (take (n * width kind) (drop (from * width kind) (together kind p))) ≡ n * width kind
long_part kind p from n inside within =
    let w = width kind in
    let both : (from + n) * w ≡ from * w + n * w = grind arith in
    let fewer : (from + n) * w ≤ values_in p * w = mul-le-mul_right w within in
    length-take-le (n * w) (drop (from * w) (together kind p)) (omega (arith, length-drop (from * w) (together kind p), long_together kind p inside, both, fewer))

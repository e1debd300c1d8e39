-- Values in pieces, and the blocks that they are cut into.
use Rattle.std.proofs.Common.{◌≡◌, ◌<◌, ◌≤◌, ◌+◌, ◌*◌, ◌/◌, ◌%◌, ◌^◌, ◌++◌, ℕ, List, [], ◌∷◌, length, map, take, drop, sum, get_or, sym, ap, subst, ◌∙◌, arith}
use Rattle.std.specs.List.{All}
use Rattle.std.proofs.Math.Nat.{div-add-mod}
use Rattle.std.proofs.lemmas.List.{map-append, take_more}
use Rattle.std.proofs.lemmas.List.Elements.{All-append, All-cons}
use Rattle.xr_types.specs.declared.attr.NcType.{NcType}
use Rattle.xr_types.specs.declared.attr.NcType.TheVariants.{Byte, Char, Short, Int, Float, Double, UByte, UShort, UInt, Int64, UInt64}
use Rattle.xr_types.specs.Widths.{width}
use Rattle.xr_arrays.specs.declared.pieces.Pieces.{Pieces}
use Rattle.xr_arrays.specs.Pieces.{together, values_in, AreInside}
use Rattle.xr_arrays.proofs.Together.{long_together}
use Rattle.plan_core.specs.Joins.{joined_total}
use Rattle.plan_core.proofs.Joins.{sum_total}
use Rattle.plan_core.proofs.Tabs.{within}
use Rattle.row_concat.specs.Blocks.{block}
use Rattle.row_concat.specs.Spelt.{AreValues}
use Rattle.row_concat.specs.declared.spelt.Values.{Values}
use Rattle.row_concat.proofs.Turns.{quotient}

wide : (kind : NcType) (n : ℕ) → n ≤ n * width kind
wide Byte n = omega arith
wide Char n = omega arith
wide Short n = omega arith
wide Int n = omega arith
wide Float n = omega arith
wide Double n = omega arith
wide UByte n = omega arith
wide UShort n = omega arith
wide UInt n = omega arith
wide Int64 n = omega arith
wide UInt64 n = omega arith

-- 64 bits count them
pub few_values : (kind : NcType) (p : Pieces) → AreInside kind p → values_in p < 18446744073709551616
few_values kind p inside = let w = wide kind (values_in p) in omega (arith, inside.few, inside.short, w)

pub values_long : (kind : NcType) (v : Values) → AreValues kind v → length (together kind v.pieces.now) ≡ v.count * width kind
values_long kind v are = long_together kind v.pieces.now are.inside ∙ ap (λ n. n * width kind) (sym are.counted)

-- 64 bits count their bytes
pub few_bytes : (kind : NcType) (v : Values) → AreValues kind v → v.count * width kind < 2 ^ 64
few_bytes kind v are = let e = ap (λ n. n * width kind) are.counted in let few = are.inside.few in let short = are.inside.short in omega (arith, few, short, e)

-- the bytes of a block of values are a block of their bytes
pub block_of : (kind : NcType) (v : Values) (outer number count : ℕ) → AreValues kind v → number < outer → v.count % outer ≡ 0 → count ≡ v.count / outer → take (count * width kind) (drop ((number * count) * width kind) (together kind v.pieces.now)) ≡ block outer number (together kind v.pieces.now)
block_of kind v outer number count are below even is =
    let w = width kind in
    let raw = together kind v.pieces.now in
    let all : outer * count ≡ v.count = ap (λ n. outer * n) is ∙ (let e = div-add-mod v.count outer in omega (arith, e, even)) in
    let turn : (outer * count) * w ≡ outer * (count * w) = grind arith in
    let place : (number * count) * w ≡ number * (count * w) = grind arith in
    let long : length raw / outer ≡ count * w = quotient (length raw) outer (count * w) (omega (arith, below)) (values_long kind v are ∙ ap (λ n. n * w) (sym all) ∙ turn) in
    ap (λ n. take (count * w) (drop n raw)) place ∙ sym (ap (λ n. take n (drop (number * n) raw)) long)

-- a block lies within
pub block_within : (kind : NcType) (v : Values) (outer number count : ℕ) → AreValues kind v → number < outer → v.count % outer ≡ 0 → count ≡ v.count / outer → number * count + count ≤ values_in v.pieces.now
block_within kind v outer number count are below even is =
    let all : outer * count ≡ v.count = ap (λ n. outer * n) is ∙ (let e = div-add-mod v.count outer in omega (arith, e, even)) in
    let fits = within number outer count below in
    let e = are.counted in
    omega (arith, all, fits, e)

joined_more : (ns : List ℕ) (n : ℕ) → joined_total (ns ++ n ∷ []) ≡ joined_total ns + n
joined_more [] n = omega arith
joined_more (m ∷ ns) n = let e = joined_more ns n in omega (arith, e)

sum_both : (ns : List ℕ) (n : ℕ) → sum (ns ++ n ∷ []) ≡ sum ns + n
sum_both ns n = sum_total (ns ++ n ∷ []) ∙ joined_more ns n ∙ ap (λ k. k + n) (sym (sum_total ns))

pub sum_more : {B : Type 0} (f : B → ℕ) (xs : List B) (i : ℕ) (x : B) → i < length xs → x ≡ get_or xs i x → sum (map f (take (i + 1) xs)) ≡ sum (map f (take i xs)) + f x
sum_more f xs i x lt is =
    ap (λ ys. sum (map f ys)) (take_more xs i x lt ∙ ap (λ y. take i xs ++ y ∷ []) (sym is))
    ∙ ap sum (map-append f (take i xs) (x ∷ []))
    ∙ sum_both (map f (take i xs)) (f x)

pub counted_more : (kind : NcType) (vs more : List Values) (v : Values) → more ≡ vs ++ v ∷ [] → All (AreValues kind) vs → AreValues kind v → All (AreValues kind) more
counted_more kind vs more v is all here =
    subst (All (AreValues kind)) (sym is) (All-append (AreValues kind) vs (v ∷ []) all (All-cons (AreValues kind) v [] here (λ k d lt. absurd (omega arith))))

-- Sums that were wrapped at 64 bits, as the kind of sums wraps them.
use Rattle.std.proofs.Common.{◌≡◌, ℕ, ℤ, pos, ◌+◌, ◌+ℤ◌, ◌*ℤ◌, ◌*◌, ◌<◌, ◌≤◌, List, [], ◌∷◌, ◌++◌, take, drop, Option, Some, None, refl, sym, ap, ◌∙◌, arith}
use Rattle.std.specs.Int.{int_wrap, w64}
use Rattle.std.proofs.lemmas.Int.{ints, int_wrap-add_left, int_wrap-add_right}
use Rattle.std.proofs.Math.Seq.{take-add}
use Rattle.xr_types.specs.Kinds.{count_of, wrap_to}
use Rattle.xr_types.specs.declared.kind.DType.{DType}
use Rattle.xr_types.specs.declared.kind.DType.TheVariants as kinds
use Rattle.xr_types.proofs.Wrapping.{wrapped_is, wrapped_only}
use Rattle.xr_arrays.specs.Folds.{sum_of, total_kind}
use Rattle.plan_core.specs.Rows.{those}
use Rattle.xr_types.specs.declared.attr.NcType.{NcType}
use Rattle.xr_types.specs.Points.{size}
use Rattle.xr_types.specs.Widths.{width}
use Rattle.xr_arrays.specs.Arrays.{Array}
use Rattle.xr_arrays.specs.Numbers.{numbers_of}
use Rattle.xr_arrays.specs.Stored.{stored_array, stored_cells, IsStored}
use Rattle.stored_cells.specs.Counted.{present as shown}
use Rattle.stored_cells.proofs.Blocks.{cells_in_run}
use Rattle.plan_whole.proofs.Present.{those_present}

-- a kind of as many numbers as 64 bits have
abbrev turn : ℤ
turn = pos 18446744073709551616

both : (n m k a b : ℤ) → k ≡ m +ℤ a *ℤ turn → n ≡ k +ℤ b *ℤ turn → n ≡ m +ℤ (a +ℤ b) *ℤ turn
both n m k a b d e = omega (arith, ints)

again : (t : DType) (n : ℤ) → pos (count_of t) ≡ turn → wrap_to t (int_wrap w64 n) ≡ wrap_to t n
again t n many =
    let first = wrapped_is kinds.Int64 n in
    let second = wrapped_is t (int_wrap w64 n) in
    let m = wrap_to t (int_wrap w64 n) in
    let d : int_wrap w64 n ≡ m +ℤ second.turns *ℤ turn = second.congruent ∙ ap (λ c. m +ℤ second.turns *ℤ c) many in
    wrapped_only t n m (record { in_range = second.in_range; turns = second.turns +ℤ first.turns; congruent = both n m (int_wrap w64 n) second.turns first.turns d first.congruent ∙ ap (λ c. m +ℤ (second.turns +ℤ first.turns) *ℤ c) (sym many) })

pub wrapped_again : (t : DType) (n : ℤ) → wrap_to (total_kind t) (int_wrap w64 n) ≡ wrap_to (total_kind t) n
wrapped_again kinds.Bool n = again kinds.Int64 n refl
wrapped_again kinds.Char n = again kinds.Int64 n refl
wrapped_again kinds.Int8 n = again kinds.Int64 n refl
wrapped_again kinds.Int16 n = again kinds.Int64 n refl
wrapped_again kinds.Int32 n = again kinds.Int64 n refl
wrapped_again kinds.Int64 n = again kinds.Int64 n refl
wrapped_again kinds.UInt8 n = again kinds.UInt64 n refl
wrapped_again kinds.UInt16 n = again kinds.UInt64 n refl
wrapped_again kinds.UInt32 n = again kinds.UInt64 n refl
wrapped_again kinds.UInt64 n = again kinds.UInt64 n refl

-- the kind of sums isn't that of truth values
pub total_differs : (t : DType) → total_kind t ≡ kinds.Bool → ⊥
total_differs kinds.Bool e = cc
total_differs kinds.Char e = cc
total_differs kinds.Int8 e = cc
total_differs kinds.Int16 e = cc
total_differs kinds.Int32 e = cc
total_differs kinds.Int64 e = cc
total_differs kinds.UInt8 e = cc
total_differs kinds.UInt16 e = cc
total_differs kinds.UInt32 e = cc
total_differs kinds.UInt64 e = cc

-- ---- sums of parts

none_before : (n : ℤ) → n ≡ pos 0 +ℤ n
none_before n = omega (arith, ints)

one_before : (x a b : ℤ) → x +ℤ (a +ℤ b) ≡ (x +ℤ a) +ℤ b
one_before x a b = omega (arith, ints)

sum_both : (xs ys : List (Option ℤ)) → sum_of (those (xs ++ ys)) ≡ sum_of (those xs) +ℤ sum_of (those ys)
sum_both [] ys = none_before (sum_of (those ys))
sum_both (None ∷ xs) ys = sum_both xs ys
sum_both (Some x ∷ xs) ys = ap (λ k. x +ℤ k) (sum_both xs ys) ∙ one_before x (sum_of (those xs)) (sum_of (those ys))

-- the sum with the cells of one part more
pub part_more : (xs : List (Option ℤ)) (f n : ℕ) (before part all : ℤ) → before ≡ int_wrap w64 (sum_of (those (take f xs))) → part ≡ int_wrap w64 (sum_of (those (take n (drop f xs)))) → all ≡ int_wrap w64 (before +ℤ part) → all ≡ int_wrap w64 (sum_of (those (take (f + n) xs)))
part_more xs f n before part all is_before is_part is_all =
    let a = sum_of (those (take f xs)) in
    let b = sum_of (those (take n (drop f xs))) in
    is_all ∙ (λ i. int_wrap w64 (is_before i +ℤ is_part i)) ∙ int_wrap-add_left w64 a (int_wrap w64 b) ∙ int_wrap-add_right w64 a b ∙ ap (int_wrap w64) (sym (sum_both (take f xs) (take n (drop f xs)))) ∙ ap (λ t. int_wrap w64 (sum_of (those t))) (sym (take-add f n xs))

-- ---- values that stand in pieces

-- the sum of a run of cells, from their bytes
pub run_sum : (a : Array) (kind : NcType) (raw run : List ℕ) (fills : List ℤ) (from n : ℕ) (part : ℤ) → a ≡ stored_array a.shape kind raw fills → IsStored a.shape kind raw → from + n ≤ size a.shape → run ≡ take (n * width kind) (drop (from * width kind) raw) → part ≡ int_wrap w64 (sum_of (shown fills (numbers_of kind run)))
    → part ≡ int_wrap w64 (sum_of (those (take n (drop from a.cells))))
run_sum a kind raw run fills from n part is stored within is_run is_part =
    is_part
    ∙ ap (λ (ns : List ℤ). int_wrap w64 (sum_of ns)) (sym (those_present fills (numbers_of kind run)))
    ∙ ap (λ (r : List ℕ). int_wrap w64 (sum_of (those (stored_cells kind r fills)))) is_run
    ∙ ap (λ (cs : List (Option ℤ)). int_wrap w64 (sum_of (those cs))) (cells_in_run kind raw fills (size a.shape) from n stored.whole stored.long within)
    ∙ ap (λ (b : Array). int_wrap w64 (sum_of (those (take n (drop from b.cells))))) (sym is)

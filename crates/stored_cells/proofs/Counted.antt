-- Sums that leave out numbers.
use Rattle.std.proofs.Common.{◌≡◌, ◌+◌, ℕ, ℤ, pos, ◌+ℤ◌, Bool, true, false, not, cond, List, [], ◌∷◌, zero-add, refl, sym, ap, ◌∙◌, arith}
use Rattle.std.specs.Int.{w64, int_wrap}
use Rattle.std.proofs.lemmas.Int.{ints, int_wrap-add_left, int_wrap-add_right}
use Rattle.std.proofs.lemmas.List.FromFn.{filter_of_map_range_with_len_more}
use Rattle.xr_types.specs.declared.attr.NcType.{NcType}
use Rattle.xr_arrays.specs.Folds.{sum_of}
use Rattle.xr_arrays.specs.Numbers.{number_in, value_at}
use Rattle.xr_arrays.specs.Stored.{is_fill}
use Rattle.xr_arrays.proofs.Folds.{sum_of-append}
use Rattle.stored_cells.specs.Counted.{present}
use Rattle.stored_cells.proofs.NumbersInBytes.{numbers_to}

abbrev pub sum_to : NcType → List ℕ → List ℤ → ℕ → ℤ
sum_to kind raw fills n = sum_of (present fills (numbers_to kind raw n))

-- what a number adds
abbrev pub counted : List ℤ → ℤ → ℤ
counted fills n = cond (is_fill fills n) (pos 0) n

one_more : (hidden : Bool) (n : ℤ) → sum_of (cond (not hidden) (n ∷ []) []) ≡ cond hidden (pos 0) n
one_more true n = refl
one_more false n = omega (arith, ints)

sum_more : (kind : NcType) (raw : List ℕ) (fills : List ℤ) (i : ℕ) → sum_to kind raw fills (i + 1) ≡ sum_to kind raw fills i +ℤ counted fills (number_in kind (value_at kind raw i))
sum_more kind raw fills i =
    let f = λ (k : ℕ). number_in kind (value_at kind raw k) in
    let p = λ (n : ℤ). not (is_fill fills n) in
    let before = present fills (numbers_to kind raw i) in
    ap sum_of (filter_of_map_range_with_len_more p f 0 i i (zero-add i))
    ∙ sum_of-append before (cond (p (f i)) (f i ∷ []) [])
    ∙ ap (λ (n : ℤ). sum_of before +ℤ n) (one_more (is_fill fills (f i)) (f i))

-- a sum that wraps on the way wraps as the whole does
pub sum_step : (kind : NcType) (raw : List ℕ) (fills : List ℤ) (i : ℕ) (total more next : ℤ) → next ≡ int_wrap w64 (total +ℤ more) → more ≡ int_wrap w64 (counted fills (number_in kind (value_at kind raw i))) → total ≡ int_wrap w64 (sum_to kind raw fills i)
    → next ≡ int_wrap w64 (sum_to kind raw fills (i + 1))
sum_step kind raw fills i total more next is is_more so_far =
    let n = counted fills (number_in kind (value_at kind raw i)) in
    let s = sum_to kind raw fills i in
    is ∙ ap (λ (t : ℤ). int_wrap w64 (t +ℤ more)) so_far ∙ int_wrap-add_left w64 s more ∙ ap (λ (m : ℤ). int_wrap w64 (s +ℤ m)) is_more ∙ int_wrap-add_right w64 s n ∙ ap (int_wrap w64) (sym (sum_more kind raw fills i))

-- The slice of positions that stands for positions in a row chooses these.
use Rattle.std.proofs.Common.{◌≡◌, ◌≤◌, ◌+◌, ◌-◌, ◌%◌, ◌&&◌, ◌==◌, ℕ, zero, suc, Bool, List, [], ◌++◌, length, filter, get_or, nat_le, nat_lt, Ok, refl, sym, ap, ◌∙◌, arith, eq-eqb, add-zero}
use Rattle.std.proofs.lemmas.Bool.Decides.{nat_tests}
use Rattle.std.proofs.lemmas.List.FromFn.{get_or-range_with_len, length-range_with_len}
use Rattle.std.specs.List.{range_with_len}
use Rattle.std.specs.Prelude.{min}
use Rattle.xr_types.specs.Results.{◌>>=◌, unless}
use Rattle.xr_arrays.proofs.LabelPlaces.{filter_all}
use Rattle.xr_defs.specs.Arguments.{as_position, as_positions}
use Rattle.xr_defs.specs.Selecting.{Several, as_selector, choice_of}
use Rattle.xr_defs.specs.Slices.{rising}
use Rattle.xr_operations.specs.Selection.{in_row}
use Rattle.xr_indexing.proofs.Walks.{begins, ends, more}

rising_row : (n s k : ℕ) → s + k ≤ n → rising n s (s + k) 1 ≡ range_with_len s k
rising_row n s k le =
    let test : ℕ → Bool = λ i. nat_le s i && (nat_lt i (s + k) && ((i - s) % 1 == 0)) in
    sym (ends n s (s + k) 1 (s + k) le (omega arith)) ∙ more test s k ∙ ap (λ xs. xs ++ filter test (range_with_len s k)) (begins s (s + k) 1)
    ∙ filter_all test s k (λ i from to. let e = eq-eqb ((i - s) % 1) 0 (omega arith) in grind (arith, nat_tests))

least : (a n : ℕ) → a ≤ n → min a n ≡ a
least a n le = grind arith

abbrev first_of : List ℕ → ℕ
first_of ps = get_or ps 0 0

row_of : (n : ℕ) (ps : List ℕ) → (as_selector (in_row ps) >>= λ s. choice_of n s) ≡ Ok (Several (rising n (min (first_of ps) n) (min (first_of ps + length ps) n) 1))
unfolding as_selector as_positions as_position choice_of unless
row_of n ps = refl

row_taken : (n f k : ℕ) (ps : List ℕ) → first_of ps ≡ f → length ps ≡ k → f + k ≤ n → (as_selector (in_row ps) >>= λ s. choice_of n s) ≡ Ok (Several (range_with_len f k))
row_taken n f k ps first long le =
    let low : min (first_of ps) n ≡ f = ap (λ a. min a n) first ∙ least f n (omega arith) in
    let high : min (first_of ps + length ps) n ≡ f + k = ap (λ a. min (a + length ps) n) first ∙ ap (λ l. min (f + l) n) long ∙ least (f + k) n le in
    row_of n ps ∙ ap (λ a. Ok (Several (rising n a (min (first_of ps + length ps) n) 1))) low ∙ ap (λ b. Ok (Several (rising n f b 1))) high ∙ ap (λ qs. Ok (Several qs)) (rising_row n f k le)

-- on an axis of n positions
pub row_chosen : (n first k : ℕ) → first + k ≤ n → (as_selector (in_row (range_with_len first k)) >>= λ s. choice_of n s) ≡ Ok (Several (range_with_len first k))
row_chosen n first zero le = row_taken n 0 0 [] refl refl (omega arith)
row_chosen n first (suc k) le =
    row_taken n first (suc k) (range_with_len first (suc k)) (get_or-range_with_len first (suc k) 0 0 (omega arith) ∙ add-zero first) (length-range_with_len first (suc k)) le

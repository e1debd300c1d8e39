-- Sizes of blocks that are given.
use Rattle.std.proofs.Common.{◌≡◌, ◌<◌, ◌≤◌, ◌-◌, ◌≤ℤ◌, ◌<ℤ◌, ℕ, ℤ, pos, negsuc, cond, not, length, map, take, drop, get_or, List, [], ◌∷◌, ◌++◌, Result, Ok, Err, refl, sym, ap, ◌∙◌, arith}
use Rattle.std.specs.Prelude.{unsigned_abs, nat_le, true, false}
use Rattle.std.proofs.lemmas.Int.{ints}
use Rattle.std.proofs.lemmas.Bool.Decides.{nat_tests}
use Rattle.std.proofs.lemmas.List.{append_assoc, append-nil}
use Rattle.xr_types.specs.Results.{◌>>=◌, unless}
use Rattle.xr_types.specs.declared.fault.Fault.{Fault}
use Rattle.xr_types.specs.declared.fault.Fault.TheVariants.{BadArgument}
use Rattle.xr_defs.specs.Meanings.{Value}
use Rattle.xr_defs.specs.declared.grouping.BlockSize.{BlockSize}
use Rattle.xr_groups.specs.Calls.{block_given, blocks_given, from_one, is_coarsen_option}
use Rattle.xr_types.specs.declared.text.TextBytes.{TextBytes}
use Rattle.xr_arrays.specs.declared.node.Node.{Node}
use Rattle.xr_values.specs.declared.value.Value as held
use Rattle.xr_values.specs.Meaning.{with_key}
use Rattle.xr_arguments.proofs.Binding.{first_and_rest}
use Rattle.std.specs.List.{filter}
use Rattle.xr_grouping.specs.Sizes.{more_blocks}

pub below_one : (n : ℤ) → n <ℤ pos 1 → from_one n ≡ Err BadArgument
unfolding from_one unless
below_one (pos n) lt = let none : nat_le 1 n ≡ false = grind (arith, ints, nat_tests, lt) in rw (none) refl
below_one (negsuc n) lt = refl

pub at_least_one : (n : ℤ) → pos 1 ≤ℤ n → from_one n ≡ Ok (unsigned_abs n)
unfolding from_one unless
at_least_one (pos n) le = let some : nat_le 1 n ≡ true = grind (arith, ints, nat_tests, le) in rw (some) refl
at_least_one (negsuc n) le = absurd (omega (arith, ints, le))

pub more_none : (before : List BlockSize) → more_blocks before [] ≡ Ok before
unfolding more_blocks blocks_given
more_none before = ap Ok (append-nil before)

pub more_after : (before : List BlockSize) (kv : List ℕ × Value) (kvs : List (List ℕ × Value)) (b : BlockSize) → block_given kv ≡ Ok b → more_blocks before (kv ∷ kvs) ≡ more_blocks (before ++ b ∷ []) kvs
unfolding more_blocks blocks_given
more_after before kv kvs b e = ap (λ r. (r >>= λ c. blocks_given kvs >>= λ bs. Ok (c ∷ bs)) >>= λ bs. Ok (before ++ bs)) e ∙ by (blocks_given kvs)
  where
    by : (r : Result (List BlockSize) Fault) → ((r >>= λ bs. Ok (b ∷ bs)) >>= λ bs. Ok (before ++ bs)) ≡ (r >>= λ bs. Ok ((before ++ b ∷ []) ++ bs))
    by (Ok bs) = ap Ok (sym (append_assoc before (b ∷ []) bs))
    by (Err f) = refl

pub more_fault : (before : List BlockSize) (kv : List ℕ × Value) (kvs : List (List ℕ × Value)) (f : Fault) → block_given kv ≡ Err f → more_blocks before (kv ∷ kvs) ≡ Err f
unfolding more_blocks blocks_given
more_fault before kv kvs f e = ap (λ r. (r >>= λ c. blocks_given kvs >>= λ bs. Ok (c ∷ bs)) >>= λ bs. Ok (before ++ bs)) e

pub none_before : (kvs : List (List ℕ × Value)) → more_blocks [] kvs ≡ blocks_given kvs
unfolding more_blocks
none_before kvs = by (blocks_given kvs)
  where
    by : (r : Result (List BlockSize) Fault) → (r >>= λ bs. Ok bs) ≡ r
    by (Ok bs) = refl
    by (Err f) = refl

-- ---- arguments that name no dimension are left out

pub none_left : (nodes : List Node) (before : List BlockSize) (kvs : List (TextBytes × held.Value)) → length kvs < 1 → more_blocks before (filter (λ kv. not (is_coarsen_option kv)) (map (with_key nodes) kvs)) ≡ Ok before
none_left nodes before [] lt = more_none before
none_left nodes before (kv ∷ kvs) lt = absurd (omega (arith, lt))

pub one_more : (nodes : List Node) (before after : List BlockSize) (kvs : List (TextBytes × held.Value)) (kv : TextBytes × held.Value) (b : BlockSize) → 1 ≤ length kvs → kv ≡ get_or kvs 0 kv → is_coarsen_option (with_key nodes kv) ≡ false
    → block_given (with_key nodes kv) ≡ Ok b → after ≡ before ++ b ∷ []
    → more_blocks before (filter (λ kv. not (is_coarsen_option kv)) (map (with_key nodes) kvs)) ≡ more_blocks after (filter (λ kv. not (is_coarsen_option kv)) (map (with_key nodes) (take (length kvs - 1) (drop 1 kvs))))
one_more nodes before after kvs kv b long is option e pushed =
    let rest : List (TextBytes × held.Value) = take (length kvs - 1) (drop 1 kvs) in
    let others : List (List ℕ × Value) = filter (λ kv. not (is_coarsen_option kv)) (map (with_key nodes) rest) in
    ap (λ xs. more_blocks before (filter (λ kv. not (is_coarsen_option kv)) xs)) (first_and_rest (with_key nodes) kvs kv long)
    ∙ ap (λ z. more_blocks before (filter (λ kv. not (is_coarsen_option kv)) (with_key nodes z ∷ map (with_key nodes) rest))) (sym is)
    ∙ ap (λ o. more_blocks before (cond (not o) (with_key nodes kv ∷ others) others)) option
    ∙ more_after before (with_key nodes kv) others b e ∙ ap (λ xs. more_blocks xs others) (sym pushed)

-- The labels of blocks, a position at a time.
use Rattle.std.proofs.Common.{◌≡◌, ◌<◌, ◌≤◌, ◌+◌, ◌-◌, ◌+ℤ◌, ℕ, zero, suc, ℤ, pos, List, [], ◌∷◌, ◌++◌, length, map, get_or, fold, Option, Some, None, refl, sym, ap, ◌∙◌, arith}
use Rattle.std.specs.Int.{int_max, int_min}
use Rattle.std.specs.List.{range_with_len}
use Rattle.std.proofs.lemmas.List.{append_assoc}
use Rattle.xr_types.specs.Kinds.{wrap_to}
use Rattle.xr_types.specs.declared.kind.DType.{DType}
use Rattle.xr_types.specs.declared.operation.FoldKind.{FoldKind}
use Rattle.xr_types.specs.declared.operation.FoldKind.TheVariants.{Sum, Min, Max}
use Rattle.xr_arrays.specs.Folds.{folded_kind, greatest, least, numbers, of_both, present, sum_of}
use Rattle.xr_arrays.specs.FeedPositions.{block}
use Rattle.xr_groups.specs.Blocks.{block_number, block_text, number_or_zero, numbers_at}
use Rattle.xr_grouping.specs.Labelled.{choice_of, numbers_in}

-- one position further down
down : (at to : ℕ) → 0 < at → at ≤ to → range_with_len (at - 1) (to - (at - 1)) ≡ (at - 1) ∷ range_with_len at (to - at)
down at to some le =
    let more : to - (at - 1) ≡ suc (to - at) = omega (arith, some, le) in
    let next : (at - 1) + 1 ≡ at = omega (arith, some) in
    ap (range_with_len (at - 1)) more ∙ ap (λ m. (at - 1) ∷ range_with_len m (to - at)) next

module _ (ns : List ℤ) (at to : ℕ) (some : 0 < at) (le : at ≤ to) where
  pub least_down : (best more : Option ℤ) → best ≡ least (numbers_in ns (range_with_len at (to - at))) → more ≡ of_both int_min (Some (get_or ns (at - 1) (pos 0))) best → more ≡ least (numbers_in ns (range_with_len (at - 1) (to - (at - 1))))
  least_down best more e em = em ∙ ap (of_both int_min (Some (get_or ns (at - 1) (pos 0)))) e ∙ sym (ap (λ ps. least (numbers_in ns ps)) (down at to some le))

  pub greatest_down : (best more : Option ℤ) → best ≡ greatest (numbers_in ns (range_with_len at (to - at))) → more ≡ of_both int_max (Some (get_or ns (at - 1) (pos 0))) best → more ≡ greatest (numbers_in ns (range_with_len (at - 1) (to - (at - 1))))
  greatest_down best more e em = em ∙ ap (of_both int_max (Some (get_or ns (at - 1) (pos 0)))) e ∙ sym (ap (λ ps. greatest (numbers_in ns ps)) (down at to some le))

  pub sum_down : (total more : ℤ) → total ≡ sum_of (numbers_in ns (range_with_len at (to - at))) → more ≡ get_or ns (at - 1) (pos 0) +ℤ total → more ≡ sum_of (numbers_in ns (range_with_len (at - 1) (to - (at - 1))))
  sum_down total more e em = em ∙ ap (λ t. get_or ns (at - 1) (pos 0) +ℤ t) e ∙ sym (ap (λ ps. sum_of (numbers_in ns ps)) (down at to some le))

-- above the last position there is none
none_above : (ns : List ℤ) (to : ℕ) → [] ≡ numbers_in ns (range_with_len to (to - to))
none_above ns to = let none : 0 ≡ to - to = omega arith in ap (λ n. numbers_in ns (range_with_len to n)) none

pub least_none : (ns : List ℤ) (to : ℕ) → None ≡ least (numbers_in ns (range_with_len to (to - to)))
least_none ns to = ap least (none_above ns to)

pub greatest_none : (ns : List ℤ) (to : ℕ) → None ≡ greatest (numbers_in ns (range_with_len to (to - to)))
greatest_none ns to = ap greatest (none_above ns to)

pub sum_none : (ns : List ℤ) (to : ℕ) → pos 0 ≡ sum_of (numbers_in ns (range_with_len to (to - to)))
sum_none ns to = ap sum_of (none_above ns to)

-- down to the first position
module _ (ns : List ℤ) (from at to : ℕ) (above : from ≤ at) (ended : at ≤ from) where
  first : at ≡ from
  first = omega (arith, above, ended)

  pub least_end : (best : Option ℤ) → best ≡ least (numbers_in ns (range_with_len at (to - at))) → best ≡ least (numbers_in ns (range_with_len from (to - from)))
  least_end best e = e ∙ ap (λ i. least (numbers_in ns (range_with_len i (to - i)))) first

  pub greatest_end : (best : Option ℤ) → best ≡ greatest (numbers_in ns (range_with_len at (to - at))) → best ≡ greatest (numbers_in ns (range_with_len from (to - from)))
  greatest_end best e = e ∙ ap (λ i. greatest (numbers_in ns (range_with_len i (to - i)))) first

  pub sum_end : (total : ℤ) → total ≡ sum_of (numbers_in ns (range_with_len at (to - at))) → total ≡ sum_of (numbers_in ns (range_with_len from (to - from)))
  sum_end total e = e ∙ ap (λ i. sum_of (numbers_in ns (range_with_len i (to - i)))) first

pub block_range : (from width : ℕ) → range_with_len from ((from + width) - from) ≡ range_with_len from width
block_range from width = let same : (from + width) - from ≡ width = omega arith in ap (range_with_len from) same

shown : (ns : List ℤ) (ps : List ℕ) → numbers (present (numbers_at ns ps)) ≡ numbers_in ns ps
shown ns [] = refl
shown ns (p ∷ ps) = ap (λ xs. get_or ns p (pos 0) ∷ xs) (shown ns ps)

pub least_is : (t : DType) (ns : List ℤ) (ps : List ℕ) → number_or_zero (least (numbers_in ns ps)) ≡ block_number Min t ns ps
least_is t ns ps = ap (λ xs. number_or_zero (least xs)) (sym (shown ns ps))

pub greatest_is : (t : DType) (ns : List ℤ) (ps : List ℕ) → number_or_zero (greatest (numbers_in ns ps)) ≡ block_number Max t ns ps
greatest_is t ns ps = ap (λ xs. number_or_zero (greatest xs)) (sym (shown ns ps))

pub sum_is : (t : DType) (ns : List ℤ) (ps : List ℕ) → wrap_to (folded_kind Sum t) (sum_of (numbers_in ns ps)) ≡ block_number Sum t ns ps
sum_is t ns ps = ap (λ xs. wrap_to (folded_kind Sum t) (sum_of xs)) (sym (shown ns ps))

module _ (k : FoldKind) (t : DType) (ns : List ℤ) (from width : ℕ) (best : Option ℤ) (r : ℤ) where
  pub least_label : k ≡ Min → best ≡ least (numbers_in ns (range_with_len from ((from + width) - from))) → r ≡ number_or_zero best → r ≡ block_number k t ns (range_with_len from width)
  least_label ek eb er =
      er ∙ ap number_or_zero (eb ∙ ap (λ ps. least (numbers_in ns ps)) (block_range from width)) ∙ least_is t ns (range_with_len from width) ∙ ap (λ f. block_number f t ns (range_with_len from width)) (sym ek)

  pub greatest_label : k ≡ Max → best ≡ greatest (numbers_in ns (range_with_len from ((from + width) - from))) → r ≡ number_or_zero best → r ≡ block_number k t ns (range_with_len from width)
  greatest_label ek eb er =
      er ∙ ap number_or_zero (eb ∙ ap (λ ps. greatest (numbers_in ns ps)) (block_range from width)) ∙ greatest_is t ns (range_with_len from width) ∙ ap (λ f. block_number f t ns (range_with_len from width)) (sym ek)

-- ---- one block more

next : (at count : ℕ) → at < count → range_with_len at (count - at) ≡ at ∷ range_with_len (at + 1) (count - (at + 1))
next at count lt = let more : count - at ≡ suc (count - (at + 1)) = omega (arith, lt) in ap (range_with_len at) more

pub pushed : {X : Type 0} (f : List ℕ → X) (w at count : ℕ) (out more base : List X) (x : X) → at < count → x ≡ f (block w at) → more ≡ out ++ x ∷ [] → out ++ map f (map (block w) (range_with_len at (count - at))) ≡ base
    → more ++ map f (map (block w) (range_with_len (at + 1) (count - (at + 1)))) ≡ base
pushed f w at count out more base x lt ex em so_far =
    let rest = map f (map (block w) (range_with_len (at + 1) (count - (at + 1)))) in
    ap (λ t. t ++ rest) em ∙ append_assoc out (x ∷ []) rest ∙ ap (λ y. out ++ (y ∷ rest)) ex ∙ ap (λ ps. out ++ map f (map (block w) ps)) (sym (next at count lt)) ∙ so_far

-- ---- the text of a block

get_any : {X : Type 0} (xs : List X) (i : ℕ) (d e : X) → i < length xs → get_or xs i d ≡ get_or xs i e
get_any [] i d e lt = absurd (omega (arith, lt))
get_any (x ∷ xs) zero d e lt = refl
get_any (x ∷ xs) (suc i) d e lt = get_any xs i d e (omega (arith, lt))

module _ (k : FoldKind) (ts : List (List ℕ)) where
  abbrev text_at : ℕ → List ℕ
  text_at i = get_or ts i []

  pub text_first : (from width : ℕ) (best : List ℕ) → 0 < width → from + width ≤ length ts → best ≡ get_or ts from best
      → fold (choice_of k) best (map (λ i. get_or ts i []) (range_with_len (from + 1) ((from + width) - (from + 1)))) ≡ block_text k ts (range_with_len from width)
  text_first from width best some inside is =
      let short : (from + width) - (from + 1) ≡ width - 1 = omega (arith, some) in
      let long : width ≡ suc (width - 1) = omega (arith, some) in
      ap (λ n. fold (choice_of k) best (map text_at (range_with_len (from + 1) n))) short
      ∙ ap (λ b. fold (choice_of k) b (map text_at (range_with_len (from + 1) (width - 1)))) (is ∙ get_any ts from best [] (omega (arith, some, inside)))
      ∙ sym (ap (λ n. block_text k ts (range_with_len from n)) long)

  pub text_next : (at to : ℕ) (best more x base : List ℕ) → at < to → to ≤ length ts → x ≡ get_or ts at x → more ≡ choice_of k best x → fold (choice_of k) best (map (λ i. get_or ts i []) (range_with_len at (to - at))) ≡ base
      → fold (choice_of k) more (map (λ i. get_or ts i []) (range_with_len (at + 1) (to - (at + 1)))) ≡ base
  text_next at to best more x base lt inside is em so_far =
      ap (λ b. fold (choice_of k) b (map text_at (range_with_len (at + 1) (to - (at + 1))))) (em ∙ ap (choice_of k best) (is ∙ get_any ts at x [] (omega (arith, lt, inside))))
      ∙ ap (λ ps. fold (choice_of k) best (map text_at ps)) (sym (next at to lt)) ∙ so_far

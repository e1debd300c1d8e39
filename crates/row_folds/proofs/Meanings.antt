-- What folds that have ended give.
use Rattle.std.proofs.Common.{◌≡◌, ◌≤◌, ◌<◌, ◌^◌, ℕ, ℤ, pos, Bool, true, false, List, [], ◌∷◌, length, Option, Some, None, refl, sym, ap, ◌∙◌, arith}
use Rattle.std.specs.Int.{int_wrap, int_min, int_max, w64}
use Rattle.std.proofs.lemmas.Int.{ints, int_wrap_fits}
use Rattle.xr_types.specs.Kinds.{wrap_to, is_unsigned}
use Rattle.xr_types.specs.declared.kind.DType.{DType}
use Rattle.xr_types.specs.declared.kind.DType.TheVariants.{Int64, UInt64}
use Rattle.xr_types.specs.declared.operation.FoldKind.TheVariants.{Sum, Prod, Min, Max, First, Last, ArgMin, ArgMax, Count, Any, All}
use Rattle.xr_arrays.specs.Folds.{fold_of, total_kind, sum_of, product_of, numbers, present, least, greatest, of_both, truth}
use Rattle.xr_arrays.proofs.Folds.{sum_none, prod_none}
use Rattle.xr_arrays.specs.Nodes.{most_node_cells}
use Rattle.row_folds.specs.Rows.{shown, or_number, has_some}
use Rattle.row_folds.proofs.Totals.{wrapped_again}

abbrev Cells : Type 0
Cells = List (ℕ × Option ℤ)

-- ---- sums and products

pub signed_total : (t : DType) → is_unsigned t ≡ false → total_kind t ≡ Int64
signed_total t e = rw e refl

pub unsigned_total : (t : DType) → is_unsigned t ≡ true → total_kind t ≡ UInt64
unsigned_total t e = rw e refl

pub sum_none_is : fold_of Sum Int64 [] ≡ Some (pos 0)
sum_none_is = sum_none Int64

pub product_none_is : fold_of Prod Int64 [] ≡ Some (pos 1)
product_none_is = prod_none Int64

pub sum_signed : (t : DType) (s : ℤ) (cs : Cells) → is_unsigned t ≡ false → fold_of Sum Int64 cs ≡ Some s → Some s ≡ fold_of Sum t cs
sum_signed t s cs e is = sym is ∙ ap (λ u. Some (wrap_to u (sum_of (numbers (present cs))))) (sym (signed_total t e))

pub sum_unsigned : (t : DType) (s : ℤ) (cs : Cells) → is_unsigned t ≡ true → fold_of Sum Int64 cs ≡ Some s → Some (wrap_to UInt64 s) ≡ fold_of Sum t cs
sum_unsigned t s cs e is =
    let x = sum_of (numbers (present cs)) in
    let same : int_wrap w64 x ≡ s = cc in
    ap (λ n. Some (wrap_to UInt64 n)) (sym same) ∙ ap Some (wrapped_again UInt64 x) ∙ ap (λ u. Some (wrap_to u x)) (sym (unsigned_total t e))

pub product_signed : (t : DType) (s : ℤ) (cs : Cells) → is_unsigned t ≡ false → fold_of Prod Int64 cs ≡ Some s → Some s ≡ fold_of Prod t cs
product_signed t s cs e is = sym is ∙ ap (λ u. Some (wrap_to u (product_of (numbers (present cs))))) (sym (signed_total t e))

pub product_unsigned : (t : DType) (s : ℤ) (cs : Cells) → is_unsigned t ≡ true → fold_of Prod Int64 cs ≡ Some s → Some (wrap_to UInt64 s) ≡ fold_of Prod t cs
product_unsigned t s cs e is =
    let x = product_of (numbers (present cs)) in
    let same : int_wrap w64 x ≡ s = cc in
    ap (λ n. Some (wrap_to UInt64 n)) (sym same) ∙ ap Some (wrapped_again UInt64 x) ∙ ap (λ u. Some (wrap_to u x)) (sym (unsigned_total t e))

-- ---- counts and truth values

pub count_meaning : (t : DType) (s : ℤ) (cs : Cells) → length cs ≤ most_node_cells → (length cs ≤ 2 ^ 62 → fold_of Count Int64 cs ≡ Some s) → Some s ≡ fold_of Count t cs
count_meaning t s cs few is = sym (is (omega arith))

pub any_meaning : (t : DType) (b : Bool) (cs : Cells) → fold_of Any Int64 cs ≡ Some (truth b) → Some (truth b) ≡ fold_of Any t cs
any_meaning t b cs is = sym is

pub all_meaning : (t : DType) (b : Bool) (cs : Cells) → fold_of All Int64 cs ≡ Some (truth b) → Some (truth b) ≡ fold_of All t cs
all_meaning t b cs is = sym is

-- ---- least and greatest numbers

of_some : (f : ℤ → ℤ → ℤ) (h x : ℤ) (y : Option ℤ) → Some (or_number h (of_both f (Some x) y)) ≡ of_both f (Some x) y
of_some f h x None = refl
of_some f h x (Some y) = refl

pub least_meaning : (t : DType) (h n : ℤ) (b : Bool) (cs : Cells) → n ≡ or_number h (fold_of Min Int64 cs) → has_some cs ≡ b → shown b n ≡ fold_of Min t cs
least_meaning t h n b cs is some = (λ k. shown (sym some k) (is k)) ∙ from cs
  where
    from : (cs : Cells) → shown (has_some cs) (or_number h (least (numbers (present cs)))) ≡ least (numbers (present cs))
    from [] = refl
    from ((p, None) ∷ cs) = from cs
    from ((p, Some x) ∷ cs) = of_some int_min h x (least (numbers (present cs)))

pub greatest_meaning : (t : DType) (h n : ℤ) (b : Bool) (cs : Cells) → n ≡ or_number h (fold_of Max Int64 cs) → has_some cs ≡ b → shown b n ≡ fold_of Max t cs
greatest_meaning t h n b cs is some = (λ k. shown (sym some k) (is k)) ∙ from cs
  where
    from : (cs : Cells) → shown (has_some cs) (or_number h (greatest (numbers (present cs)))) ≡ greatest (numbers (present cs))
    from [] = refl
    from ((p, None) ∷ cs) = from cs
    from ((p, Some x) ∷ cs) = of_some int_max h x (greatest (numbers (present cs)))

none_found : (f : List ℤ → Option ℤ) → f [] ≡ None → (h : ℤ) (cs : Cells) → has_some cs ≡ false → or_number h (f (numbers (present cs))) ≡ h
none_found f none h [] e = ap (or_number h) none
none_found f none h ((p, None) ∷ cs) e = none_found f none h cs e
none_found f none h ((p, Some x) ∷ cs) e = absurd cc

-- where no cell is present, the number is that of no cell
pub least_none : (h n m : ℤ) (cs : Cells) → n ≡ or_number h (fold_of Min Int64 cs) → has_some cs ≡ false → m ≡ h → n ≡ m
least_none h n m cs is none start = is ∙ none_found least refl h cs none ∙ sym start

pub greatest_none : (h n m : ℤ) (cs : Cells) → n ≡ or_number h (fold_of Max Int64 cs) → has_some cs ≡ false → m ≡ h → n ≡ m
greatest_none h n m cs is none start = is ∙ none_found greatest refl h cs none ∙ sym start

-- ---- cells that are chosen

pub first_meaning : (t : DType) (n : ℤ) (b : Bool) (cs : Cells) → fold_of First Int64 cs ≡ shown b n → shown b n ≡ fold_of First t cs
first_meaning t n b cs is = sym is

pub last_meaning : (t : DType) (n : ℤ) (b : Bool) (cs : Cells) → fold_of Last Int64 cs ≡ shown b n → shown b n ≡ fold_of Last t cs
last_meaning t n b cs is = sym is

small_position : (p : ℕ) → p < 2 ^ 62 → wrap_to Int64 (pos p) ≡ pos p
small_position p lt = int_wrap_fits w64 (pos p) (omega (arith, ints))

pub least_at_meaning : (t : DType) (p : ℕ) (n : ℤ) (b : Bool) (cs : Cells) → (fold_of Min Int64 cs ≡ shown b n) × (fold_of ArgMin Int64 cs ≡ shown b (pos p)) × (p < 2 ^ 62) → shown b (wrap_to Int64 (pos p)) ≡ fold_of ArgMin t cs
least_at_meaning t p n b cs is = ap (shown b) (small_position p is.2) ∙ sym is.1

pub greatest_at_meaning : (t : DType) (p : ℕ) (n : ℤ) (b : Bool) (cs : Cells) → (fold_of Max Int64 cs ≡ shown b n) × (fold_of ArgMax Int64 cs ≡ shown b (pos p)) × (p < 2 ^ 62) → shown b (wrap_to Int64 (pos p)) ≡ fold_of ArgMax t cs
greatest_at_meaning t p n b cs is = ap (shown b) (small_position p is.2) ∙ sym is.1

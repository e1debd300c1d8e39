-- Cells as they are kept: numbers of their kind, and a mask.
use Rattle.xr_building.proofs.Common.{All, All-cons, All-head, All-nil, All-tail, All-weaker, AllPass-from_list_all, AreSeen, Bool, DType, InKind, InRange, IsCell, List, None, Option, Some, [], ap, arith, cell, false, fits_kind, hidden, in_range, ints, is_some, kind_of, list_all, map, map-id, mask_byte, number_or_zero, pos, refl, subst, sym, true, wide, wrap_to, ℕ, ℤ, ◌<◌, ◌∙◌, ◌∷◌, ◌≡◌, CharKind, TruthKind}
use Rattle.xr_types.proofs.Wrapping.{wrapped_only}
use Rattle.xr_arrays.specs.declared.typed.Cells.{Cells}
use Rattle.xr_arrays.specs.declared.typed.Cells.TheVariants as typed
use Rattle.xr_building.proofs.Fitting.{fits_in_range}

-- ---- a number of a kind is left as it is

wrap_same : (t : DType) (n : ℤ) → InRange t n → wrap_to t n ≡ n
wrap_same t n in_range = sym (wrapped_only t n n (record { in_range = in_range; turns = pos 0; congruent = omega (arith, ints) }))

byte_range : (n : ℤ) → InRange TruthKind n → InRange CharKind n
byte_range n is = let a = is.0 in let b = is.1 in (omega (arith, ints), omega (arith, ints))

zero_in : (t : DType) → InRange t (pos 0)
zero_in TruthKind = (omega (arith, ints), omega (arith, ints))
zero_in t = (omega (arith, ints), omega (arith, ints))

kept_cell : (t : DType) (c : Option ℤ) → IsCell t c → wrap_to t (number_or_zero c) ≡ number_or_zero c
kept_cell t None is = wrap_same t (pos 0) (zero_in t)
kept_cell t (Some n) is = wrap_same t n is

pub kept : (t : DType) (cells : List (Option ℤ)) → All (IsCell t) cells → map (λ c. wrap_to t (number_or_zero c)) cells ≡ map number_or_zero cells
kept t [] all = refl
kept t (c ∷ cs) all =
    ap (λ n. n ∷ map (λ c. wrap_to t (number_or_zero c)) cs) (kept_cell t c (All-head (IsCell t) c cs all)) ∙ ap (λ ns. number_or_zero c ∷ ns) (kept t cs (All-tail (IsCell t) c cs all))

byte_cell : (c : Option ℤ) → IsCell TruthKind c → IsCell CharKind c
byte_cell None is = tt
byte_cell (Some n) is = byte_range n is

pub bytes_of_truths : (cells : List (Option ℤ)) → All (IsCell TruthKind) cells → All (IsCell CharKind) cells
bytes_of_truths cells all = All-weaker (IsCell TruthKind) (IsCell CharKind) byte_cell cells all

truth_below : (c : Option ℤ) (x : ℕ) → IsCell TruthKind c → pos x ≡ number_or_zero c → x < 2
truth_below None x is same = omega (arith, ints)
truth_below (Some n) x is same = let a = is.0 in let b = is.1 in omega (arith, ints)

truths_below : (xs : List ℕ) (cells : List (Option ℤ)) → All (IsCell TruthKind) cells → map pos xs ≡ map number_or_zero cells → All (λ x. x < 2) xs
truths_below [] cells all same = All-nil (λ x. x < 2)
truths_below (x ∷ xs) [] all same = absurd cc
truths_below (x ∷ xs) (c ∷ cs) all same =
    All-cons (λ x. x < 2) x xs (truth_below c x (All-head (IsCell TruthKind) c cs all) cc) (truths_below xs cs (All-tail (IsCell TruthKind) c cs all) cc)

pub in_kind : (v : Cells) (kind : DType) (cells : List (Option ℤ)) → kind_of v ≡ kind → wide v ≡ map number_or_zero cells → All (IsCell kind) cells → InKind v
in_kind (typed.Bool xs) kind cells same numbers all = truths_below xs cells (subst (λ (k : DType). All (IsCell k) cells) (sym same) all) numbers
in_kind v kind cells same numbers all = tt

-- ---- the mask

masked_cell : (c : Option ℤ) → cell (number_or_zero c, mask_byte c) ≡ c
masked_cell None = refl
masked_cell (Some n) = refl

pub masked_are : (cells : List (Option ℤ)) → hidden (map number_or_zero cells) (Some (map mask_byte cells)) ≡ cells
masked_are [] = refl
masked_are (c ∷ cs) = ap (λ d. d ∷ hidden (map number_or_zero cs) (Some (map mask_byte cs))) (masked_cell c) ∙ ap (λ ds. c ∷ ds) (masked_are cs)

seen_cell : (c : Option ℤ) → is_some c ≡ true → Some (number_or_zero c) ≡ c
seen_cell None is = absurd cc
seen_cell (Some n) is = refl

all_seen : (cells : List (Option ℤ)) → All (λ c. is_some c ≡ true) cells → hidden (map number_or_zero cells) None ≡ cells
all_seen [] all = refl
all_seen (c ∷ cs) all =
    ap (λ d. d ∷ hidden (map number_or_zero cs) None) (seen_cell c (All-head (λ c. is_some c ≡ true) c cs all)) ∙ ap (λ ds. c ∷ ds) (all_seen cs (All-tail (λ c. is_some c ≡ true) c cs all))

pub seen_are : (masked : Bool) (cells : List (Option ℤ)) → AreSeen masked cells → masked ≡ false → hidden (map number_or_zero cells) None ≡ cells
seen_are masked cells seen bare = all_seen cells (seen bare)

-- ---- elements of a kind

fits_in : (k : DType) (c : Option ℤ) → fits_kind k c ≡ true → IsCell k c
fits_in k None is = tt
fits_in k (Some n) is = fits_in_range k n is

pub all_in : (k : DType) (cells : List (Option ℤ)) → list_all (fits_kind k) cells ≡ true → All (IsCell k) cells
all_in k cells is = All-weaker (λ c. fits_kind k c ≡ true) (IsCell k) (fits_in k) cells (AllPass-from_list_all (fits_kind k) cells is)

pub same_ints : (v : List ℤ) → map (λ x. x) v ≡ v
same_ints = map-id

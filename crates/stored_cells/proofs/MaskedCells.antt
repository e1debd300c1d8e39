-- Cells that a mask hides.
use Rattle.std.proofs.Common.{◌≡◌, ◌+◌, ◌<◌, ℕ, ℤ, suc, pos, ◌≤ℤ◌, Bool, true, false, cond, ◌&&◌, ◌||◌, List, [], ◌∷◌, ◌++◌, length, map, zip, take, drop, get_or, append-nil, Some, None, refl, sym, ap, subst, ◌∙◌, arith}
use Rattle.std.specs.List.{list_any}
use Rattle.std.specs.Ordering.{int_eq}
use Rattle.std.proofs.lemmas.List.{take_more, length-map, take_all, drop_all}
use Rattle.std.proofs.lemmas.List.Folds.{list_any-append}
use Rattle.std.proofs.lemmas.Bool.Decides.{Decides-and, Decides-like, Decides-int_eq, same_from_decides}
use Rattle.std.proofs.lemmas.Int.{ints}
use Rattle.xr_types.specs.Kinds.{low, high, wrap_to}
use Rattle.xr_types.specs.declared.kind.DType.{DType}
use Rattle.xr_types.proofs.Wrapping.{wrapped_only}
use Rattle.xr_arrays.specs.Arrays.{cell}
use Rattle.xr_arrays.specs.Stored.{is_fill, unless_fill}
use Rattle.stored_cells.specs.Masks.{mark, marks, Hides}

one_hidden : (b : Bool) (n : ℤ) → cell (n, cond b 1 0) ≡ cond b None (Some n)
one_hidden true n = refl
one_hidden false n = refl

all_hidden : (fills ns : List ℤ) → map cell (zip ns (marks fills ns)) ≡ map (unless_fill fills) ns
all_hidden fills [] = refl
all_hidden fills (n ∷ ns) = ap (λ c. c ∷ map cell (zip ns (marks fills ns))) (one_hidden (is_fill fills n) n) ∙ ap (λ cs. unless_fill fills n ∷ cs) (all_hidden fills ns)

pub hides_marked : (fills ns : List ℤ) → Hides fills ns (Some (marks fills ns))
hides_marked fills ns = record { cells = all_hidden fills ns; long = length-map ns (mark fills) }

none_hidden : (ns : List ℤ) → map Some ns ≡ map (unless_fill []) ns
none_hidden [] = refl
none_hidden (n ∷ ns) = ap (λ cs. Some n ∷ cs) (none_hidden ns)

pub hides_none : (fills ns : List ℤ) → fills ≡ [] → Hides fills ns None
hides_none fills ns e = record { cells = none_hidden ns ∙ ap (λ (fs : List ℤ). map (unless_fill fs) ns) (sym e); long = tt }

-- ---- one fill number more

abbrev one_if : Bool → ℕ
one_if b = cond b 1 0

later : (b t : Bool) → ◌≡◌ {A = ℕ} (cond t 1 (cond b 1 0)) (cond (b || (t || false)) 1 0)
later true true = refl
later true false = refl
later false true = refl
later false false = refl

mark_more : (fills : List ℤ) (k : ℕ) (d n : ℤ) → k < length fills → ◌≡◌ {A = ℕ} (cond (int_eq n (get_or fills k d)) 1 (mark (take k fills) n)) (mark (take (k + 1) fills) n)
mark_more fills k d n lt =
    later (is_fill (take k fills) n) (int_eq n (get_or fills k d))
    ∙ sym (ap one_if (ap (λ fs. list_any (int_eq n) fs) (take_more fills k d lt) ∙ list_any-append (int_eq n) (take k fills) (get_or fills k d ∷ [])))

pub row_more : (fills : List ℤ) (k : ℕ) (d n fill : ℤ) (before after : ℕ) → k < length fills → fill ≡ get_or fills k d → ◌≡◌ {A = ℕ} after (cond (int_eq n fill) 1 before) → before ≡ mark (take k fills) n → after ≡ mark (take (k + 1) fills) n
row_more fills k d n fill before after lt at is so_far = is ∙ ap (λ f. cond (int_eq n f) 1 before) at ∙ ap (cond (int_eq n (get_or fills k d)) 1) so_far ∙ mark_more fills k d n lt

-- a mask that is right at each cell is right
pub masked_row : {X : Type 0} (number : X → ℤ) (cells : List X) (fills : List ℤ) (mask : List ℕ) → length mask ≡ length cells
    → ((i : ℕ) (x : X) → i < length cells → get_or mask i 0 ≡ mark fills (number (get_or cells i x))) → mask ≡ marks fills (map number cells)
masked_row number [] fills [] long h = refl
masked_row number [] fills (m ∷ mask) long h = absurd (omega arith)
masked_row number (x ∷ cells) fills [] long h = absurd (omega arith)
masked_row number (x ∷ cells) fills (m ∷ mask) long h =
    ap (λ k. k ∷ mask) (h 0 x (omega arith)) ∙ ap (λ ms. mark fills (number x) ∷ ms) (masked_row number cells fills mask (omega arith) (λ i y lt. h (suc i) y (omega arith)))

-- ---- a slice of a whole list that was written

pub all_written : (new old : List ℕ) (n : ℕ) → length new ≡ n → length old ≡ n → take n (new ++ drop (length new) old) ≡ new
all_written new old n long same =
    let none : drop (length new) old ≡ [] = drop_all (length new) old (omega arith) in
    ap (λ rest. take n (new ++ rest)) none ∙ ap (take n) (append-nil new) ∙ take_all n new (omega arith)

-- ---- a cell and a number

-- a cell of a kind holds a number if it holds what the kind leaves of it, and that is the number
pub held : (t : DType) (x near n : ℤ) → low t ≤ℤ x → x ≤ℤ high t → near ≡ wrap_to t n → (int_eq x near && int_eq near n) ≡ int_eq x n
held t x near n from to is =
    let both = Decides-and (int_eq x near) (int_eq near n) (Decides-int_eq x near) (Decides-int_eq near n) in
    let same : x ≡ n → (x ≡ near) × (near ≡ n) = λ e. let left : near ≡ n = is ∙ sym (wrapped_only t n n (record { in_range = (subst (λ k. low t ≤ℤ k) e from, subst (λ k. k ≤ℤ high t) e to); turns = pos 0; congruent = omega (arith, ints) })) in (e ∙ sym left, left) in
    same_from_decides (int_eq x near && int_eq near n) (int_eq x n) (Decides-like (int_eq x near && int_eq near n) (λ h. h.0 ∙ h.1) same both) (Decides-int_eq x n)

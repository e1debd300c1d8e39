-- Cells that folds read, by their places.
use Rattle.std.proofs.Common.{◌≡◌, ◌==◌, ◌<◌, ◌≤◌, ◌+◌, ◌*◌, ◌/◌, ◌∙◌, ◌++◌, ℕ, ℤ, pos, suc, zero, min, Bool, true, false, not, cond, List, [], ◌∷◌, map, flat_map, length, take, drop, get_or, Option, Some, None, arith, refl, sym, ap, subst, zero-add}
use Rattle.std.proofs.lemmas.List.{length-map, get_or-map}
use Rattle.std.proofs.lemmas.List.FromFn.{length-map-range_with_len, get_or-map-range_with_len}
use Rattle.std.proofs.lemmas.List.{get_or-drop, get_or-take}
use Rattle.std.specs.List.{range_with_len, zip}
use Rattle.xr_types.specs.declared.attr.NcType.{NcType}
use Rattle.xr_types.specs.Widths.{width}
use Rattle.xr_arrays.specs.Arrays.{cell}
use Rattle.xr_arrays.specs.Numbers.{is_whole, number_in, value_at, numbers_of}
use Rattle.xr_arrays.specs.Nodes.{most_node_cells}
use Rattle.xr_arrays.specs.Pieces.{together, values_in, AreInside}
use Rattle.xr_arrays.specs.Stored.{is_fill, stored_cells, unless_fill}
use Rattle.xr_arrays.specs.declared.pieces.Pieces.{Pieces}
use Rattle.xr_arrays.proofs.Together.{long_together}
use Rattle.stored_cells.proofs.Blocks.{cells_in_run}
use Rattle.stored_cells.proofs.Lengths.{numbers-length}
use Rattle.row_folds.specs.Rows.{shown}
use Rattle.row_folds.specs.Runs.{ArePart, IsInPieces, IsRun}
use Rattle.row_folds.proofs.Ways.{range_step}

pub masked_length : {T : Type 0} (number : T → ℤ) (xs : List T) (mask : List ℕ) → length (map cell (zip (map number xs) mask)) ≡ min (length xs) (length mask)
masked_length number [] mask = omega arith
masked_length number (x ∷ xs) [] = omega arith
masked_length number (x ∷ xs) (m ∷ mask) = omega (arith, masked_length number xs mask)

pub whole_at : {T : Type 0} (number : T → ℤ) (xs : List T) (i : ℕ) (d : T) → i < length (map Some (map number xs)) → get_or (map Some (map number xs)) i None ≡ Some (number (get_or xs i d))
whole_at number [] i d lt = absurd (omega arith)
whole_at number (x ∷ xs) zero d lt = refl
whole_at number (x ∷ xs) (suc i) d lt = whole_at number xs i d (omega arith)

pub masked_at : {T : Type 0} (number : T → ℤ) (xs : List T) (mask : List ℕ) (i : ℕ) (d : T) (n : ℕ) → i < length (map cell (zip (map number xs) mask)) → get_or (map cell (zip (map number xs) mask)) i None ≡ shown (get_or mask i n == 0) (number (get_or xs i d))
masked_at number [] mask i d n lt = absurd (omega arith)
masked_at number (x ∷ xs) [] i d n lt = absurd (omega arith)
masked_at number (x ∷ xs) (m ∷ mask) zero d n lt = refl
masked_at number (x ∷ xs) (m ∷ mask) (suc i) d n lt = masked_at number xs mask i d n (omega arith)

-- ---- cells as a file stores them

pub stored_length : (kind : NcType) (raw : List ℕ) (fills : List ℤ) → length (map (unless_fill fills) (numbers_of kind raw)) ≡ length raw / width kind
stored_length kind raw fills = length-map (numbers_of kind raw) (unless_fill fills) ∙ length-map-range_with_len (λ i. number_in kind (value_at kind raw i)) 0 (length raw / width kind)

unless : (b : Bool) (n : ℤ) → cond b None (Some n) ≡ shown (not b) n
unless true n = refl
unless false n = refl

pub stored_at : (kind : NcType) (raw : List ℕ) (fills : List ℤ) (i : ℕ) (n : ℤ) (b : Bool) → i < length (map (unless_fill fills) (numbers_of kind raw)) → n ≡ number_in kind (value_at kind raw i) → b ≡ is_fill fills n → get_or (map (unless_fill fills) (numbers_of kind raw)) i None ≡ shown (not b) n
stored_at kind raw fills i n b lt is_n is_b =
    let f = λ (k : ℕ). number_in kind (value_at kind raw k) in
    let below : i < length raw / width kind = subst (λ k. i < k) (stored_length kind raw fills) lt in
    let within : i < length (numbers_of kind raw) = subst (λ k. i < k) (length-map (numbers_of kind raw) (unless_fill fills)) lt in
    get_or-map (unless_fill fills) (numbers_of kind raw) i (pos 0) None within
    ∙ ap (unless_fill fills) (get_or-map-range_with_len f 0 (length raw / width kind) i i (pos 0) below (zero-add i) ∙ sym is_n)
    ∙ unless (is_fill fills n) n
    ∙ ap (λ t. shown (not t) n) (sym is_b)

-- ---- such cells by runs of their bytes

pub part_long : (kind : NcType) (raw part : List ℕ) (from count : ℕ) (fills : List ℤ) → is_whole kind ≡ true → ArePart kind raw part from count → length (stored_cells kind part fills) ≡ count
part_long kind raw part from count fills is p = length-map (numbers_of kind part) (unless_fill fills) ∙ numbers-length kind part count is p.long

pub part_at : (kind : NcType) (raw part : List ℕ) (from count n : ℕ) (fills : List ℤ) (i : ℕ) → is_whole kind ≡ true → length raw ≡ n * width kind → from + count ≤ n → ArePart kind raw part from count → i < count → get_or (stored_cells kind part fills) i None ≡ get_or (stored_cells kind raw fills) (from + i) None
part_at kind raw part from count n fills i is long within p lt =
    let cells = stored_cells kind raw fills in
    ap (λ b. get_or (stored_cells kind b fills) i None) p.is
    ∙ ap (λ (cs : List (Option ℤ)). get_or cs i None) (cells_in_run kind raw fills n from count is long within)
    ∙ get_or-take count (drop from cells) i None lt
    ∙ get_or-drop from cells i None

pub pieces_long : (kind spelt : NcType) (p : Pieces) (first : List ℕ) (count : ℕ) → IsInPieces kind spelt p first count → length (together kind p) ≡ values_in p * width spelt
pieces_long kind spelt p first count r = long_together kind p r.inside ∙ ap (λ w. values_in p * w) r.wide

pub cells_long : (kind spelt : NcType) (p : Pieces) (first : List ℕ) (count : ℕ) (fills : List ℤ) → IsInPieces kind spelt p first count → length (stored_cells spelt (together kind p) fills) ≡ values_in p
cells_long kind spelt p first count fills r = length-map (numbers_of spelt (together kind p)) (unless_fill fills) ∙ numbers-length spelt (together kind p) (values_in p) r.whole (pieces_long kind spelt p first count r)

pub part_as : (kind spelt : NcType) (raw part : List ℕ) (from count : ℕ) → width kind ≡ width spelt → ArePart kind raw part from count → ArePart spelt raw part from count
part_as kind spelt raw part from count wide p = record {
  long = p.long ∙ ap (λ w. count * w) wide;
  is = p.is ∙ ap (λ w. take (count * w) (drop (from * w) raw)) wide;
}

pub ready_as : (kind k spelt : NcType) (p : Pieces) (first : List ℕ) (count : ℕ) → kind ≡ k → width k ≡ width spelt → is_whole spelt ≡ true → AreInside kind p → count ≤ values_in p → ArePart kind (together kind p) first 0 count → IsInPieces kind spelt p first count
ready_as kind k spelt p first count is_k wide whole inside within part =
    let same : width kind ≡ width spelt = ap width is_k ∙ wide in
    record { inside = inside; wide = same; whole = whole; within = within; part = part_as kind spelt (together kind p) first 0 count same part }

-- the cell of a value is that of its place in a run
pub value_at_run : (kind spelt : NcType) (p : Pieces) (first part : List ℕ) (count from many value at : ℕ) (fills : List ℤ) → IsInPieces kind spelt p first count → ArePart spelt (together kind p) part from many → from + many ≤ values_in p → at < many → from + at ≡ value
    → get_or (stored_cells spelt part fills) at None ≡ get_or (stored_cells spelt (together kind p) fills) value None
value_at_run kind spelt p first part count from many value at fills r a within lt is_value =
    part_at spelt (together kind p) part from many (values_in p) fills at r.whole (pieces_long kind spelt p first count r) within a lt
    ∙ ap (λ k. get_or (stored_cells spelt (together kind p) fills) k None) is_value

pub run_is : (kind spelt : NcType) (p : Pieces) (first part : List ℕ) (held from many start at count : ℕ) (fills : List ℤ) → IsInPieces kind spelt p first held → ArePart spelt (together kind p) part from many → from + many ≤ values_in p
    → at + count ≤ many → from + at ≡ start → length (stored_cells spelt (together kind p) fills) ≤ most_node_cells
    → IsRun (stored_cells spelt (together kind p) fills) (stored_cells spelt part fills) start at count
run_is kind spelt p first part held from many start at count fills r a within inside is_start few =
    let long = part_long spelt (together kind p) part from many fills r.whole a in
    let all = cells_long kind spelt p first held fills r in
    record {
      inside = omega (arith, long, inside);
      few = omega (arith, long, all, within, few);
      same = λ i lt. value_at_run kind spelt p first part held from many (start + i) (at + i) fills r a within (omega (arith, lt, inside)) (omega (arith, is_start));
    }

-- ---- what was absorbed from a run

pub same_cells : {X : Type 0} (f g : ℕ → List X) (n : ℕ) → ((i : ℕ) → i < n → f i ≡ g i) → flat_map f (range_with_len 0 n) ≡ flat_map g (range_with_len 0 n)
same_cells f g zero same = refl
same_cells f g (suc n) same =
    let next : n + 1 ≡ suc n = omega arith in
    subst (λ k. flat_map f (range_with_len 0 k) ≡ flat_map g (range_with_len 0 k)) next
    (sym (range_step f n) ∙ (λ i. same_cells f g n (λ k lt. same k (omega (arith, lt))) i ++ same n (omega arith) i) ∙ range_step g n)

abbrev one : ℕ → Option ℤ → List (ℕ × Option ℤ)
one i c = (i, c) ∷ []

pub run_absorbed : (cells run : List (Option ℤ)) (start first count : ℕ) → IsRun cells run start first count
    → flat_map {A = ℕ × Option ℤ} (λ i. (i, get_or run (first + i) None) ∷ []) (range_with_len 0 count) ≡ flat_map {A = ℕ × Option ℤ} (λ i. (i, get_or cells (start + i) None) ∷ []) (range_with_len 0 count)
run_absorbed cells run start first count r = same_cells (λ i. (i, get_or run (first + i) None) ∷ []) (λ i. (i, get_or cells (start + i) None) ∷ []) count (λ i lt. ap (one i) (r.same i lt))

-- The numbers of a run of values.
use Rattle.std.proofs.Common.{◌≡◌, ◌+◌, ◌-◌, ◌*◌, ◌/◌, ◌<◌, ◌≤◌, ℕ, zero, suc, ℤ, true, List, ◌∷◌, length, map, take, drop, Option, zero-add, refl, sym, ap, ◌∙◌, arith, length-drop}
use Rattle.std.specs.List.{range_with_len}
use Rattle.std.proofs.lemmas.List.{drop-map, take-map, drop-drop, drop-take, take-take, length-take-le}
use Rattle.std.proofs.lemmas.List.FromFn.{take-map-range_with_len}
use Rattle.xr_types.specs.declared.attr.NcType.{NcType}
use Rattle.xr_types.specs.declared.kind.DType.{DType}
use Rattle.xr_arrays.specs.Arrays.{Array}
use Rattle.xr_types.specs.Widths.{width}
use Rattle.xr_types.specs.Points.{size}
use Rattle.xr_arrays.specs.Numbers.{is_whole, number_in, value_at, numbers_of}
use Rattle.xr_arrays.specs.Stored.{unless_fill, stored_cells, stored_array, IsStored}
use Rattle.stored_cells.proofs.Lengths.{share_by}

map_shifted : {X : Type 0} (f g : ℕ → X) (a b k : ℕ) → ((i : ℕ) → i < k → f (a + i) ≡ g (b + i)) → map f (range_with_len a k) ≡ map g (range_with_len b k)
map_shifted f g a b zero h = refl
map_shifted f g a b (suc k) h =
    let x : a + 0 ≡ a = omega arith in
    let y : b + 0 ≡ b = omega arith in
    ap (λ z. z ∷ map f (range_with_len (a + 1) k)) (sym (ap f x) ∙ h 0 (omega arith) ∙ ap g y)
    ∙ ap (λ zs. g b ∷ zs) (map_shifted f g (a + 1) (b + 1) k (λ i lt. let u : a + 1 + i ≡ a + suc i = omega arith in let v : b + 1 + i ≡ b + suc i = omega arith in ap f u ∙ h (suc i) (omega arith) ∙ sym (ap g v)))

drop_range : (k a n : ℕ) → drop k (range_with_len a n) ≡ range_with_len (a + k) (n - k)
drop_range zero a n = let x : a ≡ a + 0 = omega arith in let y : n ≡ n - 0 = omega arith in ap (λ b. range_with_len b n) x ∙ ap (range_with_len (a + 0)) y
drop_range (suc k) a zero = let x : 0 ≡ 0 - suc k = omega arith in ap (range_with_len (a + suc k)) x
drop_range (suc k) a (suc n) =
    let x : a + 1 + k ≡ a + suc k = omega arith in
    let y : n - k ≡ suc n - suc k = omega arith in
    drop_range k (a + 1) n ∙ ap (λ b. range_with_len b (n - k)) x ∙ ap (range_with_len (a + suc k)) y

-- the bytes of a value in a run of values
value_in_run : (raw : List ℕ) (w from count i : ℕ) → i < count → take w (drop (i * w) (take (count * w) (drop (from * w) raw))) ≡ take w (drop ((from + i) * w) raw)
value_in_run raw w from count i lt =
    let rest = (count - (i + 1)) * w in
    let long : count * w ≡ i * w + (w + rest) = split count i w lt in
    let at : from * w + i * w ≡ (from + i) * w = grind arith in
    ap (λ n. take w (drop (i * w) (take n (drop (from * w) raw)))) long
    ∙ ap (take w) (drop-take (i * w) (w + rest) (drop (from * w) raw))
    ∙ take-take w (w + rest) (drop (i * w) (drop (from * w) raw)) (omega arith)
    ∙ ap (take w) (drop-drop (i * w) (from * w) raw ∙ ap (λ n. drop n raw) at)
  where
    split : (count i w : ℕ) → i < count → count * w ≡ i * w + (w + (count - (i + 1)) * w)
    split count i w lt =
        let m = count - (i + 1) in
        let k : count ≡ i + (1 + m) = omega arith in
        let e : (i + (1 + m)) * w ≡ i * w + (w + m * w) = grind arith in
        ap (λ n. n * w) k ∙ e

pub run_length : (raw : List ℕ) (w n from count : ℕ) → length raw ≡ n * w → from + count ≤ n → length (take (count * w) (drop (from * w) raw)) ≡ count * w
run_length raw w n from count long inside =
    let more = n - (from + count) in
    let k : n ≡ from + (count + more) = omega arith in
    let e : (from + (count + more)) * w ≡ from * w + (count * w + more * w) = grind arith in
    let all : length raw ≡ from * w + (count * w + more * w) = long ∙ ap (λ m. m * w) k ∙ e in
    let left : length (drop (from * w) raw) ≡ length raw - from * w = length-drop (from * w) raw in
    length-take-le (count * w) (drop (from * w) raw) (omega arith)

-- the numbers of a run of values are a run of the numbers
pub numbers_in_run : (kind : NcType) (raw : List ℕ) (n from count : ℕ) → is_whole kind ≡ true → length raw ≡ n * width kind → from + count ≤ n
    → numbers_of kind (take (count * width kind) (drop (from * width kind) raw)) ≡ take count (drop from (numbers_of kind raw))
numbers_in_run kind raw n from count is long inside =
    let w = width kind in
    let run = take (count * w) (drop (from * w) raw) in
    let f = λ (i : ℕ). number_in kind (value_at kind run i) in
    let g = λ (i : ℕ). number_in kind (value_at kind raw i) in
    let short : length run / w ≡ count = share_by kind (length run) count is (run_length raw w n from count long inside) in
    let all : length raw / w ≡ n = share_by kind (length raw) n is long in
    ap (λ k. map f (range_with_len 0 k)) short
    ∙ map_shifted f g 0 from count (λ i lt. ap f (zero-add i) ∙ ap (number_in kind) (value_in_run raw w from count i lt))
    ∙ sym (ap (λ k. take count (drop from (map g (range_with_len 0 k)))) all ∙ ap (take count) (drop-map g from (range_with_len 0 n) ∙ ap (map g) (drop_range from 0 n ∙ ap (λ b. range_with_len b (n - from)) (zero-add from))) ∙ take-map-range_with_len g from (n - from) count (omega arith))

pub cells_in_run : (kind : NcType) (raw : List ℕ) (fills : List ℤ) (n from count : ℕ) → is_whole kind ≡ true → length raw ≡ n * width kind → from + count ≤ n
    → stored_cells kind (take (count * width kind) (drop (from * width kind) raw)) fills ≡ take count (drop from (stored_cells kind raw fills))
cells_in_run kind raw fills n from count is long inside =
    let f = unless_fill fills in
    ap (map f) (numbers_in_run kind raw n from count is long inside)
    ∙ sym (ap (take count) (drop-map f from (numbers_of kind raw)) ∙ take-map f count (drop from (numbers_of kind raw)))

-- the array over the bytes of a run of values
pub run_is : (a : Array) (kind : NcType) (raw part : List ℕ) (fills held : List ℤ) (shape : List ℕ) (from count : ℕ) → a ≡ stored_array a.shape kind raw fills → IsStored a.shape kind raw
    → part ≡ take (count * width kind) (drop (from * width kind) raw) → held ≡ fills → from + count ≤ size a.shape
    → stored_array shape kind part held ≡ record { kind = a.kind; shape = shape; cells = take count (drop from a.cells) }
run_is a kind raw part fills held shape from count is stored run is_held inside =
    ap (λ k. array k (stored_cells kind part held)) (sym (ap (λ (b : Array). b.kind) is))
    ∙ ap (array a.kind) (ap (stored_cells kind part) is_held ∙ ap (λ (b : List ℕ). stored_cells kind b fills) run ∙ cells_in_run kind raw fills (size a.shape) from count stored.whole stored.long inside ∙ sym (ap (λ (b : Array). take count (drop from b.cells)) is))
  where
    array : DType → List (Option ℤ) → Array
    array k cells = record { kind = k; shape = shape; cells = cells }

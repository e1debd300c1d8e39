-- The cells that arrays share, in a kind.
use Rattle.std.proofs.Common.{◌≡◌, ◌∙◌, ◌+◌, ℕ, ℤ, List, [], ◌∷◌, ◌++◌, length, map, Option, Some, None, true, refl, sym, ap, subst, arith}
use Rattle.std.proofs.lemmas.Bool.{and_parts}
use Rattle.std.proofs.lemmas.List.FromFn.{length-map-range_with_len, map-range_with_len_more}
use Rattle.std.specs.Prelude.{nat_eq, option_map}
use Rattle.std.specs.Cmp.Lexicographic.{pointwise}
use Rattle.std.specs.List.{range_with_len}
use Rattle.xr_types.specs.Points.{size, tab, IsPoint}
use Rattle.xr_types.specs.declared.kind.DType.{DType}
use Rattle.xr_types.specs.declared.operation.OpKind.TheVariants as ops
use Rattle.xr_arrays.specs.declared.typed.Cells.{Cells}
use Rattle.xr_arrays.specs.Arrays.{Array, at, cell, hidden, kind_of, made, wide}
use Rattle.xr_arrays.specs.Elements.{cast_to, elem}
use Rattle.plan_core.proofs.Tabs.{tab_same}
use Rattle.xr_formulas.proofs.Points.{made_at}
use Rattle.xr_combination.specs.Concat.{first_array}
use Rattle.xr_combination.specs.Merge.{cells_at, shared_array, shared_cell}
use Rattle.xr_combination.specs.Pieces.{as_kind}
use Rattle.xr_merging.specs.Columns.{cast_number, column, have_shape, mask_byte, number_or_zero, shared_byte}
use Rattle.xr_merging.proofs.Columns.{columns_are, same_sizes}

abbrev pub array_like : DType → List ℕ → List (Option ℤ) → Array
array_like t s cells = record { kind = t; shape = s; cells = cells }

-- ---- one cell

shared_map : (f : ℤ → ℤ) (cs : List (Option ℤ)) → shared_cell (map (option_map f) cs) ≡ option_map f (shared_cell cs)
shared_map f [] = refl
shared_map f (None ∷ cs) = shared_map f cs
shared_map f (Some n ∷ cs) = refl

cast_cell : (t : DType) (c : Option ℤ) → cell (cast_to t (number_or_zero c), mask_byte c) ≡ option_map (cast_to t) c
cast_cell t None = refl
cast_cell t (Some n) = refl

-- ---- the cells as they are kept

kept_each : (t : DType) (arrays : List Array) (ks : List ℕ) → hidden (map (cast_number t arrays) ks) (Some (map (shared_byte arrays) ks)) ≡ map (λ k. option_map (cast_to t) (shared_cell (column arrays k))) ks
kept_each t arrays [] = refl
kept_each t arrays (k ∷ ks) =
    ap (λ c. c ∷ hidden (map (cast_number t arrays) ks) (Some (map (shared_byte arrays) ks))) (cast_cell t (shared_cell (column arrays k)))
    ∙ ap (λ cs. option_map (cast_to t) (shared_cell (column arrays k)) ∷ cs) (kept_each t arrays ks)

-- ---- the definition

cast_at : (t : DType) (s : List ℕ) (arrays : List Array) (p : List ℕ) → have_shape s arrays ≡ true → IsPoint s p → cells_at (map (as_kind t) arrays) p ≡ map (option_map (cast_to t)) (cells_at arrays p)
cast_at t s [] p is inside = refl
cast_at t s (a ∷ more) p is inside =
    let both = and_parts (pointwise nat_eq s a.shape) (have_shape s more) is in
    ap (λ c. c ∷ cells_at (map (as_kind t) more) p) (made_at t a.shape (λ q. elem ops.Cast t (at a q) None) p (subst (λ (n : List ℕ). IsPoint n p) (same_sizes s a.shape both.0) inside))
    ∙ ap (λ cs. option_map (cast_to t) (at a p) ∷ cs) (cast_at t s more p both.1 inside)

first_shape : (t : DType) (arrays : List Array) → (first_array (map (as_kind t) arrays)).shape ≡ (first_array arrays).shape
first_shape t [] = refl
first_shape t (a ∷ more) = refl

shared_cells : (t : DType) (s : List ℕ) (arrays : List Array) → have_shape s arrays ≡ true
    → tab s (λ p. shared_cell (cells_at (map (as_kind t) arrays) p)) ≡ map (λ k. option_map (cast_to t) (shared_cell (column arrays k))) (range_with_len 0 (size s))
shared_cells t s arrays is =
    tab_same s (λ p. shared_cell (cells_at (map (as_kind t) arrays) p)) (λ p. option_map (cast_to t) (shared_cell (cells_at arrays p)))
    (λ p inside. ap shared_cell (cast_at t s arrays p is inside) ∙ shared_map (cast_to t) (cells_at arrays p))
    ∙ columns_are s arrays (λ cs. option_map (cast_to t) (shared_cell cs)) is

-- the array of these shared cells and bytes
pub shared_is : (t : DType) (arrays : List Array) (ns : List ℤ) (m : List ℕ) → have_shape (first_array arrays).shape arrays ≡ true → ns ≡ map (cast_number t arrays) (range_with_len 0 (size (first_array arrays).shape))
    → m ≡ map (shared_byte arrays) (range_with_len 0 (size (first_array arrays).shape)) → array_like t (first_array arrays).shape (hidden ns (Some m)) ≡ shared_array t (map (as_kind t) arrays)
shared_is t arrays ns m is of_numbers of_mask =
    let s = (first_array arrays).shape in
    ap (λ cs. array_like t s cs)
    (ap (λ (xs : List ℤ). hidden xs (Some m)) of_numbers ∙ ap (λ (bs : List ℕ). hidden (map (cast_number t arrays) (range_with_len 0 (size s))) (Some bs)) of_mask
    ∙ kept_each t arrays (range_with_len 0 (size s)) ∙ sym (shared_cells t s arrays is))
    ∙ ap (λ (n : List ℕ). made t n (λ p. shared_cell (cells_at (map (as_kind t) arrays) p))) (sym (first_shape t arrays))

-- ---- loops

pub mapped_more : {X : Type 0} (f : ℕ → X) (xs : List X) (n : ℕ) (x : X) → xs ≡ map f (range_with_len 0 n) → x ≡ f n → xs ++ x ∷ [] ≡ map f (range_with_len 0 (n + 1))
mapped_more f xs n x before here =
    ap (λ ys. ys ++ x ∷ []) before ∙ ap (λ y. map f (range_with_len 0 n) ++ y ∷ []) here ∙ sym (map-range_with_len_more f 0 n n (omega arith))

mapped_on : {X Y : Type 0} (g : X → Y) (xs : List X) (x : X) → map g (xs ++ x ∷ []) ≡ map g xs ++ g x ∷ []
mapped_on g [] x = refl
mapped_on g (y ∷ ys) x = ap (λ zs. g y ∷ zs) (mapped_on g ys x)

pub numbers_more : {X Y : Type 0} (g : X → Y) (f : ℕ → Y) (xs : List X) (n : ℕ) (x : X) → map g xs ≡ map f (range_with_len 0 n) → g x ≡ f n → map g (xs ++ x ∷ []) ≡ map f (range_with_len 0 (n + 1))
numbers_more g f xs n x before here = mapped_on g xs x ∙ mapped_more f (map g xs) n (g x) before here

pub mapped_length : {X : Type 0} (f : ℕ → X) (xs : List X) (n : ℕ) → xs ≡ map f (range_with_len 0 n) → length xs ≡ n
mapped_length f xs n is = ap length is ∙ length-map-range_with_len f 0 n

pub same_ints : (v : List ℤ) → map (λ x. x) v ≡ v
same_ints [] = refl
same_ints (x ∷ v) = ap (λ t. x ∷ t) (same_ints v)

-- the call's last step
pub shared_done : (kind : DType) (arrays all : List Array) (shape : List ℕ) (v : Cells) (m : List ℕ) (count : ℕ) (a : Array) → have_shape (first_array arrays).shape arrays ≡ true → all ≡ arrays → count ≡ size (first_array all).shape → shape ≡ (first_array arrays).shape
    → kind_of v ≡ kind → wide v ≡ map (cast_number kind all) (range_with_len 0 count) → m ≡ map (shared_byte all) (range_with_len 0 count) → a ≡ array_like (kind_of v) shape (hidden (wide v) (Some m)) → a ≡ shared_array kind (map (as_kind kind) arrays)
shared_done kind arrays all shape v m count a alike same counted of_shape of_kind of_numbers of_mask is =
    let long : count ≡ size (first_array arrays).shape = counted ∙ ap (λ (more : List Array). size (first_array more).shape) same in
    let numbers : wide v ≡ map (cast_number kind arrays) (range_with_len 0 (size (first_array arrays).shape)) = of_numbers ∙ ap (λ (more : List Array). map (cast_number kind more) (range_with_len 0 count)) same ∙ ap (λ n. map (cast_number kind arrays) (range_with_len 0 n)) long in
    let bytes : m ≡ map (shared_byte arrays) (range_with_len 0 (size (first_array arrays).shape)) = of_mask ∙ ap (λ (more : List Array). map (shared_byte more) (range_with_len 0 count)) same ∙ ap (λ n. map (shared_byte arrays) (range_with_len 0 n)) long in
    is ∙ ap (λ t. array_like t shape (hidden (wide v) (Some m))) of_kind ∙ ap (λ (s : List ℕ). array_like kind s (hidden (wide v) (Some m))) of_shape ∙ shared_is kind arrays (wide v) m alike numbers bytes

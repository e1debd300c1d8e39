-- Parts of lists of cells, and lists that are put together again.
use Rattle.std.proofs.Common.{◌≡◌, ◌<◌, ◌≤◌, ◌+◌, ℕ, ℤ, zero, suc, pos, List, [], ◌∷◌, ◌++◌, length, map, zip, take, drop, replicate, refl, sym, ap, subst, ◌∙◌, arith}
use Rattle.std.specs.Prelude.{Option, Some, None, MatchOption, ⊤, option_map}
use Rattle.std.specs.List.{take-map, drop-map}
use Rattle.std.proofs.lemmas.List.{length-take, length-drop, map-append, length-append, length-replicate}
use Rattle.std.proofs.lemmas.List.Elements.{All-take, All-drop}
use Rattle.std.proofs.Math.Seq.{take-add}
use Rattle.xr_types.specs.Points.{size}
use Rattle.xr_types.specs.declared.kind.DType.{DType}
use Rattle.xr_types.specs.declared.operation.OpKind.{OpKind}
use Rattle.xr_arrays.specs.Arrays.{Array, cell, hidden, kind_of, wide, InKind, IsArray, IsCell}
use Rattle.xr_arrays.specs.Elements.{elem, choose, unary_of, binary_of, choose_of, unary_kind, result_kind}
use Rattle.xr_arrays.specs.declared.typed.Cells.{Cells}
use Rattle.xr_arrays.specs.declared.typed.Cells.TheVariants.{Bool, Char, Int8, Int16, Int32, Int64, UInt8, UInt16, UInt32, UInt64}
use Rattle.plan_core.proofs.Tabs.{zip-append}
use Rattle.cell_strips.specs.Rows.{count, Covers, Parts}
use Rattle.cell_strips.specs.Strips.{strip, cells_strip, joined_masks}
use Rattle.cell_strips.proofs.Places.{count_is, seen_long}
use Rattle.cell_strips.proofs.Results.{AreOf}
use Rattle.cell_strips.proofs.EachCell.{unary_cells, binary_cells, choose_is}

-- ---- two lists side by side

zip-take : {X Y : Type 0} (n : ℕ) (xs : List X) (ys : List Y) → zip (take n xs) (take n ys) ≡ take n (zip xs ys)
zip-take zero xs ys = refl
zip-take (suc n) [] ys = refl
zip-take (suc n) (x ∷ xs) [] = refl
zip-take (suc n) (x ∷ xs) (y ∷ ys) = ap (λ t. (x, y) ∷ t) (zip-take n xs ys)

zip-nil : {X Y : Type 0} (xs : List X) (none : List Y) → none ≡ [] → zip xs none ≡ []
zip-nil [] none is = refl
zip-nil (x ∷ xs) [] is = refl
zip-nil (x ∷ xs) (y ∷ ys) is = absurd cc

zip-drop : {X Y : Type 0} (n : ℕ) (xs : List X) (ys : List Y) → zip (drop n xs) (drop n ys) ≡ drop n (zip xs ys)
zip-drop zero xs ys = refl
zip-drop (suc n) [] ys = refl
zip-drop (suc n) (x ∷ xs) [] = zip-nil (drop n xs) [] refl
zip-drop (suc n) (x ∷ xs) (y ∷ ys) = zip-drop n xs ys

pub mapped_part : {X Y : Type 0} (g : X → Y) (f n : ℕ) (xs : List X) → map g (take n (drop f xs)) ≡ take n (drop f (map g xs))
mapped_part g f n xs = sym (take-map g n (drop f xs)) ∙ ap (take n) (sym (drop-map g f xs))

pub zipped_part : {X Y : Type 0} (f n : ℕ) (xs : List X) (ys : List Y) → zip (take n (drop f xs)) (take n (drop f ys)) ≡ take n (drop f (zip xs ys))
zipped_part f n xs ys = zip-take n (drop f xs) (drop f ys) ∙ ap (take n) (zip-drop f xs ys)

pub part_long : {X : Type 0} (f n m : ℕ) (xs : List X) → length xs ≡ m → f + n ≤ m → length (take n (drop f xs)) ≡ n
part_long f n m xs long inside = let d = length-drop f xs in length-take n (drop f xs) ∙ omega (arith, d, long, inside)

-- ---- cells

wide_part : (f n : ℕ) (c : Cells) → wide (cells_strip f n c) ≡ take n (drop f (wide c))
wide_part f n (Bool v) = mapped_part pos f n v
wide_part f n (Char v) = mapped_part pos f n v
wide_part f n (Int8 v) = refl
wide_part f n (Int16 v) = refl
wide_part f n (Int32 v) = refl
wide_part f n (Int64 v) = refl
wide_part f n (UInt8 v) = mapped_part pos f n v
wide_part f n (UInt16 v) = mapped_part pos f n v
wide_part f n (UInt32 v) = mapped_part pos f n v
wide_part f n (UInt64 v) = mapped_part pos f n v

kind_part : (f n : ℕ) (c : Cells) → kind_of (cells_strip f n c) ≡ kind_of c
kind_part f n (Bool v) = refl
kind_part f n (Char v) = refl
kind_part f n (Int8 v) = refl
kind_part f n (Int16 v) = refl
kind_part f n (Int32 v) = refl
kind_part f n (Int64 v) = refl
kind_part f n (UInt8 v) = refl
kind_part f n (UInt16 v) = refl
kind_part f n (UInt32 v) = refl
kind_part f n (UInt64 v) = refl

range_part : (f n : ℕ) (c : Cells) → InKind c → InKind (cells_strip f n c)
range_part f n (Bool v) small = All-take (λ x. x < 2) n (drop f v) (All-drop (λ x. x < 2) f v small)
range_part f n (Char v) small = tt
range_part f n (Int8 v) small = tt
range_part f n (Int16 v) small = tt
range_part f n (Int32 v) small = tt
range_part f n (Int64 v) small = tt
range_part f n (UInt8 v) small = tt
range_part f n (UInt16 v) small = tt
range_part f n (UInt32 v) small = tt
range_part f n (UInt64 v) small = tt

hidden_part : (f n : ℕ) (xs : List ℤ) (m : Option (List ℕ)) → hidden (take n (drop f xs)) (option_map (λ m. take n (drop f m)) m) ≡ take n (drop f (hidden xs m))
hidden_part f n xs None = mapped_part Some f n xs
hidden_part f n xs (Some m) = ap (map cell) (zipped_part f n xs m) ∙ mapped_part cell f n (zip xs m)

mask_part_long : (f n k : ℕ) (m : Option (List ℕ)) (w : ℕ) → w ≡ n → Covers k m → f + n ≤ k → MatchOption (option_map (λ m. take n (drop f m)) m) (w ≡ n) (λ v. length v ≡ n)
mask_part_long f n k None w is covers inside = is
mask_part_long f n k (Some m) w is covers inside = part_long f n k m covers inside

pub mask_inside : (f n k : ℕ) (m : Option (List ℕ)) → Covers k m → f + n ≤ k → MatchOption m ⊤ (λ v. f + n ≤ length v)
mask_inside f n k None covers inside = tt
mask_inside f n k (Some m) covers inside = omega (arith, covers, inside)

one_axis : (n : ℕ) → n ≡ size (n ∷ [])
one_axis n = grind arith

pub strip_here : (x : Array) (shape : List ℕ) (a c : Cells) (m r : Option (List ℕ)) (f n : ℕ) → Parts x a m → shape ≡ n ∷ [] → f + n ≤ size x.shape → c ≡ cells_strip f n a → r ≡ option_map (λ m. take n (drop f m)) m → AreOf (strip f n x) shape c r
strip_here x shape a c m r f n parts is_shape inside is_c is_r =
    let inside_a : f + n ≤ count a = let w = parts.whole in omega (arith, w, inside) in
    let w : length (wide c) ≡ n = ap (λ t. length (wide t)) is_c ∙ ap length (wide_part f n a) ∙ part_long f n (count a) (wide a) (count_is a) inside_a in
    let s : size shape ≡ n = ap size is_shape ∙ sym (one_axis n) in
    record {
      fits = record {
        whole = w ∙ sym s;
        range = subst InKind (sym is_c) (range_part f n a parts.range);
        mask = subst (λ k. MatchOption r (length (wide c) ≡ k) (λ v. length v ≡ k)) (sym s) (subst (λ t. MatchOption t (length (wide c) ≡ n) (λ v. length v ≡ n)) (sym is_r) (mask_part_long f n (count a) m (length (wide c)) w parts.covers inside_a));
      };
      is = λ i. record {
        kind = (ap kind_of is_c ∙ kind_part f n a ∙ parts.kind) i;
        shape = is_shape i;
        cells = (ap (λ t. hidden (wide t) r) is_c ∙ ap (hidden (wide (cells_strip f n a))) is_r ∙ ap (λ ns. hidden ns (option_map (λ m. take n (drop f m)) m)) (wide_part f n a) ∙ hidden_part f n (wide a) m ∙ ap (λ t. take n (drop f t)) (sym parts.cells)) i;
      };
    }

-- ---- strips of operations on each cell

pub strip_is : (f n : ℕ) (a : Array) → IsArray a → f + n ≤ size a.shape → IsArray (strip f n a)
strip_is f n a is inside = record {
  whole = part_long f n (size a.shape) a.cells is.whole inside ∙ one_axis n;
  range = All-take (IsCell a.kind) n (drop f a.cells) (All-drop (IsCell a.kind) f a.cells is.range);
}

pub strip_of_one : (op : OpKind) (kind : DType) (f n : ℕ) (a : Array) → IsArray a → f + n ≤ size a.shape → unary_of op kind (strip f n a) ≡ strip f n (unary_of op kind a)
strip_of_one op kind f n a is inside = λ i. record { kind = kind; shape = n ∷ []; cells = cells i }
  where
    g : Option ℤ → Option ℤ
    g x = elem op (unary_kind op kind a.kind) x None

    cells : (unary_of op kind (strip f n a)).cells ≡ take n (drop f (unary_of op kind a).cells)
    cells = sym (unary_cells op kind (strip f n a) (take n (drop f a.cells)) (strip_is f n a is inside) refl) ∙ mapped_part g f n a.cells ∙ ap (λ t. take n (drop f t)) (unary_cells op kind a a.cells is refl)

pub strip_of_two : (op : OpKind) (f n : ℕ) (a b : Array) → IsArray a → IsArray b → b.shape ≡ a.shape → f + n ≤ size a.shape
    → binary_of op (result_kind op a.kind) (strip f n a) (strip f n b) ≡ strip f n (binary_of op (result_kind op a.kind) a b)
strip_of_two op f n a b is also shape inside = λ i. record { kind = result_kind op a.kind; shape = n ∷ []; cells = cells i }
  where
    inside_b : f + n ≤ size b.shape
    inside_b = subst (λ s. f + n ≤ size s) (sym shape) inside

    g : Option ℤ × Option ℤ → Option ℤ
    g c = elem op a.kind c.0 c.1

    cells : (binary_of op (result_kind op a.kind) (strip f n a) (strip f n b)).cells ≡ take n (drop f (binary_of op (result_kind op a.kind) a b).cells)
    cells =
        sym (binary_cells op a.kind (strip f n a) (strip f n b) (take n (drop f a.cells)) (take n (drop f b.cells)) (strip_is f n a is inside) (strip_is f n b also inside_b) refl refl refl refl)
        ∙ ap (map g) (zipped_part f n a.cells b.cells) ∙ mapped_part g f n (zip a.cells b.cells)
        ∙ ap (λ t. take n (drop f t)) (binary_cells op a.kind a b a.cells b.cells is also shape refl refl refl)

pub strip_of_choice : (f n : ℕ) (c a b : Array) → IsArray c → IsArray a → IsArray b → c.shape ≡ a.shape → b.shape ≡ a.shape → f + n ≤ size a.shape
    → choose_of (strip f n c) (strip f n a) (strip f n b) ≡ strip f n (choose_of c a b)
strip_of_choice f n c a b test is also tests shape inside = λ i. record { kind = a.kind; shape = n ∷ []; cells = cells i }
  where
    inside_b : f + n ≤ size b.shape
    inside_b = subst (λ s. f + n ≤ size s) (sym shape) inside

    inside_c : f + n ≤ size c.shape
    inside_c = subst (λ s. f + n ≤ size s) (sym tests) inside

    g : Option ℤ × (Option ℤ × Option ℤ) → Option ℤ
    g t = choose t.0 t.1.0 t.1.1

    cells : (choose_of (strip f n c) (strip f n a) (strip f n b)).cells ≡ take n (drop f (choose_of c a b).cells)
    cells =
        sym (choose_is (strip f n c) (strip f n a) (strip f n b) (take n (drop f c.cells)) (take n (drop f a.cells)) (take n (drop f b.cells)) (strip_is f n c test inside_c) (strip_is f n a is inside) (strip_is f n b also inside_b) refl refl refl refl refl)
        ∙ ap (λ t. map g (zip (take n (drop f c.cells)) t)) (zipped_part f n a.cells b.cells) ∙ ap (map g) (zipped_part f n c.cells (zip a.cells b.cells)) ∙ mapped_part g f n (zip c.cells (zip a.cells b.cells))
        ∙ ap (λ t. take n (drop f t)) (choose_is c a b c.cells a.cells b.cells test is also tests shape refl refl refl)

-- ---- strips one after the other

shown_zeros : (xs : List ℤ) → map cell (zip xs (replicate (length xs) 0)) ≡ map Some xs
shown_zeros [] = refl
shown_zeros (x ∷ xs) = ap (λ t. Some x ∷ t) (shown_zeros xs)

pub joined_cells : (xs ys : List ℤ) (m w : Option (List ℕ)) → Covers (length xs) m → Covers (length ys) w → hidden (xs ++ ys) (joined_masks (length xs) (length ys) m w) ≡ hidden xs m ++ hidden ys w
joined_cells xs ys None None long also = map-append Some xs ys
joined_cells xs ys (Some m) (Some w) long also = ap (map cell) (zip-append xs m ys w (sym long)) ∙ map-append cell (zip xs m) (zip ys w)
joined_cells xs ys (Some m) None long also =
    ap (map cell) (zip-append xs m ys (replicate (length ys) 0) (sym long)) ∙ map-append cell (zip xs m) (zip ys (replicate (length ys) 0)) ∙ ap (λ t. map cell (zip xs m) ++ t) (shown_zeros ys)
joined_cells xs ys None (Some w) long also =
    ap (map cell) (zip-append xs (replicate (length xs) 0) ys w (sym (length-replicate (length xs) zero))) ∙ map-append cell (zip xs (replicate (length xs) 0)) (zip ys w) ∙ ap (λ t. t ++ map cell (zip ys w)) (shown_zeros xs)

zeros_behind : (m : List ℕ) (n k : ℕ) → length m ≡ n → length m + length (replicate k zero) ≡ n + k
zeros_behind m n k long = let z : length (replicate k zero) ≡ k = length-replicate k zero in omega (arith, long, z)

zeros_before : (w : List ℕ) (n k : ℕ) → length w ≡ k → length (replicate n zero) + length w ≡ n + k
zeros_before w n k long = let z : length (replicate n zero) ≡ n = length-replicate n zero in omega (arith, long, z)

pub joined_long : (n k : ℕ) (m w : Option (List ℕ)) → Covers n m → Covers k w → Covers (n + k) (joined_masks n k m w)
joined_long n k None None long also = tt
joined_long n k (Some m) (Some w) long also = length-append m w ∙ omega (arith, long, also)
joined_long n k (Some m) None long also = length-append m (replicate k 0) ∙ zeros_behind m n k long
joined_long n k None (Some w) long also = length-append (replicate n 0) w ∙ zeros_before w n k also

-- one strip more
pub strips_more : {X : Type 0} (xs so_far more : List X) (f n : ℕ) → so_far ≡ take f xs → more ≡ so_far ++ take n (drop f xs) → more ≡ take (f + n) xs
strips_more xs so_far more f n is is_more = is_more ∙ ap (λ t. t ++ take n (drop f xs)) is ∙ sym (take-add f n xs)

pub appended_here : (so more new : Cells) (ms mm mn : Option (List ℕ)) (n k : ℕ) (cells : List (Option ℤ)) → Covers (count so) ms → Covers (count more) mm → n ≡ count so → k ≡ count more → wide new ≡ wide so ++ wide more → mn ≡ joined_masks n k ms mm
    → cells ≡ hidden (wide more) mm → hidden (wide new) mn ≡ hidden (wide so) ms ++ cells
appended_here so more new ms mm mn n k cells long also is_n is_k is_new is_mask is_cells =
    ap (λ ns. hidden ns mn) is_new ∙ ap (hidden (wide so ++ wide more)) (is_mask ∙ (λ i. joined_masks ((is_n ∙ sym (count_is so)) i) ((is_k ∙ sym (count_is more)) i) ms mm))
    ∙ joined_cells (wide so) (wide more) ms mm (subst (λ l. Covers l ms) (sym (count_is so)) long) (subst (λ l. Covers l mm) (sym (count_is more)) also) ∙ ap (λ t. hidden (wide so) ms ++ t) (sym is_cells)

pub count_so_far : (c : Cells) (m : Option (List ℕ)) (a : Array) (n : ℕ) → Covers (count c) m → IsArray a → n ≤ size a.shape → hidden (wide c) m ≡ take n a.cells → count c ≡ n
count_so_far c m a n covers is inside cells = let w = is.whole in sym (seen_long c m covers) ∙ ap length cells ∙ length-take n a.cells ∙ omega (arith, w, inside)

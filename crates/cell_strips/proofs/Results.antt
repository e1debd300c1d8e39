-- The cells of results, as arrays.
use Rattle.std.proofs.Common.{◌≡◌, ◌<◌, ℕ, ℤ, zero, suc, pos, max, true, List, length, map, zip, get_or, refl, sym, ap, subst, ◌∙◌, arith}
use Rattle.std.specs.Prelude.{Option, Some, None, MatchOption, option_map}
use Rattle.std.proofs.lemmas.List.{ext_get_or, get_or-map, length-map}
use Rattle.std.proofs.lemmas.Int.{ints}
use Rattle.xr_types.specs.Points.{size}
use Rattle.xr_types.specs.Kinds.{InRange}
use Rattle.xr_types.specs.declared.kind.DType.{DType}
use Rattle.xr_types.specs.declared.kind.DType.TheVariants as kinds
use Rattle.xr_types.specs.declared.operation.OpKind.{OpKind}
use Rattle.xr_types.specs.declared.operation.OpKind.TheVariants as ops
use Rattle.xr_arrays.specs.Arrays.{Array, cell, hidden, seen, kind_of, wide, InKind, IsArray, IsCell}
use Rattle.xr_arrays.specs.Elements.{elem, choose, unary_of, binary_of, choose_of, unary_kind, result_kind, takes_one, takes_two, Gives}
use Rattle.xr_arrays.specs.declared.typed.Cells.{Cells}
use Rattle.xr_arrays.specs.declared.typed.Cells.TheVariants.{Bool}
use Rattle.elem_kernel.specs.Conditions.{IsPlain, IsSign}
use Rattle.elem_kernel.specs.Masks.{first_at_zero}
use Rattle.plan_core.proofs.ElementRanges.{cast_in}
use Rattle.plan_core.proofs.Valued.{binary_is, chosen_is, unary_is}
use Rattle.cell_strips.specs.Rows.{count, number_at, byte_at, Covers, OfTwo, OfOne, Picked, Joined, Parts, Fits}
use Rattle.cell_strips.proofs.Places.{zip_at, zip_long, zip_three_at, zip_three_long, seen_at, seen_long, count_is, truth_at, in_kind}
use Rattle.cell_strips.proofs.CellByCell.{plain_strict, cell_of_two, cell_of_one, sign_strict, sign_takes, sign_kind, sign_gives, sign_in, null_told, there_told, cell_filled, cell_chosen, truth_of_two}
use Rattle.cell_strips.proofs.EachCell.{unary_cells, binary_cells, choose_is}

-- ---- the parts of an array

pub parts_of : {B : Type 0} (now : B → List ℕ) (x : Array) (a : Cells) (o : Option B) → kind_of a ≡ x.kind → InKind a → MatchOption o (x.cells ≡ hidden (wide a) None) (λ m. x.cells ≡ hidden (wide a) (Some (now m)))
    → length (wide a) ≡ size x.shape → MatchOption o (length (wide a) ≡ size x.shape) (λ m. length (now m) ≡ size x.shape) → Parts x a (option_map now o)
parts_of now x a None kind range cells whole mask = record { kind = kind; range = range; whole = sym (count_is a) ∙ whole; cells = cells; covers = tt }
parts_of now x a (Some m) kind range cells whole mask = record { kind = kind; range = range; whole = sym (count_is a) ∙ whole; cells = cells; covers = mask ∙ sym whole ∙ count_is a }

-- ---- the cells of an array

pub record AreOf (b : Array) (shape : List ℕ) (c : Cells) (m : Option (List ℕ)) : Type 0 where
  pub fits : Fits shape c m
  pub is : seen shape c m ≡ b

mask_fits : (m : Option (List ℕ)) (c : Cells) (n k : ℕ) → Covers n m → n ≡ k → length (wide c) ≡ k → MatchOption m (length (wide c) ≡ k) (λ v. length v ≡ k)
mask_fits None c n k covers is w = w
mask_fits (Some v) c n k covers is w = covers ∙ is

pub are_of : (b : Array) (shape : List ℕ) (c : Cells) (m : Option (List ℕ)) → IsArray b → shape ≡ b.shape → kind_of c ≡ b.kind → hidden (wide c) m ≡ b.cells → Covers (count c) m → InKind c → AreOf b shape c m
are_of b shape c m is same kind cells covers range =
    let w : length (wide c) ≡ size shape = count_is c ∙ sym (seen_long c m covers) ∙ ap length cells ∙ is.whole ∙ ap size (sym same) in
    record {
      fits = record { whole = w; range = range; mask = mask_fits m c (count c) (size shape) covers (sym (count_is c) ∙ w) w };
      is = λ i. record { kind = kind i; shape = same i; cells = cells i };
    }

-- ---- lists of cells

pub lists_of_two : (g : Option ℤ → Option ℤ → Option ℤ) (a b c : Cells) (ma mb mc : Option (List ℕ)) → count b ≡ count a → count c ≡ count a → Covers (count a) ma → Covers (count b) mb → Covers (count c) mc
    → ((i : ℕ) → i < count a → cell (number_at c i, byte_at mc i) ≡ g (cell (number_at a i, byte_at ma i)) (cell (number_at b i, byte_at mb i)))
    → hidden (wide c) mc ≡ map (λ x. g x.0 x.1) (zip (hidden (wide a) ma) (hidden (wide b) mb))
lists_of_two g a b c ma mb mc long_b long_c in_a in_b in_c each =
    let xs = hidden (wide a) ma in let ys = hidden (wide b) mb in
    let la = seen_long a ma in_a in let lb = seen_long b mb in_b in let lc = seen_long c mc in_c in
    ext_get_or None (hidden (wide c) mc) (map (λ x. g x.0 x.1) (zip xs ys)) (lc ∙ long_c ∙ sym la ∙ sym (zip_long (λ x. g x.0 x.1) xs ys (lb ∙ long_b ∙ sym la)))
    (λ i lt. seen_at c mc i in_c (omega (arith, lt, lc)) ∙ each i (omega (arith, lt, lc, long_c))
    ∙ (λ j. g (sym (seen_at a ma i in_a (omega (arith, lt, lc, long_c))) j) (sym (seen_at b mb i in_b (omega (arith, lt, lc, long_c, long_b))) j))
    ∙ sym (zip_at (λ x. g x.0 x.1) xs ys i None None None (omega (arith, lt, lc, long_c, la)) (omega (arith, lt, lc, long_c, long_b, lb))))

-- ---- operations on two numbers

covers_as : (m : Option (List ℕ)) (n k : ℕ) → Covers n m → k ≡ n → Covers k m
covers_as m n k covers is = subst (λ l. Covers l m) (sym is) covers

pub operated_here : (op : OpKind) (x y : Array) (shape : List ℕ) (a b c : Cells) (ma mb mc : Option (List ℕ)) → IsPlain op → takes_two op ≡ true → IsArray x → IsArray y → y.shape ≡ x.shape → y.kind ≡ x.kind → shape ≡ x.shape → Parts x a ma → Parts y b mb
    → kind_of c ≡ result_kind op (kind_of a) → count c ≡ count a → OfTwo op (kind_of a) a b c → Covers (count a) mc → Joined (count a) ma mb mc → AreOf (binary_of op (result_kind op x.kind) x y) shape c mc
operated_here op x y shape a b c ma mb mc plain two is also shapes alike same pa pb kind long cells covers masks =
    let t : DType = kind_of a in
    let long_b : count b ≡ count a = pb.whole ∙ ap size shapes ∙ sym pa.whole in
    let inside : Covers (count c) mc = covers_as mc (count a) (count c) covers long in
    let strict = plain_strict op t plain in
    let lists : hidden (wide c) mc ≡ map (λ x. elem op t x.0 x.1) (zip (hidden (wide a) ma) (hidden (wide b) mb)) =
    lists_of_two (elem op t) a b c ma mb mc long_b long pa.covers pb.covers inside
    (λ i lt. cell_of_two op t strict (byte_at ma i) (byte_at mb i) (byte_at mc i) (number_at a i) (number_at b i) (number_at c i) (masks i lt) (cells i lt)) in
    are_of (binary_of op (result_kind op x.kind) x y) shape c mc (binary_is op x y two alike is also) same (kind ∙ ap (result_kind op) pa.kind)
    (lists ∙ binary_cells op t x y (hidden (wide a) ma) (hidden (wide b) mb) is also shapes pa.kind (sym pa.cells) (sym pb.cells)) inside
    (in_kind c (λ e i lt. let below : i < count a = omega (arith, lt, long) in subst (IsCell kinds.Bool) (sym (cells i below))
    (truth_of_two op t (number_at a i) (number_at b i) two
    (λ k. (truth_at a i k pa.range below, truth_at b i (pb.kind ∙ alike ∙ sym pa.kind ∙ k) pb.range (omega (arith, below, long_b)))) (sym kind ∙ e))))

one_of : (b : ℕ) (m n : ℤ) → InRange kinds.Bool m → InRange kinds.Bool n → InRange kinds.Bool (first_at_zero b m n)
one_of zero m n i j = i
one_of (suc b) m n i j = j

-- ---- `fillna`

pub filled_here : (x y : Array) (shape : List ℕ) (a b c : Cells) (ma mb mc : Option (List ℕ)) (by : List ℕ) → IsArray x → IsArray y → y.shape ≡ x.shape → y.kind ≡ x.kind → shape ≡ x.shape → Parts x a ma → Parts y b mb
    → kind_of c ≡ kind_of a → count c ≡ count a → ((i : ℕ) → i < count a → get_or by i 0 ≡ byte_at ma i) → Picked (λ i. get_or by i 0) a b c → Covers (count a) mc
    → ((i : ℕ) → i < count a → byte_at mc i ≡ first_at_zero (get_or by i 0) 0 (byte_at mb i)) → AreOf (binary_of ops.FillNa x.kind x y) shape c mc
filled_here x y shape a b c ma mb mc by is also shapes alike same pa pb kind long bytes cells covers masks =
    let t : DType = kind_of a in
    let long_b : count b ≡ count a = pb.whole ∙ ap size shapes ∙ sym pa.whole in
    let inside : Covers (count c) mc = covers_as mc (count a) (count c) covers long in
    let lists : hidden (wide c) mc ≡ map (λ x. elem ops.FillNa t x.0 x.1) (zip (hidden (wide a) ma) (hidden (wide b) mb)) =
    lists_of_two (elem ops.FillNa t) a b c ma mb mc long_b long pa.covers pb.covers inside
    (λ i lt. cell_filled (byte_at ma i) (byte_at mb i) (byte_at mc i) (number_at a i) (number_at b i) (number_at c i) (masks i lt ∙ ap (λ k. first_at_zero k 0 (byte_at mb i)) (bytes i lt)) (cells i lt ∙ ap (λ k. first_at_zero k (number_at a i) (number_at b i)) (bytes i lt))) in
    are_of (binary_of ops.FillNa x.kind x y) shape c mc (binary_is ops.FillNa x y refl alike is also) same (kind ∙ pa.kind)
    (lists ∙ binary_cells ops.FillNa t x y (hidden (wide a) ma) (hidden (wide b) mb) is also shapes pa.kind (sym pa.cells) (sym pb.cells)) inside
    (in_kind c (λ e i lt. let below : i < count a = omega (arith, lt, long) in subst (InRange kinds.Bool) (sym (cells i below))
    (one_of (get_or by i 0) (number_at a i) (number_at b i) (truth_at a i (sym kind ∙ e) pa.range below) (truth_at b i (pb.kind ∙ alike ∙ sym pa.kind ∙ sym kind ∙ e) pb.range (omega (arith, below, long_b))))))

-- ---- choices

lists_of_three : (k a b c : Cells) (mk ma mb mc : Option (List ℕ)) → count k ≡ count a → count b ≡ count a → count c ≡ count a → Covers (count k) mk → Covers (count a) ma → Covers (count b) mb → Covers (count c) mc
    → ((i : ℕ) → i < count a → cell (number_at c i, byte_at mc i) ≡ choose (cell (number_at k i, byte_at mk i)) (cell (number_at a i, byte_at ma i)) (cell (number_at b i, byte_at mb i)))
    → hidden (wide c) mc ≡ map (λ x. choose x.0 x.1.0 x.1.1) (zip (hidden (wide k) mk) (zip (hidden (wide a) ma) (hidden (wide b) mb)))
lists_of_three k a b c mk ma mb mc long_k long_b long_c in_k in_a in_b in_c each =
    let ks = hidden (wide k) mk in let xs = hidden (wide a) ma in let ys = hidden (wide b) mb in
    let g : Option ℤ × (Option ℤ × Option ℤ) → Option ℤ = λ x. choose x.0 x.1.0 x.1.1 in
    let lk = seen_long k mk in_k in let la = seen_long a ma in_a in let lb = seen_long b mb in_b in let lc = seen_long c mc in_c in
    ext_get_or None (hidden (wide c) mc) (map g (zip ks (zip xs ys))) (lc ∙ long_c ∙ sym long_k ∙ sym lk ∙ sym (zip_three_long g ks xs ys (la ∙ sym long_k ∙ sym lk) (lb ∙ long_b ∙ sym long_k ∙ sym lk)))
    (λ i lt. seen_at c mc i in_c (omega (arith, lt, lc)) ∙ each i (omega (arith, lt, lc, long_c))
    ∙ (λ j. choose (sym (seen_at k mk i in_k (omega (arith, lt, lc, long_c, long_k))) j) (sym (seen_at a ma i in_a (omega (arith, lt, lc, long_c))) j) (sym (seen_at b mb i in_b (omega (arith, lt, lc, long_c, long_b))) j))
    ∙ sym (zip_three_at g ks xs ys i None None None None (omega (arith, lt, lc, long_c, long_k, lk)) (omega (arith, lt, lc, long_c, la)) (omega (arith, lt, lc, long_c, long_b, lb))))

pub chosen_here : (z x y : Array) (shape : List ℕ) (k a b c : Cells) (by : List ℕ) (mk ma mb mp mc : Option (List ℕ)) → IsArray z → IsArray x → IsArray y → z.shape ≡ x.shape → y.shape ≡ x.shape → y.kind ≡ x.kind → shape ≡ x.shape → Parts z k mk → Parts x a ma → Parts y b mb
    → k ≡ Bool by → kind_of c ≡ kind_of b → count c ≡ count b → Picked (λ i. get_or by i 0) b a c → Covers (length by) mc
    → ((i : ℕ) → i < length by → byte_at mp i ≡ first_at_zero (get_or by i 0) (byte_at mb i) (byte_at ma i)) → Joined (length by) mk mp mc → AreOf (choose_of z x y) shape c mc
chosen_here z x y shape k a b c by mk ma mb mp mc test is also tests shapes alike same pk pa pb truths kind long cells covers picks masks =
    let long_b : count b ≡ count a = pb.whole ∙ ap size shapes ∙ sym pa.whole in
    let long_k : count k ≡ count a = pk.whole ∙ ap size tests ∙ sym pa.whole in
    let long_by : length by ≡ count a = sym (ap count truths) ∙ long_k in
    let long_c : count c ≡ count a = long ∙ long_b in
    let inside : Covers (count c) mc = covers_as mc (length by) (count c) covers (long_c ∙ sym long_by) in
    let lists : hidden (wide c) mc ≡ map (λ x. choose x.0 x.1.0 x.1.1) (zip (hidden (wide k) mk) (zip (hidden (wide a) ma) (hidden (wide b) mb))) =
    lists_of_three k a b c mk ma mb mc long_k long_b long_c pk.covers pa.covers pb.covers inside
    (λ i lt. cell_chosen (get_or by i 0) (byte_at ma i) (byte_at mb i) (byte_at mk i) (byte_at mc i) (number_at a i) (number_at b i) (number_at c i) (masks i (omega (arith, lt, long_by)) ∙ ap (max (byte_at mk i)) (picks i (omega (arith, lt, long_by)))) (cells i (omega (arith, lt, long_b)))
    ∙ ap (λ n. choose (cell (n, byte_at mk i)) (cell (number_at a i, byte_at ma i)) (cell (number_at b i, byte_at mb i))) (sym (ap (λ c. number_at c i) truths))) in
    are_of (choose_of z x y) shape c mc (chosen_is z x y alike is also) same (kind ∙ pb.kind ∙ alike)
    (lists ∙ choose_is z x y (hidden (wide k) mk) (hidden (wide a) ma) (hidden (wide b) mb) test is also tests shapes (sym pk.cells) (sym pa.cells) (sym pb.cells)) inside
    (in_kind c (λ e i lt. let below : i < count b = omega (arith, lt, long) in subst (InRange kinds.Bool) (sym (cells i below))
    (one_of (get_or by i 0) (number_at b i) (number_at a i) (truth_at b i (sym kind ∙ e) pb.range below) (truth_at a i (pa.kind ∙ sym alike ∙ sym pb.kind ∙ sym kind ∙ e) pa.range (omega (arith, below, long_b))))))

-- ---- operations of one operand

lists_of_one : (g : Option ℤ → Option ℤ) (a c : Cells) (ma mc : Option (List ℕ)) → count c ≡ count a → Covers (count a) ma → Covers (count c) mc
    → ((i : ℕ) → i < count a → cell (number_at c i, byte_at mc i) ≡ g (cell (number_at a i, byte_at ma i))) → hidden (wide c) mc ≡ map g (hidden (wide a) ma)
lists_of_one g a c ma mc long in_a in_c each =
    let xs = hidden (wide a) ma in
    let la = seen_long a ma in_a in let lc = seen_long c mc in_c in
    ext_get_or None (hidden (wide c) mc) (map g xs) (lc ∙ long ∙ sym la ∙ sym (length-map xs g))
    (λ i lt. seen_at c mc i in_c (omega (arith, lt, lc)) ∙ each i (omega (arith, lt, lc, long)) ∙ ap g (sym (seen_at a ma i in_a (omega (arith, lt, lc, long)))) ∙ sym (get_or-map g xs i None None (omega (arith, lt, lc, long, la))))

unary_made : (op : OpKind) (kind : DType) (x : Array) (shape : List ℕ) (a c : Cells) (ma mc : Option (List ℕ)) → takes_one op ≡ true → Gives op kind x.kind → IsArray x → shape ≡ x.shape → Parts x a ma → kind_of c ≡ kind → count c ≡ count a → Covers (count c) mc → InKind c
    → ((i : ℕ) → i < count a → cell (number_at c i, byte_at mc i) ≡ elem op (unary_kind op kind x.kind) (cell (number_at a i, byte_at ma i)) None) → AreOf (unary_of op kind x) shape c mc
unary_made op kind x shape a c ma mc one gives is same pa kinds long covers range each =
    are_of (unary_of op kind x) shape c mc (unary_is op kind x one gives is) same kinds
    (lists_of_one (λ v. elem op (unary_kind op kind x.kind) v None) a c ma mc long pa.covers covers each ∙ unary_cells op kind x (hidden (wide a) ma) is (sym pa.cells)) covers range

pub turned_here : (op : OpKind) (kind : DType) (x : Array) (shape : List ℕ) (a c : Cells) (ma mc : Option (List ℕ)) → IsSign op → Gives op kind x.kind → IsArray x → shape ≡ x.shape → Parts x a ma → kind_of c ≡ kind_of a → count c ≡ count a → OfOne op (kind_of a) a c → mc ≡ ma
    → AreOf (unary_of op kind x) shape c mc
turned_here op kind x shape a c ma mc sign gives is same pa alike long cells masks =
    let t : DType = kind_of a in
    unary_made op kind x shape a c ma mc (sign_takes op sign) gives is same pa (alike ∙ pa.kind ∙ sym (sign_gives op kind x.kind sign gives)) long (subst (λ m. Covers (count c) m) (sym masks) (covers_as ma (count a) (count c) pa.covers long))
    (in_kind c (λ e i lt. subst (IsCell kinds.Bool) (sym (cells i (omega (arith, lt, long)))) (subst (λ k. IsCell k (elem op t (Some (number_at a i)) None)) (sym alike ∙ e) (sign_in op t (Some (number_at a i)) sign))))
    (λ i lt. cell_of_one op t (sign_strict op t sign) (byte_at ma i) (byte_at mc i) (number_at a i) (number_at c i) (ap (λ m. byte_at m i) masks) (cells i lt)
    ∙ ap (λ k. elem op k (cell (number_at a i, byte_at ma i)) None) (pa.kind ∙ sym (sign_kind op kind x.kind sign)))

pub cast_here : (kind : DType) (x : Array) (shape : List ℕ) (a c : Cells) (ma mc : Option (List ℕ)) → IsArray x → shape ≡ x.shape → Parts x a ma → kind_of c ≡ kind → count c ≡ count a → OfOne ops.Cast kind a c → mc ≡ ma → AreOf (unary_of ops.Cast kind x) shape c mc
cast_here kind x shape a c ma mc is same pa alike long cells masks =
    unary_made ops.Cast kind x shape a c ma mc refl tt is same pa alike long (subst (λ m. Covers (count c) m) (sym masks) (covers_as ma (count a) (count c) pa.covers long))
    (in_kind c (λ e i lt. subst (IsCell kinds.Bool) (sym (cells i (omega (arith, lt, long)))) (subst (λ k. IsCell k (elem ops.Cast kind (Some (number_at a i)) None)) (sym alike ∙ e) (cast_in kind (Some (number_at a i))))))
    (λ i lt. cell_of_one ops.Cast kind refl (byte_at ma i) (byte_at mc i) (number_at a i) (number_at c i) (ap (λ m. byte_at m i) masks) (cells i lt))

told_truth : (b k : ℕ) → (b < 2) → (k < 2) → (m : ℕ) → IsCell kinds.Bool (Some (pos (first_at_zero m b k)))
told_truth b k small also zero = (omega (arith, ints), omega (arith, ints, small))
told_truth b k small also (suc m) = (omega (arith, ints), omega (arith, ints, also))

pub null_here : (x : Array) (shape : List ℕ) (a : Cells) (v : List ℕ) (ma : Option (List ℕ)) → IsArray x → shape ≡ x.shape → Parts x a ma → length v ≡ count a → ((i : ℕ) → i < count a → get_or v i 0 ≡ first_at_zero (byte_at ma i) 0 1) → AreOf (unary_of ops.IsNull kinds.Bool x) shape (Bool v) None
null_here x shape a v ma is same pa long bytes =
    unary_made ops.IsNull kinds.Bool x shape a (Bool v) ma None refl refl is same pa refl long tt
    (in_kind (Bool v) (λ e i lt. subst (λ n. IsCell kinds.Bool (Some (pos n))) (sym (bytes i (omega (arith, lt, long)))) (told_truth 0 1 (omega arith) (omega arith) (byte_at ma i))))
    (λ i lt. ap (λ n. Some (pos n)) (bytes i lt) ∙ null_told x.kind (number_at a i) (byte_at ma i))

pub there_here : (x : Array) (shape : List ℕ) (a : Cells) (v : List ℕ) (ma : Option (List ℕ)) → IsArray x → shape ≡ x.shape → Parts x a ma → length v ≡ count a → ((i : ℕ) → i < count a → get_or v i 0 ≡ first_at_zero (byte_at ma i) 1 0) → AreOf (unary_of ops.NotNull kinds.Bool x) shape (Bool v) None
there_here x shape a v ma is same pa long bytes =
    unary_made ops.NotNull kinds.Bool x shape a (Bool v) ma None refl refl is same pa refl long tt
    (in_kind (Bool v) (λ e i lt. subst (λ n. IsCell kinds.Bool (Some (pos n))) (sym (bytes i (omega (arith, lt, long)))) (told_truth 1 0 (omega arith) (omega arith) (byte_at ma i))))
    (λ i lt. ap (λ n. Some (pos n)) (bytes i lt) ∙ there_told x.kind (number_at a i) (byte_at ma i))

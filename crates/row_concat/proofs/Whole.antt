-- Arrays of files whose bytes are put together.
use Rattle.std.proofs.Common.{◌≡◌, ◌<◌, ◌≤◌, ◌+◌, ◌-◌, ◌*◌, ◌%◌, ◌^◌, ℕ, ℤ, zero, suc, true, List, [], ◌∷◌, ◌++◌, length, map, take, drop, set, sum, min, get_or, Option, refl, sym, ap, subst, ◌∙◌, arith, length-append, inl, inr}
use Rattle.std.specs.List.{All, flat_map, range_with_len}
use Rattle.std.proofs.Math.Nat.{mul-mod_right}
use Rattle.std.proofs.lemmas.Bool.{cases_lt}
use Rattle.std.proofs.lemmas.List.{nil_from_length, length-map, map-append, take_more}
use Rattle.std.proofs.lemmas.List.Elements.{All-head, All-tail, All-cons}
use Rattle.xr_types.specs.declared.attr.NcType.{NcType}
use Rattle.xr_types.specs.declared.kind.DType.{DType}
use Rattle.xr_types.specs.Widths.{width}
use Rattle.xr_types.specs.Points.{size}
use Rattle.xr_arrays.specs.Arrays.{Array}
use Rattle.xr_arrays.specs.Numbers.{is_whole, cells_kind}
use Rattle.xr_arrays.specs.Nodes.{Continues, end_to_end, concatenated, first_array, most_node_cells}
use Rattle.xr_arrays.specs.Stored.{stored_cells, stored_array, IsStored}
use Rattle.stored_cells.proofs.Lengths.{share_by, whole_stored}
use Rattle.plan_core.specs.Joins.{joined_total}
use Rattle.plan_core.proofs.Tabs.{tab-length}
use Rattle.plan_core.proofs.Takes.{positive}
use Rattle.plan_core.proofs.Blocks.{array}
use Rattle.plan_core.proofs.Joins.{cut_is, sum_total}
use Rattle.plan_core.proofs.Concats.{IsPart, part_is, counts_of, cells_of, concat_is, all_mapped}
use Rattle.row_concat.specs.Blocks.{block, rows}
use Rattle.row_concat.specs.Spelt.{Spells, AllSpell}
use Rattle.row_concat.proofs.Turns.{cells_in, part_size, rows_joined}
use Rattle.row_concat.proofs.Stands.{Stands, none, both, block_stands, cells-length}

pub whole : (kind : NcType) (fills : List ℤ) (raw : List ℕ) (b : Array) → Spells kind fills raw b → length b.cells ≡ size b.shape
whole kind fills raw b s = whole_stored b kind raw fills s.is s.stored

parts : (kind : NcType) (fills : List ℤ) (raws : List (List ℕ)) (bs : List Array) (a : Array) (axis : ℕ) → AllSpell kind fills raws bs → All (Continues axis a) bs → All (IsPart a.shape axis) bs
parts kind fills [] [] a axis spell each = λ k d lt. absurd (omega arith)
parts kind fills [] (b ∷ bs) a axis spell each = absurd spell
parts kind fills (raw ∷ raws) [] a axis spell each = absurd spell
parts kind fills (raw ∷ raws) (b ∷ bs) a axis spell each =
    All-cons (IsPart a.shape axis) b bs (part_is axis a b (All-head (Continues axis a) b bs each) (whole kind fills raw b spell.0)) (parts kind fills raws bs a axis spell.1 (All-tail (Continues axis a) b bs each))

row : (kind : NcType) (fills : List ℤ) (raws : List (List ℕ)) (bs : List Array) (s : List ℕ) (axis o : ℕ) → is_whole kind ≡ true → axis < length s → AllSpell kind fills raws bs → All (IsPart s axis) bs → o < size (take axis s)
    → Stands kind fills (flat_map (block (size (take axis s)) o) raws) (flat_map (block (size (take axis s)) o) (cells_in bs))
row kind fills [] [] s axis o is lt spell parts below = none kind fills is
row kind fills [] (b ∷ bs) s axis o is lt spell parts below = absurd spell
row kind fills (raw ∷ raws) [] s axis o is lt spell parts below = absurd spell
row kind fills (raw ∷ raws) (b ∷ bs) s axis o is lt spell parts below =
    let outer = size (take axis s) in
    let k = get_or b.shape axis 0 * size (drop (suc axis) s) in
    let here = spell.0 in
    let count : size b.shape ≡ outer * k = sym (whole kind fills raw b here) ∙ part_size s axis b lt (All-head (IsPart s axis) b bs parts) in
    both kind fills (block outer o raw) (flat_map (block outer o) raws) (block outer o b.cells) (flat_map (block outer o) (cells_in bs)) is
    (block_stands kind fills raw b.cells outer k o is (here.stored.long ∙ ap (λ n. n * width kind) count) (sym (ap (λ (a : Array). a.cells) here.is)) below)
    (row kind fills raws bs s axis o is lt spell.1 (All-tail (IsPart s axis) b bs parts) below)

in_rows : (kind : NcType) (fills : List ℤ) (f : ℕ → List ℕ) (g : ℕ → List (Option ℤ)) (a n m : ℕ) → is_whole kind ≡ true → a + n ≤ m → ((o : ℕ) → o < m → Stands kind fills (f o) (g o))
    → Stands kind fills (flat_map f (range_with_len a n)) (flat_map g (range_with_len a n))
in_rows kind fills f g a zero m is le each = none kind fills is
in_rows kind fills f g a (suc n) m is le each =
    both kind fills (f a) (flat_map f (range_with_len (a + 1) n)) (g a) (flat_map g (range_with_len (a + 1) n)) is (each a (omega (arith, le))) (in_rows kind fills f g (a + 1) n m is (omega (arith, le)) each)

-- how many bytes there are
counted : (kind : NcType) (fills : List ℤ) (raws : List (List ℕ)) (bs : List Array) → AllSpell kind fills raws bs → joined_total (map length raws) ≡ length (cells_of bs) * width kind
counted kind fills [] [] spell = grind arith
counted kind fills [] (b ∷ bs) spell = absurd spell
counted kind fills (raw ∷ raws) [] spell = absurd spell
counted kind fills (raw ∷ raws) (b ∷ bs) spell =
    let w = width kind in
    let rest = counted kind fills raws bs spell.1 in
    let here : length raw ≡ length b.cells * w = spell.0.stored.long ∙ ap (λ n. n * w) (sym (whole kind fills raw b spell.0)) in
    let e : (length b.cells + length (cells_of bs)) * w ≡ length b.cells * w + length (cells_of bs) * w = grind arith in
    omega (arith, rest, here, e) ∙ sym (ap (λ n. n * w) (length-append b.cells (cells_of bs)))

-- ---- what a list refers to

first : {B : Type 0} (now : B → Array) (xs : List B) (x : B) → 0 < length xs → x ≡ get_or xs 0 x → now x ≡ first_array (map now xs)
first now [] x some is = absurd (omega arith)
first now (y ∷ xs) x some is = ap now is

pub first_shape : {B : Type 0} (now : B → Array) (xs : List B) (x : B) (axis : ℕ) (sizes : List ℕ) → 0 < length xs → x ≡ get_or xs 0 x → sizes ≡ (now x).shape → axis < length (first_array (map now xs)).shape → axis < length sizes
first_shape now xs x axis sizes some is_x is lt = subst (λ (s : List ℕ). axis < length s) (sym (is ∙ ap (λ (a : Array). a.shape) (first now xs x some is_x))) lt

counts_mapped : {B : Type 0} (now : B → Array) (axis : ℕ) (xs : List B) → map (λ b. get_or (now b).shape axis 0) xs ≡ counts_of axis (map now xs)
counts_mapped now axis [] = refl
counts_mapped now axis (x ∷ xs) = ap (λ t. get_or (now x).shape axis 0 ∷ t) (counts_mapped now axis xs)

lengths_mapped : {R : Type 0} (at : R → List ℕ) (rs : List R) → joined_total (map (λ r. length (at r)) rs) ≡ joined_total (map length (map at rs))
lengths_mapped at [] = refl
lengths_mapped at (r ∷ rs) = ap (λ n. length (at r) + n) (lengths_mapped at rs)

pub mapped : {R X Y : Type 0} (f : X → List Y) (at : R → X) (rs : List R) → flat_map (λ r. f (at r)) rs ≡ flat_map f (map at rs)
mapped f at [] = refl
mapped f at (r ∷ rs) = ap (λ t. f (at r) ++ t) (mapped f at rs)

-- ---- which bytes spell which arrays

pub spells : (kind held : NcType) (fills numbers : List ℤ) (raw bytes : List ℕ) (a b : Array) → b ≡ a → held ≡ kind → numbers ≡ fills → raw ≡ bytes → b ≡ stored_array b.shape held bytes numbers → IsStored b.shape held bytes → Spells kind fills raw a
spells kind held fills numbers raw bytes a b is_a is_kind is_fills is_raw is stored =
    subst (Spells kind fills raw) is_a (subst (λ (k : NcType). Spells k fills raw b) is_kind (subst (λ (n : List ℤ). Spells held n raw b) is_fills (subst (λ (r : List ℕ). Spells held numbers r b) (sym is_raw) (record { is = is; stored = stored }))))

one_more : (kind : NcType) (fills : List ℤ) (raws : List (List ℕ)) (bs : List Array) (raw : List ℕ) (b : Array) → AllSpell kind fills raws bs → Spells kind fills raw b → AllSpell kind fills (raws ++ raw ∷ []) (bs ++ b ∷ [])
one_more kind fills [] [] raw b all here = (here, tt)
one_more kind fills [] (c ∷ bs) raw b all here = absurd all
one_more kind fills (r ∷ raws) [] raw b all here = absurd all
one_more kind fills (r ∷ raws) (c ∷ bs) raw b all here = (all.0, one_more kind fills raws bs raw b all.1 here)

pub spell_more : {B R : Type 0} (kind : NcType) (fills : List ℤ) (at : R → List ℕ) (now : B → Array) (rs more : List R) (r : R) (xs : List B) (i : ℕ) (x : B) → i < length xs → x ≡ get_or xs i x → more ≡ rs ++ r ∷ [] → Spells kind fills (at r) (now x) → AllSpell kind fills (map at rs) (map now (take i xs))
    → AllSpell kind fills (map at more) (map now (take (i + 1) xs))
spell_more kind fills at now rs more r xs i x lt is is_more here so_far =
    let raws : map at more ≡ map at rs ++ at r ∷ [] = ap (map at) is_more ∙ map-append at rs (r ∷ []) in
    let arrays : map now (take (i + 1) xs) ≡ map now (take i xs) ++ now x ∷ [] =
    ap (map now) (take_more xs i x lt ∙ ap (λ y. take i xs ++ y ∷ []) (sym is)) ∙ map-append now (take i xs) (x ∷ []) in
    subst (λ (l : List (List ℕ)). AllSpell kind fills l (map now (take (i + 1) xs))) (sym raws) (subst (AllSpell kind fills (map at rs ++ at r ∷ [])) (sym arrays) (one_more kind fills (map at rs) (map now (take i xs)) (at r) (now x) so_far here))

-- ---- the whole

pub record IsWhole (kind : NcType) (fills : List ℤ) (bs : List Array) (axis : ℕ) (shape raw : List ℕ) : Type 0 where
  pub stored : IsStored shape kind raw
  pub is : stored_array shape kind raw fills ≡ concatenated bs axis

typed : (kind : NcType) (fills : List ℤ) (raws : List (List ℕ)) (bs : List Array) → 0 < length bs → AllSpell kind fills raws bs → (is_whole kind ≡ true) × (cells_kind kind ≡ (first_array bs).kind)
typed kind fills [] [] some spell = absurd (omega arith)
typed kind fills [] (b ∷ bs) some spell = absurd spell
typed kind fills (raw ∷ raws) [] some spell = absurd spell
typed kind fills (raw ∷ raws) (b ∷ bs) some spell = (spell.0.stored.whole, sym (ap (λ (a : Array). a.kind) spell.0.is))

-- no bytes are no cells
no_cells : (kind : NcType) (total count : ℕ) → is_whole kind ≡ true → total ≡ count * width kind → total ≡ 0 → count ≡ 0
no_cells kind total count is is_total none =
    let zero_is : 0 ≡ 0 * width kind = grind arith in
    sym (share_by kind total count is is_total) ∙ share_by kind total 0 is (none ∙ zero_is)

-- the rows of bytes spell the cells
stands : (kind : NcType) (fills : List ℤ) (raws : List (List ℕ)) (bs : List Array) (axis total outer : ℕ) → is_whole kind ≡ true → axis < length (first_array bs).shape → AllSpell kind fills raws bs → All (IsPart (first_array bs).shape axis) bs → size (concatenated bs axis).shape ≤ most_node_cells
    → total ≡ length (cells_of bs) * width kind → (total ≡ 0 → outer ≡ 0) → (0 < total → outer ≡ min (size (take axis (first_array bs).shape)) (2 ^ 64 - 1)) → Stands kind fills (rows outer raws) (concatenated bs axis).cells
stands kind fills raws bs axis total outer is lt spell parts small is_total none_is some_is =
    let s : List ℕ = (first_array bs).shape in
    let all = cells_of bs in
    let made = concat_is bs axis lt parts small in
    let cells : List (Option ℤ) = (concatenated bs axis).cells in
    elim (cases_lt 0 total) [
      | inl some ↦
          let more : 0 < length all * width kind = omega (arith, some, is_total) in
          let cut = cut_is s (take axis s) (drop (axis + 1) s) axis (counts_of axis bs) (length all) outer (min (size (drop (axis + 1) s)) (2 ^ 64 - 1)) made.joining refl refl (some_is some) refl (positive (length all) (width kind) more).0 in
          let here : Stands kind fills (rows (size (take axis s)) raws) (rows (size (take axis s)) (cells_in bs)) =
          in_rows kind fills (λ o. flat_map (block (size (take axis s)) o) raws) (λ o. flat_map (block (size (take axis s)) o) (cells_in bs)) 0 (size (take axis s)) (size (take axis s)) is (omega arith) (λ o below. row kind fills raws bs s axis o is lt spell parts below) in
          subst (λ (n : ℕ). Stands kind fills (rows n raws) cells) (sym cut.outer_is) (subst (Stands kind fills (rows (size (take axis s)) raws)) (rows_joined bs axis lt parts small) here)
      | inr le ↦
          let zero_is : total ≡ 0 = omega (arith, le) in
          let empty : length cells ≡ 0 = tab-length (concatenated bs axis).shape (λ p. end_to_end bs axis p (get_or p axis 0)) ∙ sym made.joining.whole ∙ no_cells kind total (length all) is is_total zero_is in
          subst (λ (n : ℕ). Stands kind fills (rows n raws) cells) (sym (none_is zero_is)) (subst (Stands kind fills []) (sym (nil_from_length cells empty)) (none kind fills is))
    ]

pub joined : {B R : Type 0} (now : B → Array) (at : R → List ℕ) (xs : List B) (rs : List R) (x : B) (axis : ℕ) (kind : NcType) (fills : List ℤ) (sizes shape : List ℕ) (count total outer : ℕ) (raw : List ℕ) → 0 < length xs → x ≡ get_or xs 0 x → axis < length (first_array (map now xs)).shape
    → All (λ b. Continues axis (first_array (map now xs)) (now b)) xs → size (concatenated (map now xs) axis).shape ≤ most_node_cells → AllSpell kind fills (map at rs) (map now xs)
    → sizes ≡ (now x).shape → count ≡ sum (map (λ b. get_or (now b).shape axis 0) xs) → shape ≡ set sizes axis count → total ≡ sum (map (λ r. length (at r)) rs) → (total ≡ 0 → outer ≡ 0) → (0 < total → outer ≡ min (size (take axis sizes)) (2 ^ 64 - 1)) → raw ≡ rows outer (map at rs)
    → IsWhole kind fills (map now xs) axis shape raw
joined now at xs rs x axis kind fills sizes shape count total outer raw some is_x lt each small spell is_sizes is_count is_shape is_total none_is some_is is_raw =
    let bs : List Array = map now xs in
    let raws : List (List ℕ) = map at rs in
    let a : Array = first_array bs in
    let all : Array = concatenated bs axis in
    let type_is = typed kind fills raws bs (let e = length-map xs now in omega (arith, e, some)) spell in
    let parts_are = parts kind fills raws bs a axis spell (all_mapped (Continues axis a) now xs each) in
    let s : sizes ≡ a.shape = is_sizes ∙ ap (λ (b : Array). b.shape) (first now xs x some is_x) in
    let bytes : total ≡ length (cells_of bs) * width kind = is_total ∙ sum_total (map (λ r. length (at r)) rs) ∙ lengths_mapped at rs ∙ counted kind fills raws bs spell in
    let there = stands kind fills raws bs axis total outer type_is.0 lt spell parts_are small bytes none_is (λ h. some_is h ∙ ap (λ (t : List ℕ). min (size (take axis t)) (2 ^ 64 - 1)) s) in
    let here : Stands kind fills raw all.cells = subst (λ (l : List ℕ). Stands kind fills l all.cells) (sym is_raw) there in
    let shape_is : shape ≡ all.shape = is_shape ∙ ap (λ (t : List ℕ). set t axis count) s ∙ ap (set a.shape axis) (is_count ∙ ap sum (counts_mapped now axis xs)) in
    let times_is : here.times ≡ size shape =
    sym (cells-length kind fills raw here.times type_is.0 here.long) ∙ ap length here.are ∙ tab-length all.shape (λ p. end_to_end bs axis p (get_or p axis 0)) ∙ ap size (sym shape_is) in
    record {
      stored = record { whole = type_is.0; long = here.long ∙ ap (λ n. n * width kind) times_is };
      is = ap (λ (k : DType). array k shape (stored_cells kind raw fills)) type_is.1 ∙ ap (λ (t : List ℕ). array a.kind t (stored_cells kind raw fills)) shape_is ∙ ap (array a.kind all.shape) here.are;
    }

-- ---- blocks of whole values

even : {R : Type 0} (at : R → List ℕ) (count : R → ℕ) (rs : List R) (bs : List Array) (kind : NcType) (fills : List ℤ) (s : List ℕ) (axis : ℕ) → is_whole kind ≡ true → axis < length s → AllSpell kind fills (map at rs) bs → All (IsPart s axis) bs → All (λ r. length (at r) ≡ count r * width kind) rs
    → All (λ r. count r % size (take axis s) ≡ 0) rs
even at count [] bs kind fills s axis is lt spell parts long = λ k d below. absurd (omega arith)
even at count (r ∷ rs) [] kind fills s axis is lt spell parts long = absurd spell
even at count (r ∷ rs) (b ∷ bs) kind fills s axis is lt spell parts long =
    let outer = size (take axis s) in
    let here = spell.0 in
    let same : count r ≡ size b.shape = sym (share_by kind (length (at r)) (count r) is (All-head (λ r. length (at r) ≡ count r * width kind) r rs long)) ∙ share_by kind (length (at r)) (size b.shape) is here.stored.long in
    let parted : size b.shape ≡ outer * (get_or b.shape axis 0 * size (drop (suc axis) s)) = sym (whole kind fills (at r) b here) ∙ part_size s axis b lt (All-head (IsPart s axis) b bs parts) in
    All-cons (λ r. count r % outer ≡ 0) r rs (ap (λ n. n % outer) (same ∙ parted) ∙ mul-mod_right outer (get_or b.shape axis 0 * size (drop (suc axis) s)))
    (even at count rs bs kind fills s axis is lt spell.1 (All-tail (IsPart s axis) b bs parts) (All-tail (λ r. length (at r) ≡ count r * width kind) r rs long))

pub divided : {B R : Type 0} (now : B → Array) (at : R → List ℕ) (count : R → ℕ) (xs : List B) (rs : List R) (x : B) (axis : ℕ) (kind : NcType) (fills : List ℤ) (sizes : List ℕ) (total outer : ℕ) → 0 < length xs → x ≡ get_or xs 0 x → axis < length (first_array (map now xs)).shape
    → All (λ b. Continues axis (first_array (map now xs)) (now b)) xs → size (concatenated (map now xs) axis).shape ≤ most_node_cells → AllSpell kind fills (map at rs) (map now xs) → All (λ r. length (at r) ≡ count r * width kind) rs
    → sizes ≡ (now x).shape → total ≡ sum (map (λ r. length (at r)) rs) → (total ≡ 0 → outer ≡ 0) → (0 < total → outer ≡ min (size (take axis sizes)) (2 ^ 64 - 1)) → 0 < outer → All (λ r. count r % outer ≡ 0) rs
divided now at count xs rs x axis kind fills sizes total outer some is_x lt each small spell long is_sizes is_total none_is some_is more =
    let bs : List Array = map now xs in
    let a : Array = first_array bs in
    let s : List ℕ = a.shape in
    let all = cells_of bs in
    let type_is = typed kind fills (map at rs) bs (let e = length-map xs now in omega (arith, e, some)) spell in
    let parts_are = parts kind fills (map at rs) bs a axis spell (all_mapped (Continues axis a) now xs each) in
    let same : sizes ≡ s = is_sizes ∙ ap (λ (b : Array). b.shape) (first now xs x some is_x) in
    let bytes : total ≡ length all * width kind = is_total ∙ sum_total (map (λ r. length (at r)) rs) ∙ lengths_mapped at rs ∙ counted kind fills (map at rs) bs spell in
    let there : 0 < total = elim (cases_lt 0 total) [ inl lt ↦ lt | inr le ↦ absurd (let e = none_is (omega (arith, le)) in omega (arith, e, more)) ] in
    let cells : 0 < length all * width kind = omega (arith, there, bytes) in
    let made = concat_is bs axis lt parts_are small in
    let cut = cut_is s (take axis s) (drop (axis + 1) s) axis (counts_of axis bs) (length all) outer (min (size (drop (axis + 1) s)) (2 ^ 64 - 1)) made.joining refl refl (some_is there ∙ ap (λ (t : List ℕ). min (size (take axis t)) (2 ^ 64 - 1)) same) refl (positive (length all) (width kind) cells).0 in
    subst (λ n. All (λ r. count r % n ≡ 0) rs) (sym cut.outer_is) (even at count rs bs kind fills s axis type_is.0 lt spell parts_are long)

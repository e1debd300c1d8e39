-- Windows put together from the folds at hand, and tables whose rows have absorbed lists of positions.
use Rattle.std.proofs.Common.{◌≡◌, ◌≢◌, ◌<◌, ◌≤◌, ◌+◌, ◌-◌, ◌*◌, ◌/◌, ◌%◌, ℕ, ℤ, zero, suc, List, [], ◌∷◌, ◌++◌, length, take, drop, min, ◌^◌, flat_map, get_or, Option, None, refl, sym, ap, subst, ◌∙◌, inl, inr, arith, append-nil, append_assoc}
use Rattle.std.specs.List.{All, range_with_len}
use Rattle.std.proofs.lemmas.Bool.{cases_lt}
use Rattle.std.proofs.lemmas.List.{take_more}
use Rattle.std.proofs.lemmas.List.Concat.{flat_map-append}
use Rattle.std.proofs.lemmas.Nat.{div_below, mod-mul-add, div-add-mod'}
use Rattle.xr_types.specs.Points.{size}
use Rattle.xr_arrays.specs.declared.node.Feed.{Feed}
use Rattle.xr_arrays.specs.declared.node.Feed.TheVariants as feed
use Rattle.xr_arrays.specs.Nodes.{gathered, kept, most_node_cells, ArePositions}
use Rattle.plan_core.proofs.Takes.{positive}
use Rattle.plan_core.proofs.Tabs.{within}
use Rattle.row_folds.specs.declared.strip.Strip.{Strip}
use Rattle.row_folds.specs.declared.windows.Reach.{Reach}
use Rattle.row_folds.specs.Rows.{point_at, read_from, AllKept, AreRows, Absorbs, AbsorbsRow}
use Rattle.row_folds.specs.Windows.{column, IsStrip, RowAbsorbs, RowsAbsorb, FoldsBefore, Gives, AtHand, Reaches}
use Rattle.row_folds.proofs.Absorbed.{point_inside, place_at}
use Rattle.row_folds.proofs.Ways.{range_more, at_each, kept_row, kept_size, reads, times_up, times_right}

abbrev Cells : Type 0
Cells = List (ℕ × Option ℤ)

-- ---- columns

pub column_both : (cells : List (Option ℤ)) (start stride r : ℕ) (a b : List ℕ) → column cells start stride r (a ++ b) ≡ column cells start stride r a ++ column cells start stride r b
column_both cells start stride r a b = flat_map-append (λ k. (k, get_or cells (start + k * stride + r) None) ∷ []) a b

range_joined : (a n m : ℕ) → range_with_len a n ++ range_with_len (a + n) m ≡ range_with_len a (n + m)
range_joined a zero m =
    let e : a + zero ≡ a = omega arith in
    let d : zero + m ≡ m = omega arith in
    ap (λ k. range_with_len k m) e ∙ ap (range_with_len a) (sym d)
range_joined a (suc n) m =
    let e : a + suc n ≡ (a + 1) + n = omega arith in
    let d : suc n + m ≡ suc (n + m) = omega arith in
    ap (λ k. a ∷ (range_with_len (a + 1) n ++ range_with_len k m)) e ∙ ap (λ t. a ∷ t) (range_joined (a + 1) n m) ∙ ap (range_with_len a) (sym d)

-- a window from its two parts
window_range : (from middle end : ℕ) → from ≤ middle → middle ≤ end → range_with_len (middle - (middle - from)) (middle - from) ++ range_with_len middle (end - middle) ≡ range_with_len from (end - from)
window_range from middle end le le' =
    let a : middle - (middle - from) ≡ from = omega arith in
    let m : middle ≡ from + (middle - from) = omega arith in
    let n : (middle - from) + (end - middle) ≡ end - from = omega arith in
    (λ k. range_with_len (a k) (middle - from) ++ range_with_len (m k) (end - middle)) ∙ range_joined from (middle - from) (end - middle) ∙ ap (range_with_len from) n

-- ---- one row

pub row_none : {A : Type 0} (Is : A → Cells → Type 0) (rows : List A) (at count : ℕ) → RowAbsorbs Is rows rows at count (λ r. [])
row_none Is rows at count = record {
  long = refl;
  inside = λ r z before lt is. subst (Is (get_or rows (at + r) z)) (sym (append-nil before)) is;
  below = λ k z lt. refl;
  above = λ k z le. refl;
}

row_both : {A : Type 0} (Is : A → Cells → Type 0) (a b c : List A) (at count : ℕ) (f g : ℕ → Cells) → RowAbsorbs Is a b at count f → RowAbsorbs Is b c at count g → RowAbsorbs Is a c at count (λ r. f r ++ g r)
row_both Is a b c at count f g one two = record {
  long = two.long ∙ one.long;
  inside = λ r z before lt is. subst (Is (get_or c (at + r) z)) (append_assoc before (f r) (g r)) (two.inside r z (before ++ f r) lt (one.inside r z before lt is));
  below = λ k z lt. two.below k z lt ∙ one.below k z lt;
  above = λ k z le. two.above k z le ∙ one.above k z le;
}

pub row_that : {A : Type 0} (Is : A → Cells → Type 0) (a b : List A) (at count : ℕ) (f g : ℕ → Cells) → ((r : ℕ) → f r ≡ g r) → RowAbsorbs Is a b at count f → RowAbsorbs Is a b at count g
row_that Is a b at count f g e h = record {
  long = h.long;
  inside = λ r z before lt is. subst (λ cs. Is (get_or b (at + r) z) (before ++ cs)) (e r) (h.inside r z before lt is);
  below = h.below;
  above = h.above;
}

row_one : {A : Type 0} (Is : A → Cells → Type 0) (a b : List A) (at count position begin start stride : ℕ) (cells : List (Option ℤ)) → begin ≡ start + position * stride → AbsorbsRow Is a b at count position cells begin → RowAbsorbs Is a b at count (λ r. column cells start stride r (position ∷ []))
row_one Is a b at count position begin start stride cells e h = record {
  long = h.long;
  inside = λ r z before lt is. subst (λ m. Is (get_or b (at + r) z) (before ++ (position, get_or cells (m + r) None) ∷ [])) e (h.inside r z before lt is);
  below = h.below;
  above = h.above;
}

pub row_more : {A : Type 0} (Is : A → Cells → Type 0) (a b c : List A) (at count position begin start stride i : ℕ) (ps : List ℕ) (cells : List (Option ℤ)) → begin ≡ start + position * stride → i < length ps → position ≡ get_or ps i 0
    → RowAbsorbs Is a b at count (λ r. column cells start stride r (take i ps)) → AbsorbsRow Is b c at count position cells begin → RowAbsorbs Is a c at count (λ r. column cells start stride r (take (i + 1) ps))
row_more Is a b c at count position begin start stride i ps cells e lt is one two =
    row_that Is a c at count (λ r. column cells start stride r (take i ps) ++ column cells start stride r (position ∷ [])) (λ r. column cells start stride r (take (i + 1) ps))
    (λ r. sym (column_both cells start stride r (take i ps) (position ∷ [])) ∙ ap (column cells start stride r) (ap (λ p. take i ps ++ p ∷ []) is ∙ sym (take_more ps i 0 lt)))
    (row_both Is a b c at count _ _ one (row_one Is b c at count position begin start stride cells e two))

-- ---- folds at hand

pub hand_none : {A : Type 0} (Is : A → Cells → Type 0) (folds : List A) (s : Strip) (n to depth : ℕ) (empty : A) (cells : List (Option ℤ)) → ((i : ℕ) (z : A) → i < n → get_or folds i z ≡ empty) → n ≡ 2 * s.count → n ≤ length folds → Is empty [] → to ≤ s.size → depth ≡ 0
    → AtHand Is folds s (record { first = to - depth; middle = to; end = to }) cells
hand_none {A = A} Is folds s n to depth empty cells cleared is_n le is end none =
    let no : to - to ≡ 0 = omega arith in
    let flat : to - (to - depth) ≡ 0 = omega arith in
    let two : (0 + 2) * s.count ≡ n = grind arith in
    record {
      first = omega arith;
      middle = omega arith;
      end = end;
      room = subst (λ k. (k + 2) * s.count ≤ length folds) (sym flat) (omega arith);
      behind = λ r z lt. subst (λ k. Is (get_or folds r z) (column cells s.start s.stride r (range_with_len to k))) (sym no) (subst (λ y. Is y []) (sym (cleared r z (omega arith))) is);
      before = λ d r z le lt.
          let zero_d : d ≡ 0 = omega arith in
          let one : (0 + 1) * s.count + r < n = grind arith in
          let at : (d + 1) * s.count + r < n = subst (λ k. (k + 1) * s.count + r < n) (sym zero_d) one in
          subst (λ k. Is (get_or folds ((d + 1) * s.count + r) z) (column cells s.start s.stride r (range_with_len (to - d) k))) (sym zero_d) (subst (λ y. Is y []) (sym (cleared ((d + 1) * s.count + r) z at)) is);
    }

pub hand_before : {A : Type 0} (Is : A → Cells → Type 0) (a b : List A) (s : Strip) (from to depth behind into position begin : ℕ) (cells : List (Option ℤ)) → AtHand Is a s (record { first = to - depth; middle = to; end = to }) cells → FoldsBefore Is a b behind into s.count position cells begin
    → behind ≡ (depth + 1) * s.count → into ≡ behind + s.count → position ≡ to - 1 - depth → begin ≡ s.start + position * s.stride → depth < to - from → (to - from + 2) * s.count ≤ length a
    → AtHand Is b s (record { first = to - (depth + 1); middle = to; end = to }) cells
hand_before Is a b s from to depth behind into position begin cells h f is_behind is_into is_position is_begin lt room =
    let flat : to - (to - depth) ≡ depth = omega arith in
    let flat_more : to - (to - (depth + 1)) ≡ depth + 1 = omega arith in
    let c = s.count in
    let next : (depth + 2) * c ≡ (depth + 1) * c + c = grind arith in
    let near = within (depth + 1) (depth + 2) c (omega arith) in
    let most = within (depth + 2) (to - from + 2) c (omega arith) in
    let long = f.long in
    let some : c + c ≤ into = let two : (depth + 1) * c ≡ depth * c + c = grind arith in omega arith in
    record {
      first = omega arith;
      middle = omega arith;
      end = h.end;
      room = subst (λ k. (k + 2) * c ≤ length b) (sym flat_more) (let three : (depth + 1 + 2) * c ≡ (depth + 2) * c + c = grind arith in omega arith);
      behind = λ r z lt_r. subst (λ x. Is x (column cells s.start s.stride r (range_with_len to (to - to)))) (sym (f.below r z (omega arith))) (h.behind r z lt_r);
      before = λ d r z le lt_r. elim (cases_lt d (depth + 1)) [
        | inl low ↦
            let here = within (d + 1) (depth + 2) c (omega arith) in
            subst (λ x. Is x (column cells s.start s.stride r (range_with_len (to - d) d))) (sym (f.below ((d + 1) * c + r) z (omega arith))) (h.before d r z (omega arith) lt_r)
        | inr high ↦
            let e : d ≡ suc depth = omega arith in
            let there : behind + r ≡ (depth + 1) * c + r = omega arith in
            let old = subst (λ k. Is (get_or a k z) (column cells s.start s.stride r (range_with_len (to - depth) depth))) (sym there) (h.before depth r z (omega arith) lt_r) in
            let done = f.inside r z (column cells s.start s.stride r (range_with_len (to - depth) depth)) lt_r old in
            let index : into + r ≡ (suc depth + 1) * c + r = let more : (suc depth + 1) * c ≡ (depth + 1) * c + c = grind arith in omega arith in
            let first : to - suc depth ≡ position = omega arith in
            let rest : to - depth ≡ position + 1 = omega arith in
            let same : (position, get_or cells (begin + r) None) ∷ column cells s.start s.stride r (range_with_len (to - depth) depth) ≡ column cells s.start s.stride r (range_with_len (to - suc depth) (suc depth)) =
            (λ k. (position, get_or cells (is_begin k + r) None) ∷ column cells s.start s.stride r (range_with_len (rest k) depth)) ∙ ap (λ k. column cells s.start s.stride r (range_with_len k (suc depth))) (sym first) in
            subst (λ k. Is (get_or b ((k + 1) * c + r) z) (column cells s.start s.stride r (range_with_len (to - k) k))) (sym e)
            (subst (λ k. Is (get_or b k z) (column cells s.start s.stride r (range_with_len (to - suc depth) (suc depth)))) index (subst (Is (get_or b (into + r) z)) same done))
      ];
    }

pub hand_more : {A : Type 0} (Is : A → Cells → Type 0) (a b : List A) (s : Strip) (first middle end begin : ℕ) (cells : List (Option ℤ)) → AtHand Is a s (record { first = first; middle = middle; end = end }) cells → AbsorbsRow Is a b 0 s.count end cells begin
    → begin ≡ s.start + end * s.stride → end < s.size → AtHand Is b s (record { first = first; middle = middle; end = end + 1 }) cells
hand_more Is a b s first middle end begin cells h f is_begin lt =
    let c = s.count in
    let long = f.long in
    let room = h.room in
    let ordered = h.middle in
    record {
      first = h.first;
      middle = omega arith;
      end = omega arith;
      room = omega arith;
      behind = λ r z lt_r.
          let front : 0 + r ≡ r = omega arith in
          let range = range_with_len middle (end - middle) in
          let done = f.inside r z (column cells s.start s.stride r range) lt_r (subst (λ k. Is (get_or a k z) (column cells s.start s.stride r range)) (sym front) (h.behind r z lt_r)) in
          let n : end + 1 - middle ≡ (end - middle) + 1 = omega arith in
          let last : middle + (end - middle) ≡ end = omega arith in
          let same : column cells s.start s.stride r range ++ (end, get_or cells (begin + r) None) ∷ [] ≡ column cells s.start s.stride r (range_with_len middle (end + 1 - middle)) =
          (λ k. column cells s.start s.stride r range ++ (end, get_or cells (is_begin k + r) None) ∷ []) ∙ sym (column_both cells s.start s.stride r range (end ∷ [])) ∙ ap (column cells s.start s.stride r) (sym (range_more middle (end - middle) ∙ ap (λ k. range ++ k ∷ []) last) ∙ ap (range_with_len middle) (sym n)) in
          subst (λ k. Is (get_or b k z) (column cells s.start s.stride r (range_with_len middle (end + 1 - middle)))) front (subst (Is (get_or b (0 + r) z)) same done);
      before = λ d r z le lt_r.
          let far : 0 + c ≤ (d + 1) * c + r = let more : (d + 1) * c ≡ d * c + c = grind arith in omega arith in
          subst (λ x. Is x (column cells s.start s.stride r (range_with_len (middle - d) d))) (sym (f.above ((d + 1) * c + r) z far)) (h.before d r z le lt_r);
    }

pub window_row : {A : Type 0} (Is : A → Cells → Type 0) (a b folds : List A) (s : Strip) (reach : Reach) (row from to depth first : ℕ) (cells : List (Option ℤ)) → AtHand Is folds s reach cells → Reaches reach from to → depth ≡ reach.middle - from → first ≡ (depth + 1) * s.count → Gives Is a b row s.count folds first
    → RowAbsorbs Is a b row s.count (λ r. column cells s.start s.stride r (range_with_len from (to - from)))
window_row Is a b folds s reach row from to depth first cells h near is_depth is_first g = record {
  long = g.long;
  inside = λ r z before lt is.
      let low = near.first in
      let high = near.middle in
      let ordered = h.middle in
      let m = reach.middle in
      let one = range_with_len (m - (m - from)) (m - from) in
      let two = range_with_len m (reach.end - m) in
      let x = subst (λ k. Is (get_or folds ((k + 1) * s.count + r) z) (column cells s.start s.stride r (range_with_len (m - k) k))) is_depth (h.before depth r z (omega arith) lt) in
      let index : (m - from + 1) * s.count + r ≡ first + r = ap (λ k. (k + 1) * s.count + r) (sym is_depth) ∙ ap (λ k. k + r) (sym is_first) in
      let done = g.inside r z before (column cells s.start s.stride r one) (column cells s.start s.stride r two) lt is (subst (λ k. Is (get_or folds k z) (column cells s.start s.stride r one)) index x) (h.behind r z lt) in
      let whole : column cells s.start s.stride r one ++ column cells s.start s.stride r two ≡ column cells s.start s.stride r (range_with_len from (to - from)) =
      sym (column_both cells s.start s.stride r one two) ∙ ap (column cells s.start s.stride r) (window_range from m reach.end high ordered ∙ ap (λ k. range_with_len from (k - from)) near.end) in
      subst (Is (get_or b (row + r) z)) (append_assoc before (column cells s.start s.stride r one) (column cells s.start s.stride r two) ∙ ap (λ t. before ++ t) whole) done;
  below = g.below;
  above = g.above;
}

-- ---- tables

pub rows_none : {A : Type 0} (Is : A → Cells → Type 0) (rows : List A) (at stride count : ℕ) (fed : ℕ → ℕ → Cells) → RowsAbsorb Is rows rows at stride count 0 fed
rows_none Is rows at stride count fed = record {
  long = refl;
  inside = λ i r z before lt lt' is. absurd (omega arith);
  others = λ k z away. refl;
}

pub rows_more : {A : Type 0} (Is : A → Cells → Type 0) (a b c : List A) (at stride count i row : ℕ) (fed : ℕ → ℕ → Cells) (f : ℕ → Cells) → RowsAbsorb Is a b at stride count i fed → RowAbsorbs Is b c row count f → row ≡ at + i * stride → count ≤ stride → ((r : ℕ) → f r ≡ fed i r)
    → RowsAbsorb Is a c at stride count (i + 1) fed
rows_more {A = A} Is a b c at stride count i row fed f one two is_row narrow same = record {
  long = two.long ∙ one.long;
  inside = λ j r z before lt_j lt_r is. elim (cases_lt j i) [
    | inl low ↦
        let near = within j i stride low in
        subst (λ x. Is x (before ++ fed j r)) (sym (two.below (at + j * stride + r) z (omega arith))) (one.inside j r z before low lt_r is)
    | inr high ↦
        let e : j ≡ i = omega arith in
        let index : at + j * stride + r ≡ row + r = ap (λ k. at + k * stride + r) e ∙ ap (λ k. k + r) (sym is_row) in
        let kept = one.others (at + j * stride + r) z (λ i' r' lt lt' eq. let near = within i' j stride (omega arith) in omega arith) in
        let here : Is (get_or b (row + r) z) before = subst (λ k. Is (get_or b k z) before) index (subst (λ x. Is x before) (sym kept) is) in
        let done : Is (get_or c (row + r) z) (before ++ f r) = two.inside r z before lt_r here in
        subst (λ k. Is (get_or c k z) (before ++ fed j r)) (sym index) (subst (λ cs. Is (get_or c (row + r) z) (before ++ cs)) (same r ∙ ap (λ k. fed k r) (sym e)) done)
  ];
  others = λ k z away. outside k z away ∙ one.others k z (λ j r lt lt'. away j r (omega arith) lt');
}
  where
    outside : (k : ℕ) (z : A) → ((j r : ℕ) → j < i + 1 → r < count → k ≢ at + j * stride + r) → get_or c k z ≡ get_or b k z
    outside k z away = elim (cases_lt k row) [
      | inl low ↦ two.below k z low
      | inr high ↦ elim (cases_lt k (row + count)) [
        | inl inside ↦ absurd (away i (k - row) (omega arith) (omega arith) (omega arith))
        | inr above ↦ two.above k z above
      ]
    ]

same_column : (i j stride r s : ℕ) → r < stride → s < stride → i * stride + r ≡ j * stride + s → r ≡ s
same_column i j stride r s lt lt' e = sym (mod-mul-add i stride r lt) ∙ ap (λ k. k % stride) e ∙ mod-mul-add j stride s lt'

pub columns_none : {A : Type 0} (Is : A → Cells → Type 0) (rows : List A) (at stride many : ℕ) (fed : ℕ → ℕ → Cells) → RowsAbsorb Is rows rows at stride 0 many fed
columns_none Is rows at stride many fed = record {
  long = refl;
  inside = λ i r z before lt lt' is. absurd (omega arith);
  others = λ k z away. refl;
}

pub columns_more : {A : Type 0} (Is : A → Cells → Type 0) (a b c : List A) (at there stride done n more many : ℕ) (fed fed' : ℕ → ℕ → Cells) → RowsAbsorb Is a b at stride done many fed → RowsAbsorb Is b c there stride n many fed' → there ≡ at + done → more ≡ done + n → done + n ≤ stride → ((i r : ℕ) → fed' i r ≡ fed i (done + r))
    → RowsAbsorb Is a c at stride more many fed
columns_more Is a b c at there stride done n more many fed fed' one two is_there is_more narrow same = record {
  long = two.long ∙ one.long;
  inside = λ i r z before lt_i lt_r is. elim (cases_lt r done) [
    | inl low ↦
        let kept = two.others (at + i * stride + r) z (λ j s lt lt' eq. let e : r ≡ done + s = same_column i j stride r (done + s) (omega arith) (omega arith) (omega arith) in omega arith) in
        subst (λ x. Is x (before ++ fed i r)) (sym kept) (one.inside i r z before lt_i low is)
    | inr high ↦
        let q : ℕ = r - done in
        let split : done + q ≡ r = omega arith in
        let index : at + i * stride + r ≡ there + i * stride + q = omega arith in
        let kept = one.others (at + i * stride + r) z (λ j s lt lt' eq. let e : r ≡ s = same_column i j stride r s (omega arith) (omega arith) (omega arith) in omega arith) in
        let here : Is (get_or b (there + i * stride + q) z) before = subst (λ k. Is (get_or b k z) before) index (subst (λ x. Is x before) (sym kept) is) in
        let made : Is (get_or c (there + i * stride + q) z) (before ++ fed' i q) = two.inside i q z before lt_i (omega arith) here in
        subst (λ k. Is (get_or c k z) (before ++ fed i r)) (sym index) (subst (λ cs. Is (get_or c (there + i * stride + q) z) (before ++ cs)) (same i q ∙ ap (fed i) split) made)
  ];
  others = λ k z away. two.others k z (λ i r lt lt' eq. away i (done + r) lt (omega arith) (omega arith)) ∙ one.others k z (λ i r lt lt' eq. away i r lt (omega arith) eq);
}

pub shifted : (cells : List (Option ℤ)) (start begin done stride r : ℕ) (ps : List ℕ) → begin ≡ start + done → column cells begin stride r ps ≡ column cells start stride (done + r) ps
shifted cells start begin done stride r ps e = (λ t. flat_map (λ k. (k, get_or cells (there k t) None) ∷ []) ps)
  where
    there : (k : ℕ) → begin + k * stride + r ≡ start + k * stride + (done + r)
    there k = omega arith

-- where all axes behind stay, lists of positions are absorbed along a table
pub table_absorbed : {A : Type 0} (Is : A → Cells → Type 0) (a b : List A) (at stride count many : ℕ) (ks : List ℕ) (fed : ℕ → ℕ → Cells) (f : List ℕ → Cells) → RowsAbsorb Is a b at stride count many fed → stride ≡ size ks → count ≡ size ks → ((i r : ℕ) → i < many → r < size ks → fed i r ≡ f (i ∷ point_at ks r))
    → Absorbs Is a b at (many ∷ ks) f
table_absorbed Is a b at stride count many ks fed f h is_stride is_count same = record {
  long = h.long;
  inside = λ k z before lt is.
      let some = (positive many (size ks) (omega arith)).1 in
      let i = k / size ks in
      let r = k % size ks in
      let lt_i = div_below k (size ks) many some lt in
      let lt_r : r < size ks = omega arith in
      let split : i * size ks + r ≡ k = div-add-mod' k (size ks) in
      let index : at + i * stride + r ≡ at + k = ap (λ s. at + i * s + r) is_stride ∙ omega arith in
      subst (λ m. Is (get_or b m z) (before ++ f (i ∷ point_at ks r))) index
      (subst (λ cs. Is (get_or b (at + i * stride + r) z) (before ++ cs)) (same i r lt_i lt_r) (h.inside i r z before lt_i (omega arith) (subst (λ m. Is (get_or a m z) before) (sym index) is)));
  below = λ k z lt. h.others k z (λ i r lt_i lt_r eq. omega arith);
  above = λ k z le. h.others k z (λ i r lt_i lt_r eq. let near = within i many stride lt_i in let whole : many * stride ≡ many * size ks = ap (λ s. many * s) is_stride in omega arith);
}

pub kept_column : (rest : List Feed) (ns ks : List ℕ) (cells : List (Option ℤ)) (start stride r : ℕ) (ps : List ℕ) → AllKept rest → length rest ≡ length ns → ks ≡ kept rest ns → r < size ks → stride ≡ size ns → column cells start stride r ps ≡ flat_map (at_each rest ns cells start (point_at ks r)) ps
kept_column rest ns ks cells start stride r ps all long is lt is_stride = (λ t. flat_map (λ k. one k t) ps)
  where
    one : (k : ℕ) → (k, get_or cells (start + k * stride + r) None) ∷ [] ≡ at_each rest ns cells start (point_at ks r) k
    one k = (λ j. (k, get_or cells (start + k * is_stride j + sym (place_at ks r lt) j) None) ∷ []) ∙ kept_row rest ns ks (point_at ks r) k (start + k * size ns) cells all long is (point_inside ks r lt)

-- a table whose rows lists of positions absorb
pub record TableHere (lists : List (List ℕ)) (rest : List Feed) (shape sizes : List ℕ) (at rows start count position : ℕ) : Type 1 where
  pub some : 0 < length shape
  pub whole : (n : ℕ) → n ≡ min (size (drop 1 shape)) (2 ^ 64 - 1) → n ≡ size (drop 1 shape)
  pub strip : (s : Strip) → s.size ≡ get_or shape 0 0 → s.stride ≡ size (drop 1 shape) → s.count ≡ size (drop 1 shape) → s.start ≡ start → IsStrip s count
  pub start_near : start ≤ most_node_cells
  pub inside : at + length lists * size (drop 1 shape) ≤ rows
  pub fed : All (ArePositions (get_or shape 0 0) 0) lists
  pub is : {A : Type 0} (Is : A → Cells → Type 0) (a b : List A) (stride columns : ℕ) (cells : List (Option ℤ)) → stride ≡ size (drop 1 shape) → columns ≡ size (drop 1 shape) → RowsAbsorb Is a b at stride columns (length lists) (λ i r. column cells start stride r (get_or lists i []))
      → Absorbs Is a b at sizes (λ p. gathered position (feed.By lists ∷ rest) shape p (read_from cells start shape))

pub table_here : (lists : List (List ℕ)) (rest : List Feed) (shape sizes : List ℕ) (at rows start count position : ℕ) → AllKept rest → AreRows (feed.By lists ∷ rest) shape sizes at rows start count position → TableHere lists rest shape sizes at rows start count position
table_here lists rest [] sizes at rows start count position all r = let long = r.long in absurd (omega arith)
table_here lists rest (n ∷ ns) sizes at rows start count position all r =
    let long = r.long in
    let behind : length rest ≡ length ns = omega arith in
    let ks = kept rest ns in
    let same : size ks ≡ size ns = kept_size rest ns ks all behind refl in
    let some = r.some in
    let whole = r.whole in
    let few = r.few in
    let both = positive n (size ns) some in
    let up = times_up n (size ns) both.0 in
    let right = times_right n (size ns) both.1 in
    let inside : at + length lists * size ks ≤ rows = subst (λ z. at + size z ≤ rows) r.sizes_are r.inside in
    record {
      some = omega arith;
      whole = λ m e. omega arith;
      strip = λ s is_size is_stride is_count is_start. record {
        inside = λ k lt.
            let lt_n : k < n = omega arith in
            let near = within k n (size ns) lt_n in
            let there : s.start + k * s.stride + s.count ≡ start + k * size ns + size ns = (λ i. is_start i + k * is_stride i + is_count i) in
            omega arith;
        few = few;
        near = omega arith;
        count_near = omega arith;
      };
      start_near = omega arith;
      inside = subst (λ k. at + length lists * k ≤ rows) same inside;
      fed = r.fed.0;
      is = λ Is a b stride columns cells is_stride is_columns h.
          subst (λ z. Absorbs Is a b at z (λ p. gathered position (feed.By lists ∷ rest) (n ∷ ns) p (read_from cells start (n ∷ ns)))) (sym r.sizes_are)
          (table_absorbed Is a b at stride columns (length lists) ks (λ i r. column cells start stride r (get_or lists i [])) (λ p. gathered position (feed.By lists ∷ rest) (n ∷ ns) p (read_from cells start (n ∷ ns))) h (is_stride ∙ sym same) (is_columns ∙ sym same)
          (λ i r lt lt'. kept_column rest ns ks cells start stride r (get_or lists i []) all behind refl lt' is_stride ∙ (λ k. flat_map (λ j. gathered j rest ns (point_at ks r) (reads cells start j ns k)) (get_or lists i []))));
    }

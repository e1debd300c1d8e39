-- The cells that a row of a fold's result comes from, axis by axis.
use Rattle.std.proofs.Common.{◌≡◌, ◌<◌, ◌≤◌, ◌+◌, ◌*◌, ℕ, ℤ, zero, suc, List, [], ◌∷◌, ◌++◌, length, take, drop, get_or, flat_map, Option, None, refl, sym, ap, subst, ◌∙◌, arith, append-nil, length-drop}
use Rattle.std.specs.List.{All, range_with_len}
use Rattle.std.proofs.lemmas.List.{take_more}
use Rattle.std.proofs.lemmas.List.Concat.{flat_map-append}
use Rattle.std.proofs.lemmas.List.Elements.{All-head, All-tail}
use Rattle.std.proofs.lemmas.Nat.{mul-le}
use Rattle.xr_types.specs.Points.{size, place, IsPoint}
use Rattle.xr_arrays.specs.declared.node.Feed.{Feed}
use Rattle.xr_arrays.specs.declared.node.Feed.TheVariants as feed
use Rattle.xr_arrays.specs.Nodes.{gathered, kept, AreFed, ArePositions, most_node_cells}
use Rattle.plan_core.proofs.Takes.{positive}
use Rattle.plan_core.proofs.Steps.{first_is}
use Rattle.plan_core.proofs.Tabs.{within}
use Rattle.row_folds.specs.Rows.{read_from, AllKept, AreRows}

-- ---- one position of the first axis

pub reads : (cells : List (Option ℤ)) (start i : ℕ) (ns : List ℕ) → read_from cells (start + i * size ns) ns ≡ (λ q. get_or cells (start + (i * size ns + place ns q)) None)
reads cells start i ns = λ k q. ap (λ m. get_or cells m None) (assoc q) k
  where
    assoc : (q : List ℕ) → (start + i * size ns) + place ns q ≡ start + (i * size ns + place ns q)
    assoc q = omega arith

pub times_up : (n s : ℕ) → 0 < n → s ≤ n * s
times_up n s i = let up = mul-le 1 s n s (omega arith) (omega arith) in let d : 1 * s ≡ s = omega arith in omega arith

pub times_right : (n s : ℕ) → 0 < s → n ≤ n * s
times_right n s i = grind arith

-- ---- what the code has at hand

-- the first of the feeds and those behind it
pub parted : (feeds rest : List Feed) (f g : Feed) → 0 < length feeds → f ≡ get_or feeds 0 f → f ≡ g → rest ≡ drop 1 feeds → feeds ≡ g ∷ rest
parted feeds rest f g some is is_g is_rest = first_is feeds 0 f some is ∙ ap (λ h. h ∷ drop 1 feeds) is_g ∙ ap (λ fs. g ∷ fs) (sym is_rest)

pub falls : (feeds rest : List Feed) → 0 < length feeds → rest ≡ drop 1 feeds → length rest < length feeds
falls feeds rest some is = let e = ap length is in let d = length-drop 1 feeds in omega arith

-- where the cells at a position of the first axis lie
pub record CellsAt (rest : List Feed) (shape : List ℕ) (start count : ℕ) : Type 0 where
  pub some : 0 < length shape
  pub behind_few : size (drop 1 shape) ≤ most_node_cells
  pub below : (i : ℕ) → i < get_or shape 0 0 → (i ≤ most_node_cells) × (start + i * size (drop 1 shape) ≤ most_node_cells)

cells_at : (f : Feed) (rest : List Feed) (shape sizes : List ℕ) (at rows start count position : ℕ) → AreRows (f ∷ rest) shape sizes at rows start count position → CellsAt rest shape start count
cells_at f rest [] sizes at rows start count position r = let long = r.long in absurd (omega arith)
cells_at f rest (n ∷ ns) sizes at rows start count position r =
    let some = r.some in
    let whole = r.whole in
    let few = r.few in
    let both = positive n (size ns) some in
    let up = times_up n (size ns) both.0 in
    let right = times_right n (size ns) both.1 in
    record {
      some = omega arith;
      behind_few = omega arith;
      below = λ i lt. let near = within i n (size ns) lt in (omega arith, omega arith);
    }

next_rows : (f : Feed) (fs : List Feed) (n : ℕ) (ns ks : List ℕ) (sizes : List ℕ) (at row rows start count position i j : ℕ) → AreRows (f ∷ fs) (n ∷ ns) sizes at rows start count position → AreFed fs ns → ks ≡ kept fs ns → row + size ks ≤ rows → i < n → j ≤ most_node_cells → AreRows fs ns ks row rows (start + i * size ns) count j
next_rows f fs n ns ks sizes at row rows start count position i j r fed is inside lt near_j =
    let near = within i n (size ns) lt in
    let some = r.some in
    let whole = r.whole in
    let both = positive n (size ns) some in
    let long = r.long in
    record { long = omega arith; fed = fed; sizes_are = is; inside = inside; few_rows = r.few_rows; some = both.1; whole = omega arith; few = r.few; near = near_j }

-- ---- an axis that stays

pub record KeepHere (feeds rest : List Feed) (shape sizes : List ℕ) (at rows start count position : ℕ) : Type 0 where
  pub cells : CellsAt rest shape start count
  pub sizes_are : sizes ≡ get_or shape 0 0 ∷ drop 1 sizes
  pub some : 0 < length sizes
  pub rows_few : size (drop 1 sizes) ≤ most_node_cells
  pub row : (i : ℕ) → i < get_or shape 0 0 → at + i * size (drop 1 sizes) ≤ most_node_cells
  pub next : (i row begin : ℕ) (shape1 sizes1 : List ℕ) → i < get_or shape 0 0 → row ≡ at + i * size (drop 1 sizes) → begin ≡ start + i * size (drop 1 shape) → shape1 ≡ drop 1 shape → sizes1 ≡ drop 1 sizes → AreRows rest shape1 sizes1 row rows begin count position
  pub is : (i begin : ℕ) (shape1 : List ℕ) (cells : List (Option ℤ)) (p : List ℕ) → begin ≡ start + i * size (drop 1 shape) → shape1 ≡ drop 1 shape → gathered position rest shape1 p (read_from cells begin shape1) ≡ gathered position feeds shape (i ∷ p) (read_from cells start shape)

keep_rows : (rest : List Feed) (shape sizes : List ℕ) (at rows start count position : ℕ) → AreRows (feed.Keep ∷ rest) shape sizes at rows start count position → KeepHere (feed.Keep ∷ rest) rest shape sizes at rows start count position
keep_rows rest [] sizes at rows start count position r = let long = r.long in absurd (omega arith)
keep_rows rest (n ∷ ns) sizes at rows start count position r =
    subst (λ z. AreRows (feed.Keep ∷ rest) (n ∷ ns) z at rows start count position → KeepHere (feed.Keep ∷ rest) rest (n ∷ ns) z at rows start count position) (sym r.sizes_are) here r
  where
    ks : List ℕ
    ks = kept rest ns

    here : AreRows (feed.Keep ∷ rest) (n ∷ ns) (n ∷ ks) at rows start count position → KeepHere (feed.Keep ∷ rest) rest (n ∷ ns) (n ∷ ks) at rows start count position
    here r =
        let some = r.some in
        let inside = r.inside in
        let few_rows = r.few_rows in
        let both = positive n (size ns) some in
        let up = times_up n (size ks) both.0 in
        record {
          cells = cells_at feed.Keep rest (n ∷ ns) (n ∷ ks) at rows start count position r;
          sizes_are = refl;
          some = omega arith;
          rows_few = omega arith;
          row = λ i lt. let near = within i n (size ks) lt in omega arith;
          next = λ i row begin shape1 sizes1 lt is_row is_begin is_shape is_sizes.
              let near = within i n (size ks) lt in
              subst (λ z. AreRows rest z sizes1 row rows begin count position) (sym is_shape) (subst (λ z. AreRows rest ns z row rows begin count position) (sym is_sizes)
              (subst (λ m. AreRows rest ns ks row rows m count position) (sym is_begin) (next_rows feed.Keep rest n ns ks (n ∷ ks) at row rows start count position i position r r.fed.1 refl (omega arith) lt r.near)));
          is = λ i begin shape1 cells p is_begin is_shape. (λ t. gathered position rest (is_shape t) p (read_from cells (is_begin t) (is_shape t))) ∙ ap (gathered position rest ns p) (reads cells start i ns);
        }

pub keep_here : (feeds rest : List Feed) (f : Feed) (shape sizes : List ℕ) (at rows start count position : ℕ) → 0 < length feeds → f ≡ get_or feeds 0 f → f ≡ feed.Keep → rest ≡ drop 1 feeds → AreRows feeds shape sizes at rows start count position → KeepHere feeds rest shape sizes at rows start count position
keep_here feeds rest f shape sizes at rows start count position some is is_f is_rest r =
    let e = parted feeds rest f feed.Keep some is is_f is_rest in
    subst (λ fs. KeepHere fs rest shape sizes at rows start count position) (sym e) (keep_rows rest shape sizes at rows start count position (subst (λ fs. AreRows fs shape sizes at rows start count position) e r))

-- ---- an axis that is folded as a whole

-- the cells at the positions of the first axis
abbrev pub at_each : List Feed → List ℕ → List (Option ℤ) → ℕ → List ℕ → ℕ → List (ℕ × Option ℤ)
at_each rest ns cells start p i = gathered i rest ns p (read_from cells (start + i * size ns) ns)

pub record AllHere (feeds rest : List Feed) (shape sizes : List ℕ) (at rows start count position : ℕ) : Type 0 where
  pub cells : CellsAt rest shape start count
  pub next : (i begin : ℕ) (shape1 : List ℕ) → i < get_or shape 0 0 → begin ≡ start + i * size (drop 1 shape) → shape1 ≡ drop 1 shape → AreRows rest shape1 sizes at rows begin count i
  pub is : (cells : List (Option ℤ)) (p : List ℕ) → flat_map (at_each rest (drop 1 shape) cells start p) (range_with_len 0 (get_or shape 0 0)) ≡ gathered position feeds shape p (read_from cells start shape)

all_rows : (rest : List Feed) (shape sizes : List ℕ) (at rows start count position : ℕ) → AreRows (feed.All ∷ rest) shape sizes at rows start count position → AllHere (feed.All ∷ rest) rest shape sizes at rows start count position
all_rows rest [] sizes at rows start count position r = let long = r.long in absurd (omega arith)
all_rows rest (n ∷ ns) sizes at rows start count position r =
    let c = cells_at feed.All rest (n ∷ ns) sizes at rows start count position r in
    record {
      cells = c;
      next = λ i begin shape1 lt is_begin is_shape.
          subst (λ z. AreRows rest z sizes at rows begin count i) (sym is_shape) (subst (λ m. AreRows rest ns sizes at rows m count i) (sym is_begin) (next_rows feed.All rest n ns sizes sizes at at rows start count position i i r r.fed.1 r.sizes_are r.inside lt (c.below i lt).0));
      is = λ cells p. (λ k. flat_map (λ i. gathered i rest ns p (reads cells start i ns k)) (range_with_len 0 n));
    }

pub all_here : (feeds rest : List Feed) (f : Feed) (shape sizes : List ℕ) (at rows start count position : ℕ) → 0 < length feeds → f ≡ get_or feeds 0 f → f ≡ feed.All → rest ≡ drop 1 feeds → AreRows feeds shape sizes at rows start count position → AllHere feeds rest shape sizes at rows start count position
all_here feeds rest f shape sizes at rows start count position some is is_f is_rest r =
    let e = parted feeds rest f feed.All some is is_f is_rest in
    subst (λ fs. AllHere fs rest shape sizes at rows start count position) (sym e) (all_rows rest shape sizes at rows start count position (subst (λ fs. AreRows fs shape sizes at rows start count position) e r))

-- what the call for a position absorbs
pub one_each : (rest : List Feed) (shape shape1 p : List ℕ) (start begin i : ℕ) (cells : List (Option ℤ)) → begin ≡ start + i * size (drop 1 shape) → shape1 ≡ drop 1 shape → gathered i rest shape1 p (read_from cells begin shape1) ≡ at_each rest (drop 1 shape) cells start p i
one_each rest shape shape1 p start begin i cells is_begin is_shape = (λ t. gathered i rest (is_shape t) p (read_from cells (is_begin t) (is_shape t)))

-- ---- an axis of lists of positions

pub positions_in : (n i : ℕ) (lists : List (List ℕ)) → All (ArePositions n 0) lists → ArePositions n 0 (get_or lists i [])
positions_in n i [] all = tt
positions_in n zero (ps ∷ lists) all = All-head (ArePositions n 0) ps lists all
positions_in n (suc i) (ps ∷ lists) all = positions_in n i lists (All-tail (ArePositions n 0) ps lists all)

position_below : (n from : ℕ) (ps : List ℕ) (i : ℕ) → ArePositions n from ps → i < length ps → get_or ps i 0 < n
position_below n from [] i is lt = absurd (omega arith)
position_below n from (p ∷ ps) zero is lt = is.1
position_below n from (p ∷ ps) (suc i) is lt = position_below n (suc p) ps i is.2 (omega arith)

pub record ByHere (lists : List (List ℕ)) (feeds rest : List Feed) (shape sizes : List ℕ) (at rows start count position : ℕ) : Type 0 where
  pub cells : CellsAt rest shape start count
  pub sizes_are : sizes ≡ length lists ∷ drop 1 sizes
  pub some : 0 < length sizes
  pub rows_few : 0 < length lists → size (drop 1 sizes) ≤ most_node_cells
  pub row : (i : ℕ) → i < length lists → at + i * size (drop 1 sizes) ≤ most_node_cells
  pub positions : (i k p : ℕ) (ps : List ℕ) → ps ≡ get_or lists i [] → k < length ps → p ≡ get_or ps k 0 → p < get_or shape 0 0
  pub next : (i j row begin : ℕ) (shape1 sizes1 : List ℕ) → i < length lists → j < get_or shape 0 0 → row ≡ at + i * size (drop 1 sizes) → begin ≡ start + j * size (drop 1 shape) → shape1 ≡ drop 1 shape → sizes1 ≡ drop 1 sizes → AreRows rest shape1 sizes1 row rows begin count j
  pub is : (i : ℕ) (ps : List ℕ) (cells : List (Option ℤ)) (p : List ℕ) → ps ≡ get_or lists i [] → flat_map (at_each rest (drop 1 shape) cells start p) ps ≡ gathered position feeds shape (i ∷ p) (read_from cells start shape)

by_rows : (lists : List (List ℕ)) (rest : List Feed) (shape sizes : List ℕ) (at rows start count position : ℕ) → AreRows (feed.By lists ∷ rest) shape sizes at rows start count position → ByHere lists (feed.By lists ∷ rest) rest shape sizes at rows start count position
by_rows lists rest [] sizes at rows start count position r = let long = r.long in absurd (omega arith)
by_rows lists rest (n ∷ ns) sizes at rows start count position r =
    subst (λ z. AreRows (feed.By lists ∷ rest) (n ∷ ns) z at rows start count position → ByHere lists (feed.By lists ∷ rest) rest (n ∷ ns) z at rows start count position) (sym r.sizes_are) here r
  where
    ks : List ℕ
    ks = kept rest ns

    m : ℕ
    m = length lists

    here : AreRows (feed.By lists ∷ rest) (n ∷ ns) (length lists ∷ ks) at rows start count position → ByHere lists (feed.By lists ∷ rest) rest (n ∷ ns) (length lists ∷ ks) at rows start count position
    here r =
        let inside = r.inside in
        let few_rows = r.few_rows in
        let c = cells_at (feed.By lists) rest (n ∷ ns) (length lists ∷ ks) at rows start count position r in
        record {
          cells = c;
          sizes_are = refl;
          some = omega arith;
          rows_few = λ some. let up = times_up (length lists) (size ks) some in omega arith;
          row = λ i lt. let near = within i (length lists) (size ks) lt in omega arith;
          positions = λ i k p ps is_ps lt is_p. subst (λ q. q < n) (sym (is_p ∙ ap (λ qs. get_or qs k 0) is_ps)) (position_below n 0 (get_or lists i []) k (positions_in n i lists r.fed.0) (subst (λ qs. k < length qs) is_ps lt));
          next = λ i j row begin shape1 sizes1 lt lt_j is_row is_begin is_shape is_sizes.
              let near = within i (length lists) (size ks) lt in
              subst (λ z. AreRows rest z sizes1 row rows begin count j) (sym is_shape) (subst (λ z. AreRows rest ns z row rows begin count j) (sym is_sizes)
              (subst (λ m. AreRows rest ns ks row rows m count j) (sym is_begin) (next_rows (feed.By lists) rest n ns ks (length lists ∷ ks) at row rows start count position j j r r.fed.1 refl (omega arith) lt_j (c.below j lt_j).0)));
          is = λ i ps cells p is_ps. (λ k. flat_map (λ j. gathered j rest ns p (reads cells start j ns k)) (is_ps k));
        }

pub by_here : (lists : List (List ℕ)) (feeds rest : List Feed) (f : Feed) (shape sizes : List ℕ) (at rows start count position : ℕ) → 0 < length feeds → f ≡ get_or feeds 0 f → f ≡ feed.By lists → rest ≡ drop 1 feeds → AreRows feeds shape sizes at rows start count position → ByHere lists feeds rest shape sizes at rows start count position
by_here lists feeds rest f shape sizes at rows start count position some is is_f is_rest r =
    let e = parted feeds rest f (feed.By lists) some is is_f is_rest in
    subst (λ fs. ByHere lists fs rest shape sizes at rows start count position) (sym e) (by_rows lists rest shape sizes at rows start count position (subst (λ fs. AreRows fs shape sizes at rows start count position) e r))

-- ---- loops over positions

flat_one : {X : Type 0} (g : ℕ → List X) (i : ℕ) → flat_map g (i ∷ []) ≡ g i
flat_one g i = append-nil (g i)

pub list_more : {X : Type 0} (g : ℕ → List X) (ps : List ℕ) (i : ℕ) → i < length ps → flat_map g (take i ps) ++ g (get_or ps i 0) ≡ flat_map g (take (i + 1) ps)
list_more g ps i lt = ap (λ t. flat_map g (take i ps) ++ t) (sym (flat_one g (get_or ps i 0))) ∙ sym (flat_map-append g (take i ps) (get_or ps i 0 ∷ [])) ∙ ap (flat_map g) (sym (take_more ps i 0 lt))

pub range_more : (a n : ℕ) → range_with_len a (n + 1) ≡ range_with_len a n ++ (a + n) ∷ []
range_more a zero = let e : a ≡ a + 0 = omega arith in ap (λ k. k ∷ []) e
range_more a (suc n) =
    let e : (a + 1) + n ≡ a + suc n = omega arith in
    let k : suc n + 1 ≡ suc (n + 1) = omega arith in
    ap (range_with_len a) k ∙ ap (λ t. a ∷ t) (range_more (a + 1) n) ∙ ap (λ m. a ∷ (range_with_len (a + 1) n ++ m ∷ [])) e

pub range_step : {X : Type 0} (g : ℕ → List X) (i : ℕ) → flat_map g (range_with_len 0 i) ++ g i ≡ flat_map g (range_with_len 0 (i + 1))
range_step g i =
    let e : 0 + i ≡ i = omega arith in
    ap (λ t. flat_map g (range_with_len 0 i) ++ t) (sym (flat_one g i)) ∙ sym (flat_map-append g (range_with_len 0 i) (i ∷ [])) ∙ ap (λ k. flat_map g (range_with_len 0 i ++ k ∷ [])) (sym e) ∙ ap (flat_map g) (sym (range_more 0 i))

-- ---- leaves

-- where all axes stay, each row comes from its own cell
pub kept_sizes : (feeds : List Feed) (shape : List ℕ) → AllKept feeds → length feeds ≡ length shape → kept feeds shape ≡ shape
kept_sizes [] [] all long = refl
kept_sizes [] (n ∷ ns) all long = absurd (omega arith)
kept_sizes (feed.Keep ∷ fs) [] all long = absurd (omega arith)
kept_sizes (feed.Keep ∷ fs) (n ∷ ns) all long = ap (λ t. n ∷ t) (kept_sizes fs ns all (omega arith))
kept_sizes (feed.All ∷ fs) ns all long = absurd all
kept_sizes (feed.By lists ∷ fs) ns all long = absurd all

pub kept_cell : (feeds : List Feed) (shape p : List ℕ) (position : ℕ) (f : List ℕ → Option ℤ) → AllKept feeds → length feeds ≡ length shape → IsPoint shape p → (position, f p) ∷ [] ≡ gathered position feeds shape p f
kept_cell [] [] [] position f all long here = refl
kept_cell [] [] (i ∷ p) position f all long here = absurd here
kept_cell [] (n ∷ ns) p position f all long here = absurd (omega arith)
kept_cell (feed.Keep ∷ fs) [] p position f all long here = absurd (omega arith)
kept_cell (feed.Keep ∷ fs) (n ∷ ns) [] position f all long here = absurd here
kept_cell (feed.Keep ∷ fs) (n ∷ ns) (i ∷ p) position f all long here = kept_cell fs ns p position (λ q. f (i ∷ q)) all (omega arith) here.1
kept_cell (feed.All ∷ fs) ns p position f all long here = absurd all
kept_cell (feed.By lists ∷ fs) ns p position f all long here = absurd all

pub kept_row : (feeds : List Feed) (shape sizes p : List ℕ) (position start : ℕ) (cells : List (Option ℤ)) → AllKept feeds → length feeds ≡ length shape → sizes ≡ kept feeds shape → IsPoint sizes p → (position, get_or cells (start + place sizes p) None) ∷ [] ≡ gathered position feeds shape p (read_from cells start shape)
kept_row feeds shape sizes p position start cells all long is here =
    let e : sizes ≡ shape = is ∙ kept_sizes feeds shape all long in
    ap (λ s. (position, get_or cells (start + place s p) None) ∷ []) e ∙ kept_cell feeds shape p position (read_from cells start shape) all long (subst (λ s. IsPoint s p) e here)

pub kept_size : (feeds : List Feed) (shape sizes : List ℕ) → AllKept feeds → length feeds ≡ length shape → sizes ≡ kept feeds shape → size sizes ≡ size shape
kept_size feeds shape sizes all long is = ap size (is ∙ kept_sizes feeds shape all long)

pub run_cells : (n position start : ℕ) (cells : List (Option ℤ)) (p : List ℕ) → flat_map (λ i. (i, get_or cells (start + i) None) ∷ []) (range_with_len 0 n) ≡ gathered position (feed.All ∷ []) (n ∷ []) p (read_from cells start (n ∷ []))
run_cells n position start cells p = (λ k. flat_map (λ i. (i, get_or cells (start + same i k) None) ∷ []) (range_with_len 0 n))
  where
    same : (i : ℕ) → i ≡ i * 1 + 0
    same i = omega arith

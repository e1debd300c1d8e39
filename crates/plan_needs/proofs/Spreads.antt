-- Arrays all of whose cells are one cell.
use Rattle.std.proofs.Common.{◌≡◌, ◌<◌, ◌≤◌, ◌+◌, ◌-◌, ℕ, ℤ, zero, suc, List, [], ◌∷◌, length, take, drop, replicate, get_or, Option, Some, None, refl, sym, ap, subst, ◌∙◌, arith}
use Rattle.std.specs.List.{All}
use Rattle.std.specs.Option.{option_or}
use Rattle.std.proofs.lemmas.List.{get_or_default, length-take, length-drop, length-replicate}
use Rattle.std.proofs.lemmas.List.Elements.{All-head, All-tail, All-take, All-drop, All-replicate}
use Rattle.xr_types.specs.Points.{size, place}
use Rattle.xr_arrays.specs.declared.node.Node.{Node}
use Rattle.xr_arrays.specs.declared.node.Node.TheVariants.{Source, Take, Reorder, Widen, Unary, Binary, Choose, Fold, Scan, Concat, Chunk}
use Rattle.xr_arrays.specs.Arrays.{at, Array, IsArray}
use Rattle.xr_arrays.specs.Nodes.{nothing, value, widened, without, AllFit}
use Rattle.plan_core.specs.Needs.{source_at, source_of}
use Rattle.plan_core.proofs.Needs.{by_inputs, source_at_is, widen_ready}
use Rattle.plan_core.proofs.Tabs.{place_below, All-tab}
use Rattle.plan_core.proofs.Valued.{value_is_array}
use Rattle.plan_core.proofs.Widens.{without_inside}
use Rattle.plan_needs.specs.Spreads.{found, one_cell, spread, widens, widens_at, without_axes, IsSpread}
use Rattle.plan_needs.proofs.Ready.{each_kept, ready_anyway, source_value}

-- ---- lists of one element

same_cells : {X : Type 0} (c : X) (xs ys : List X) → length xs ≡ length ys → All (λ x. x ≡ c) xs → All (λ x. x ≡ c) ys → xs ≡ ys
same_cells c [] [] long hx hy = refl
same_cells c [] (y ∷ ys) long hx hy = absurd (omega arith)
same_cells c (x ∷ xs) [] long hx hy = absurd (omega arith)
same_cells c (x ∷ xs) (y ∷ ys) long hx hy =
    ap (λ k. k ∷ xs) (All-head (λ x. x ≡ c) x xs hx ∙ sym (All-head (λ x. x ≡ c) y ys hy)) ∙ ap (λ t. y ∷ t) (same_cells c xs ys (omega arith) (All-tail (λ x. x ≡ c) x xs hx) (All-tail (λ x. x ≡ c) y ys hy))

-- ---- one axis more

-- an axis that is added shows the same cells
widened_cells : (a : Array) (axis n : ℕ) (c : Option ℤ) → axis ≤ length a.shape → length a.cells ≡ size a.shape → All (λ x. x ≡ c) a.cells → All (λ x. x ≡ c) (widened a axis n).cells
widened_cells a axis n c le whole h =
    All-tab (λ x. x ≡ c) _ _ (λ p here. h (place a.shape (without axis p)) None (let b = place_below a.shape (without axis p) (without_inside a.shape axis n p le here) in omega (arith, b, whole)))

lone_cell : (a : Array) → IsArray a → a.shape ≡ [] → All (λ x. x ≡ get_or a.cells 0 None) a.cells
lone_cell a is flat k d lt =
    let one : length a.cells ≡ 1 = is.whole ∙ ap size flat in
    let first : k ≡ 0 = omega (arith, lt, one) in
    ap (λ i. get_or a.cells i d) first ∙ get_or_default a.cells 0 d None (omega (arith, one))

-- ---- nodes

pub widens_at_is : (nodes : List Node) (i : ℕ) (d : Node) → i < length nodes → widens_at nodes i ≡ widens (get_or nodes i d)
widens_at_is [] i d lt = absurd (omega arith)
widens_at_is (node ∷ nodes) zero d lt = refl
widens_at_is (node ∷ nodes) (suc i) d lt = widens_at_is nodes i d (omega arith)

record Widens (node : Node) (n : ℕ) : Type 0 where
  pub axis : ℕ
  pub count : ℕ
  pub is : node ≡ Widen n axis count

widens_is : (node : Node) (n : ℕ) → widens node ≡ Some n → Widens node n
widens_is (Source a) n e = absurd cc
widens_is (Take m axis from fill drops) n e = absurd cc
widens_is (Reorder m order) n e = absurd cc
widens_is (Widen m axis count) n e = let s : m ≡ n = cc in record { axis = axis; count = count; is = ap (λ k. Widen k axis count) s }
widens_is (Unary op kind m) n e = absurd cc
widens_is (Binary op m k) n e = absurd cc
widens_is (Choose c m k) n e = absurd cc
widens_is (Fold k m feeds) n e = absurd cc
widens_is (Scan k m axis) n e = absurd cc
widens_is (Concat ns axis) n e = absurd cc
widens_is (Chunk m sizes) n e = absurd cc

one_axis_more : (nodes : List Node) (m n : ℕ) (a : Array) → AllFit [] nodes → m < length nodes → widens_at nodes m ≡ Some n → IsSpread (value nodes n) a → IsSpread (value nodes m) a
one_axis_more nodes m n a fit lt e s =
    let node : Node = get_or nodes m (Source nothing) in
    let is : node ≡ get_or nodes m node = get_or_default nodes m (Source nothing) node lt in
    let w = widens_is node n (sym (widens_at_is nodes m (Source nothing) lt) ∙ e) in
    let r = widen_ready nodes (each_kept nodes) node n w.axis w.count w.is (ready_anyway nodes m node fit lt is) in
    let here : value nodes m ≡ widened (value nodes n) w.axis w.count = by_inputs nodes m node fit lt is ∙ sym r.is in
    subst (λ (v : Array). IsSpread v a) (sym here) (record {
      array = s.array;
      kind = s.kind;
      flat = s.flat;
      cells = widened_cells (value nodes n) w.axis w.count (get_or a.cells 0 None) r.widening.axis_is (value_is_array nodes n fit r.held.there).whole s.cells;
    })

flat_source : (o : Option Array) (a : Array) → without_axes o ≡ Some a → (o ≡ Some a) × (a.shape ≡ [])
flat_source None a e = absurd cc
flat_source (Some b) a e = flat b a b.shape refl e
  where
    flat : (b a : Array) (s : List ℕ) → b.shape ≡ s → one_cell b s ≡ Some a → (Some b ≡ Some a) × (a.shape ≡ [])
    flat b a [] is e = let s : b ≡ a = cc in (e, ap (λ (x : Array). x.shape) (sym s) ∙ is)
    flat b a (n ∷ ns) is e = absurd cc

input_there : (nodes : List Node) (m n : ℕ) → AllFit [] nodes → m < length nodes → widens_at nodes m ≡ Some n → n < length nodes
input_there nodes m n fit lt e =
    let node : Node = get_or nodes m (Source nothing) in
    let is : node ≡ get_or nodes m node = get_or_default nodes m (Source nothing) node lt in
    let w = widens_is node n (sym (widens_at_is nodes m (Source nothing) lt) ∙ e) in
    (widen_ready nodes (each_kept nodes) node n w.axis w.count w.is (ready_anyway nodes m node fit lt is)).held.there

-- ---- what the code has at hand

spread_at : (steps : ℕ) (nodes : List Node) (at : ℕ) (node : Node) → 0 < steps → at < length nodes → node ≡ get_or nodes at node → spread steps nodes at ≡ found (widens node) (λ n. option_or (without_axes (source_at nodes n)) (spread (steps - 1) nodes n))
spread_at zero nodes at node some lt is = absurd (omega arith)
spread_at (suc k) nodes at node some lt is =
    let e : suc k - 1 ≡ k = omega arith in
    ap (λ w. found w (λ n. option_or (without_axes (source_at nodes n)) (spread k nodes n))) (widens_at_is nodes at node lt ∙ ap widens (sym is)) ∙ ap (λ j. found (widens node) (λ n. option_or (without_axes (source_at nodes n)) (spread j nodes n))) (sym e)

none_of : {X : Type 0} (o : Option X) → ((x : X) → o ≡ Some x → ⊥) → None ≡ o
none_of None not = refl
none_of (Some x) not = absurd (not x refl)

pub spread_none : (steps : ℕ) (nodes : List Node) (at : ℕ) (node : Node) → 0 < steps → at < length nodes → node ≡ get_or nodes at node → None ≡ widens node → None ≡ spread steps nodes at
spread_none steps nodes at node some lt is none = sym (spread_at steps nodes at node some lt is ∙ ap (λ w. found w (λ n. option_or (without_axes (source_at nodes n)) (spread (steps - 1) nodes n))) (sym none))

pub spread_found : (steps : ℕ) (nodes : List Node) (at : ℕ) (node inner : Node) (n : ℕ) (o : Option Array) → 0 < steps → at < length nodes → node ≡ get_or nodes at node → Some n ≡ widens node → n < length nodes → inner ≡ get_or nodes n inner → o ≡ without_axes (source_of inner)
    → option_or o (spread (steps - 1) nodes n) ≡ spread steps nodes at
spread_found steps nodes at node inner n o some lt is is_widened below is_inner is_o =
    sym (spread_at steps nodes at node some lt is ∙ ap (λ w. found w (λ n. option_or (without_axes (source_at nodes n)) (spread (steps - 1) nodes n))) (sym is_widened)
    ∙ ap (λ s. option_or (without_axes s) (spread (steps - 1) nodes n)) (source_at_is nodes n inner below ∙ ap source_of (sym is_inner)) ∙ ap (λ s. option_or s (spread (steps - 1) nodes n)) (sym is_o))

pub widened_there : (nodes : List Node) (at : ℕ) (node : Node) (n : ℕ) → AllFit [] nodes → at < length nodes → node ≡ get_or nodes at node → Some n ≡ widens node → n < length nodes
widened_there nodes at node n fit lt is e = input_there nodes at n fit lt (widens_at_is nodes at node lt ∙ ap widens (sym is) ∙ sym e)

-- the cells are all that of the source that was found
pub spread_is : (k : ℕ) (nodes : List Node) (m : ℕ) (a : Array) → AllFit [] nodes → m < length nodes → spread k nodes m ≡ Some a → IsSpread (value nodes m) a
spread_is zero nodes m a fit lt e = absurd cc
spread_is (suc k) nodes m a fit lt e = by_widens (widens_at nodes m) refl (λ n below is. spread_is k nodes n a fit below is) e
  where
    by_source : (n : ℕ) (o : Option Array) → n < length nodes → without_axes (source_at nodes n) ≡ o → (spread k nodes n ≡ Some a → IsSpread (value nodes n) a) → option_or o (spread k nodes n) ≡ Some a → IsSpread (value nodes n) a
    by_source n None below is deeper e = deeper e
    by_source n (Some b) below is deeper e =
        let s : b ≡ a = cc in
        let both = flat_source (source_at nodes n) a (is ∙ e) in
        let same : a ≡ value nodes n = source_value nodes n a fit below (sym both.0) in
        let array = value_is_array nodes n fit below in
        let is_array : IsArray a = subst (λ (x : Array). IsArray x) (sym same) array in
        subst (λ (v : Array). IsSpread v a) same (record { array = is_array; kind = refl; flat = both.1; cells = lone_cell a is_array both.1 })

    by_widens : (w : Option ℕ) → widens_at nodes m ≡ w → ((n : ℕ) → n < length nodes → spread k nodes n ≡ Some a → IsSpread (value nodes n) a) → found w (λ n. option_or (without_axes (source_at nodes n)) (spread k nodes n)) ≡ Some a → IsSpread (value nodes m) a
    by_widens None is deeper e = absurd cc
    by_widens (Some n) is deeper e =
        let below = input_there nodes m n fit lt is in
        one_axis_more nodes m n a fit lt is (by_source n (without_axes (source_at nodes n)) below refl (deeper n below) e)

-- ---- strips

-- cells that are all one are so many times the source's
pub spread_part : (v a : Array) (f n : ℕ) → IsArray v → IsSpread v a → f + n ≤ size v.shape → replicate n (get_or a.cells 0 None) ≡ take n (drop f v.cells)
spread_part v a f n is s inside =
    let c = get_or a.cells 0 None in
    let w = is.whole in
    let d = length-drop f v.cells in
    let t = length-take n (drop f v.cells) in
    same_cells c (replicate n c) (take n (drop f v.cells)) (length-replicate n c ∙ omega (arith, d, t, w, inside)) (All-replicate (λ x. x ≡ c) n c refl) (All-take (λ x. x ≡ c) n (drop f v.cells) (All-drop (λ x. x ≡ c) f v.cells s.cells))

pub record SpreadPart (v a : Array) (f n : ℕ) : Type 0 where
  pub array : IsArray a
  pub kind : v.kind ≡ a.kind
  pub flat : a.shape ≡ []
  pub is : replicate n (get_or a.cells 0 None) ≡ take n (drop f v.cells)

-- strips of a node whose cells are one cell
pub part_found : (nodes : List Node) (m : ℕ) (a : Array) (f n : ℕ) → AllFit [] nodes → m < length nodes → Some a ≡ spread 16 nodes m → f + n ≤ size (value nodes m).shape → SpreadPart (value nodes m) a f n
part_found nodes m a f n fit lt e inside =
    let s = spread_is 16 nodes m a fit lt (sym e) in
    record { array = s.array; kind = s.kind; flat = s.flat; is = spread_part (value nodes m) a f n (value_is_array nodes m fit lt) s inside }

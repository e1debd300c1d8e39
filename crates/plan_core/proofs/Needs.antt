-- A node is computed from its inputs, which are held until nothing needs them any more.
use Rattle.std.proofs.Common.{◌≡◌, ◌<◌, ◌≤◌, ◌+◌, ℕ, ℤ, zero, suc, Bool, true, false, List, [], ◌∷◌, ◌++◌, length, map, take, drop, get_or, Option, Some, None, is_some, Result, Ok, Err, OnOk, refl, sym, ap, subst, ◌∙◌, arith, length-append, inl, inr}
use Rattle.std.specs.List.{All}
use Rattle.std.specs.Option.{option_or}
use Rattle.std.proofs.lemmas.Bool.{cases_lt}
use Rattle.std.proofs.lemmas.List.{take_more, length-take, length-map, take-append-drop, get_or_default, take_all, drop_all, append-nil}
use Rattle.std.proofs.lemmas.List.Elements.{All-head, All-tail, All-cons}
use Rattle.std.proofs.Math.Seq.{get_or-append_seam}
use Rattle.std.proofs.Math.ListN.{get_or-append}
use Rattle.xr_arrays.specs.declared.node.Node.{Node}
use Rattle.xr_arrays.specs.declared.node.Node.TheVariants.{Source, Take, Reorder, Widen, Unary, Binary, Choose, Fold, Scan, Concat, Chunk}
use Rattle.xr_arrays.specs.declared.node.Feed.{Feed}
use Rattle.xr_types.specs.declared.kind.DType.{DType}
use Rattle.xr_types.specs.declared.kind.DType.TheVariants.{Bool as truths}
use Rattle.xr_types.specs.declared.operation.OpKind.{OpKind}
use Rattle.xr_types.specs.declared.operation.FoldKind.{FoldKind}
use Rattle.xr_types.specs.declared.operation.FoldKind.TheVariants as folds
use Rattle.xr_types.specs.Points.{size}
use Rattle.xr_arrays.specs.Arrays.{Array, IsArray, IsCell}
use Rattle.xr_arrays.specs.Elements.{unary_of, binary_of, choose_of, result_kind, takes_one, takes_two, Gives, Suits}
use Rattle.xr_arrays.specs.Nodes.{value, values, node_value, node_of, input_of, nothing, AllFit, Fits, FitsBy, AreFed, IsBelow, IsOrder, Continues, first_array, concatenated, taken_or_picked, reordered, widened, folded, folded_axes, is_positional, scanned, kept, most_axes, most_node_cells}
use Rattle.plan_core.specs.Plans.{Grows}
use Rattle.plan_core.specs.Takes.{taking_sizes, IsTaking}
use Rattle.plan_core.specs.Widens.{IsWidening}
use Rattle.plan_core.specs.Needs.{inputs_of, inputs_at, source_of, source_at, IsClosedFrom, IsHeld, AreHeld, IsReady}
use Rattle.plan_core.proofs.Plans.{values-append, values-length, grown_value, fits_at}
use Rattle.plan_core.proofs.Concats.{all_more}
use Rattle.plan_core.proofs.Valued.{value_is_array}

-- ---- a node's value by those of the nodes before it

before_grows : (nodes : List Node) (i : ℕ) → Grows (take i nodes) nodes
before_grows nodes i = record { more = drop i nodes; is = sym (take-append-drop i nodes) }

take-length : (nodes : List Node) (i : ℕ) → i ≤ length nodes → length (take i nodes) ≡ i
take-length nodes i le = rw length-take (omega arith)

earlier : (nodes : List Node) (i m : ℕ) → i ≤ length nodes → m < i → input_of (values (take i nodes)) m ≡ value nodes m
earlier nodes i m le lt = sym (grown_value (take i nodes) nodes m (before_grows nodes i) (let e = take-length nodes i le in omega (arith, e, lt)))

-- the value at a node is that of its plan so far with it
pub value_at : (nodes : List Node) (i : ℕ) (d : Node) → i < length nodes → value nodes i ≡ node_value (values (take i nodes)) (get_or nodes i d)
value_at nodes i d lt =
    let done : List Array = values (take i nodes) in
    let one : Array = node_value done (get_or nodes i d) in
    let long : length done ≡ i = values-length (take i nodes) ∙ take-length nodes i (omega arith) in
    let more : values (take (i + 1) nodes) ≡ done ++ one ∷ [] = ap values (take_more nodes i d lt) ∙ values-append [] (take i nodes) (get_or nodes i d) in
    grown_value (take (i + 1) nodes) nodes i (before_grows nodes (i + 1)) (let e = take-length nodes (i + 1) (omega arith) in omega (arith, e))
    ∙ ap (λ vs. get_or vs i nothing) more ∙ ap (λ k. get_or (done ++ one ∷ []) k nothing) (sym long) ∙ get_or-append_seam done one [] nothing

map_agree : (f g : ℕ → Array) (i : ℕ) (ns : List ℕ) → ((m : ℕ) → m < i → f m ≡ g m) → All (λ m. m < i) ns → map f ns ≡ map g ns
map_agree f g i [] h all = refl
map_agree f g i (n ∷ ns) h all = ap (λ a. a ∷ map f ns) (h n (All-head (λ m. m < i) n ns all)) ∙ ap (λ t. g n ∷ t) (map_agree f g i ns h (All-tail (λ m. m < i) n ns all))

pub all_single : {A : Type 0} (P : A → Type 0) (x : A) → P x → All P (x ∷ [])
all_single P x h = All-cons P x [] h (λ k d lt. absurd (omega arith))

-- the inputs are among the earlier nodes
pub inputs_below : (i : ℕ) (f : ℕ → Array) (node : Node) → FitsBy i f node → All (λ m. m < i) (inputs_of node)
inputs_below i f (Source a) fits = λ k d lt. absurd (omega arith)
inputs_below i f (Take n axis from fill drops) fits = all_single (λ m. m < i) n fits.0
inputs_below i f (Reorder n order) fits = all_single (λ m. m < i) n fits.0
inputs_below i f (Widen n axis count) fits = all_single (λ m. m < i) n fits.0
inputs_below i f (Unary op kind n) fits = all_single (λ m. m < i) n fits.0
inputs_below i f (Binary op m n) fits = All-cons (λ m. m < i) m (n ∷ []) fits.0 (all_single (λ m. m < i) n fits.1)
inputs_below i f (Choose c m n) fits = All-cons (λ m. m < i) c (m ∷ n ∷ []) fits.0 (All-cons (λ m. m < i) m (n ∷ []) fits.1 (all_single (λ m. m < i) n fits.2))
inputs_below i f (Fold k n feeds) fits = all_single (λ m. m < i) n fits.0
inputs_below i f (Scan k n axis) fits = all_single (λ m. m < i) n fits.0
inputs_below i f (Concat ns axis) fits = fits.1
inputs_below i f (Chunk n sizes) fits = all_single (λ m. m < i) n fits.0

-- values that agree on the earlier nodes give the node one value
module _ (i : ℕ) (f g : ℕ → Array) (h : (m : ℕ) → m < i → f m ≡ g m) where
  pub node_agrees : (node : Node) → FitsBy i f node → node_of f node ≡ node_of g node
  node_agrees (Source a) fits = refl
  node_agrees (Take n axis from fill drops) fits = ap (λ a. taken_or_picked drops a axis from fill) (h n fits.0)
  node_agrees (Reorder n order) fits = ap (λ a. reordered a order) (h n fits.0)
  node_agrees (Widen n axis count) fits = ap (λ a. widened a axis count) (h n fits.0)
  node_agrees (Unary op kind n) fits = ap (unary_of op kind) (h n fits.0)
  node_agrees (Binary op m n) fits = ap (λ (a : Array). binary_of op (result_kind op a.kind) a (f n)) (h m fits.0) ∙ ap (binary_of op (result_kind op (g m).kind) (g m)) (h n fits.1)
  node_agrees (Choose c m n) fits = ap (λ a. choose_of a (f m) (f n)) (h c fits.0) ∙ ap (λ a. choose_of (g c) a (f n)) (h m fits.1) ∙ ap (choose_of (g c) (g m)) (h n fits.2)
  node_agrees (Fold k n feeds) fits = ap (folded k feeds) (h n fits.0)
  node_agrees (Scan k n axis) fits = ap (λ a. scanned k a axis) (h n fits.0)
  node_agrees (Concat ns axis) fits = ap (λ bs. concatenated bs axis) (map_agree f g i ns h fits.1)
  node_agrees (Chunk n sizes) fits = h n fits.0

  pub fits_agree : (node : Node) → FitsBy i f node → FitsBy i g node
  fits_agree (Source a) fits = fits
  fits_agree (Take n axis from fill drops) fits =
      let e = h n fits.0 in
      (fits.0, subst (λ (a : Array). axis < length a.shape) e fits.1, subst (λ (a : Array). All (IsBelow (get_or a.shape axis 0)) from) e fits.2, subst (λ (a : Array). IsCell a.kind fill) e fits.3, fits.4)
  fits_agree (Reorder n order) fits = (fits.0, subst (λ (a : Array). IsOrder (length a.shape) order) (h n fits.0) fits.1)
  fits_agree (Widen n axis count) fits = (fits.0, subst (λ (a : Array). axis ≤ length a.shape) (h n fits.0) fits.1)
  fits_agree (Unary op kind n) fits = let e = h n fits.0 in (fits.0, fits.1, subst (λ (a : Array). Gives op kind a.kind) e fits.2, subst (λ (a : Array). Suits op a.kind) e fits.3)
  fits_agree (Binary op m n) fits =
      let d = h m fits.0 in
      let e = h n fits.1 in
      (fits.0, fits.1, fits.2, ap (λ (a : Array). a.shape) (sym e) ∙ fits.3 ∙ ap (λ (a : Array). a.shape) d, ap (λ (a : Array). a.kind) (sym e) ∙ fits.4 ∙ ap (λ (a : Array). a.kind) d, subst (λ (a : Array). Suits op a.kind) d fits.5)
  fits_agree (Choose c m n) fits =
      let b = h c fits.0 in
      let d = h m fits.1 in
      let e = h n fits.2 in (
        fits.0,
        fits.1,
        fits.2,
        ap (λ (a : Array). a.kind) (sym b) ∙ fits.3,
        ap (λ (a : Array). a.shape) (sym b) ∙ fits.4 ∙ ap (λ (a : Array). a.shape) d,
        ap (λ (a : Array). a.shape) (sym e) ∙ fits.5 ∙ ap (λ (a : Array). a.shape) d,
        ap (λ (a : Array). a.kind) (sym e) ∙ fits.6 ∙ ap (λ (a : Array). a.kind) d,
      )
  fits_agree (Fold k n feeds) fits = let e = h n fits.0 in (fits.0, subst (λ (a : Array). length feeds ≡ length a.shape) e fits.1, subst (λ (a : Array). AreFed feeds a.shape) e fits.2, fits.3)
  fits_agree (Scan k n axis) fits = (fits.0, fits.1, subst (λ (a : Array). axis < length a.shape) (h n fits.0) fits.2)
  fits_agree (Concat ns axis) fits =
      let e : map f ns ≡ map g ns = map_agree f g i ns h fits.1 in (
        fits.0,
        fits.1,
        subst (λ (bs : List Array). axis < length (first_array bs).shape) e fits.2,
        λ k d lt. subst (λ (b : Array). Continues axis (first_array (map g ns)) b) (h (get_or ns k d) (fits.1 k d lt)) (subst (λ (bs : List Array). Continues axis (first_array bs) (f (get_or ns k d))) e (fits.3 k d lt)),
      )
  fits_agree (Chunk n sizes) fits = (fits.0, subst (λ (a : Array). length sizes ≡ length a.shape) (h n fits.0) fits.1, fits.2)

pub record ByEarlier (nodes : List Node) (i : ℕ) (node : Node) : Type 0 where
  pub is : node_value (values (take i nodes)) node ≡ node_of (value nodes) node
  pub fits : FitsBy i (value nodes) node
  pub before : All (λ m. m < i) (inputs_of node)

by_earlier : (nodes : List Node) (i : ℕ) (node : Node) → i ≤ length nodes → Fits (values (take i nodes)) node → ByEarlier nodes i node
unfolding node_value
by_earlier nodes i node le fits =
    let done : List Array = values (take i nodes) in
    let long : length done ≡ i = values-length (take i nodes) ∙ take-length nodes i le in
    let here : FitsBy i (input_of done) node = subst (λ k. FitsBy k (input_of done) node) long fits in
    record {
      is = node_agrees i (input_of done) (value nodes) (λ m lt. earlier nodes i m le lt) node here;
      fits = fits_agree i (input_of done) (value nodes) (λ m lt. earlier nodes i m le lt) node here;
      before = inputs_below i (input_of done) node here;
    }

-- ---- a node in its plan

pub inputs_at_is : (nodes : List Node) (i : ℕ) (d : Node) → i < length nodes → inputs_at nodes i ≡ inputs_of (get_or nodes i d)
inputs_at_is [] i d lt = absurd (omega arith)
inputs_at_is (node ∷ nodes) zero d lt = refl
inputs_at_is (node ∷ nodes) (suc i) d lt = inputs_at_is nodes i d (omega arith)

pub source_at_is : (nodes : List Node) (i : ℕ) (d : Node) → i < length nodes → source_at nodes i ≡ source_of (get_or nodes i d)
source_at_is [] i d lt = absurd (omega arith)
source_at_is (node ∷ nodes) zero d lt = refl
source_at_is (node ∷ nodes) (suc i) d lt = source_at_is nodes i d (omega arith)

node_at : (nodes : List Node) (i : ℕ) (d : Node) → AllFit [] nodes → i < length nodes → ByEarlier nodes i (get_or nodes i d)
node_at nodes i d fit lt = by_earlier nodes i (get_or nodes i d) (omega arith) (fits_at nodes i d fit lt).fits

-- its inputs are earlier nodes
pub inputs_before : (nodes : List Node) (i : ℕ) (d : Node) → AllFit [] nodes → i < length nodes → All (λ m. m < i) (inputs_at nodes i)
inputs_before nodes i d fit lt = subst (All (λ m. m < i)) (sym (inputs_at_is nodes i d lt)) (node_at nodes i d fit lt).before

pub value_small : (nodes : List Node) (i : ℕ) (d : Node) → AllFit [] nodes → i < length nodes → size (value nodes i).shape ≤ most_node_cells
value_small nodes i d fit lt = subst (λ (a : Array). size a.shape ≤ most_node_cells) (sym (value_at nodes i d lt)) (fits_at nodes i d fit lt).small

pub value_rank : (nodes : List Node) (i : ℕ) (d : Node) → AllFit [] nodes → i < length nodes → length (value nodes i).shape ≤ most_axes
value_rank nodes i d fit lt = subst (λ (a : Array). length a.shape ≤ most_axes) (sym (value_at nodes i d lt)) (fits_at nodes i d fit lt).low_rank

pub by_inputs : (nodes : List Node) (i : ℕ) (node : Node) → AllFit [] nodes → i < length nodes → node ≡ get_or nodes i node → value nodes i ≡ node_of (value nodes) node
by_inputs nodes i node fit lt is = value_at nodes i node lt ∙ (node_at nodes i node fit lt).is ∙ ap (node_of (value nodes)) (sym is)

pub ready : (nodes : List Node) (done : List (Option Array)) (i : ℕ) (node : Node) → AllFit [] nodes → i < length nodes → node ≡ get_or nodes i node → All (IsHeld nodes done) (inputs_at nodes i) → IsReady nodes done node
ready nodes done i node fit lt is held =
    let by = node_at nodes i node fit lt in
    let same : inputs_at nodes i ≡ inputs_of node = inputs_at_is nodes i node lt ∙ ap inputs_of (sym is) in
    let inputs : All (IsHeld nodes done) (inputs_of node) = subst (All (IsHeld nodes done)) same held in
    record {
      place = i;
      inputs = inputs;
      arrays = λ k d lt. value_is_array nodes (get_or (inputs_of node) k d) fit (inputs k d lt).there;
      few = λ k d lt. value_small nodes (get_or (inputs_of node) k d) node fit (inputs k d lt).there;
      fits = subst (FitsBy i (value nodes)) (sym is) by.fits;
      small = subst (λ (a : Array). size a.shape ≤ most_node_cells) (by_inputs nodes i node fit lt is) (value_small nodes i node fit lt);
    }

-- ---- marks

pub closed_more : (nodes : List Node) (old new : List ℕ) (at : ℕ) → length new ≡ length old → All (λ m. m < at) (inputs_at nodes at) → All (λ m. at ≤ get_or new m 0) (inputs_at nodes at) → ((k : ℕ) → get_or old k 0 ≤ get_or new k 0)
    → ((k : ℕ) → All (λ m. m < k) (inputs_at nodes at) → get_or new k 0 ≡ get_or old k 0) → IsClosedFrom nodes old (at + 1) → IsClosedFrom nodes new at
closed_more nodes old new at long before marked grows others closed i from inside some = elim (cases_lt at i) [
  | inl later ↦
      let same : get_or new i 0 ≡ get_or old i 0 = others i (λ k d lt. let b = before k d lt in omega (arith, b, later)) in
      let all = closed i (omega (arith, later)) (omega (arith, inside, long)) (omega (arith, some, same)) in
      λ k d lt. let a = all k d lt in let g = grows (get_or (inputs_at nodes i) k d) in omega (arith, a, g)
  | inr here ↦ let e : at ≡ i = omega (arith, here, from) in subst (λ j. All (λ m. j ≤ get_or new m 0) (inputs_at nodes j)) e marked
]

pub closed_same : (nodes : List Node) (until : List ℕ) (at : ℕ) → get_or until at 0 ≡ 0 → IsClosedFrom nodes until (at + 1) → IsClosedFrom nodes until at
closed_same nodes until at none closed i from inside some = elim (cases_lt at i) [
  | inl later ↦ closed i (omega (arith, later)) inside some
  | inr here ↦ let e : i ≡ at = omega (arith, here, from) in let z : get_or until i 0 ≡ 0 = ap (λ j. get_or until j 0) e ∙ none in absurd (omega (arith, some, z))
]

-- ---- what is held

pub held_inputs : (nodes : List Node) (done : List (Option Array)) (until : List ℕ) (at : ℕ) (d : Node) → AllFit [] nodes → at < length nodes → IsClosedFrom nodes until 0 → at < length until → 0 < get_or until at 0 → AreHeld nodes done until at → All (IsHeld nodes done) (inputs_at nodes at)
held_inputs nodes done until at d fit lt closed inside some held k e below = held (get_or (inputs_at nodes at) k e) (inputs_before nodes at d fit lt k e below) (closed at (omega arith) inside some k e below)

pub held_more : (nodes : List Node) (done pushed freed : List (Option Array)) (v : Option Array) (until : List ℕ) (at : ℕ) → length done ≡ at → at < length nodes → AreHeld nodes done until at → (0 < get_or until at 0 → option_or (source_at nodes at) v ≡ Some (value nodes at))
    → pushed ≡ done ++ v ∷ [] → length freed ≡ length pushed → ((m : ℕ) → at < get_or until m 0 → get_or freed m None ≡ get_or pushed m None) → AreHeld nodes freed until (at + 1)
held_more nodes done pushed freed v until at long lt held this is_pushed same kept m below later =
    let here = kept m (omega (arith, later)) in
    let count : length freed ≡ at + 1 = same ∙ ap length is_pushed ∙ length-append done (v ∷ []) ∙ omega (arith, long) in
    elim (cases_lt m at) [
      | inl before ↦
          let old = held m before (omega (arith, later)) in
          let e : get_or freed m None ≡ get_or done m None = here ∙ ap (λ xs. get_or xs m None) is_pushed ∙ get_or-append done (v ∷ []) None m (omega (arith, before, long)) in
          record { there = old.there; done_there = omega (arith, count, below); is = ap (option_or (source_at nodes m)) e ∙ old.is }
      | inr after ↦
          let k : m ≡ at = omega (arith, after, below) in
          let e : get_or freed m None ≡ v = here ∙ ap (λ xs. get_or xs m None) is_pushed ∙ ap (λ j. get_or (done ++ v ∷ []) j None) (k ∙ sym long) ∙ get_or-append_seam done v [] None in
          let some : 0 < get_or until at 0 = let u : get_or until m 0 ≡ get_or until at 0 = ap (λ j. get_or until j 0) k in omega (arith, later, u) in
          record { there = omega (arith, k, lt); done_there = omega (arith, count, below); is = ap (option_or (source_at nodes m)) e ∙ ap (λ j. option_or (source_at nodes j) v) k ∙ this some ∙ ap (λ j. Some (value nodes j)) (sym k) }
    ]

-- ---- each kind of node: its inputs are held and fit, and it is what they give

pub shape_taken : (drops : Bool) (a : Array) (axis : ℕ) (from : List (Option ℕ)) (fill : Option ℤ) → (taken_or_picked drops a axis from fill).shape ≡ taking_sizes drops a.shape axis from
shape_taken true a axis from fill = refl
shape_taken false a axis from fill = refl

pub record TakeReady (nodes : List Node) (done : List (Option Array)) (node : Node) (n axis : ℕ) (from : List (Option ℕ)) (fill : Option ℤ) (drops : Bool) : Type 0 where
  pub held : IsHeld nodes done n
  pub taking : IsTaking drops (value nodes n).shape axis from
  pub fill_is : IsCell (value nodes n).kind fill
  pub is : taken_or_picked drops (value nodes n) axis from fill ≡ node_of (value nodes) node

pub take_ready : (nodes : List Node) (done : List (Option Array)) (node : Node) (n axis : ℕ) (from : List (Option ℕ)) (fill : Option ℤ) (drops : Bool) → node ≡ Take n axis from fill drops → IsReady nodes done node → TakeReady nodes done node n axis from fill drops
take_ready nodes done node n axis from fill drops is can =
    let r : IsReady nodes done (Take n axis from fill drops) = subst (IsReady nodes done) is can in
    record {
      held = All-head (IsHeld nodes done) n [] r.inputs;
      taking = record {
        axis_is = r.fits.1;
        inside = r.fits.2;
        few = All-head (λ m. size (value nodes m).shape ≤ most_node_cells) n [] r.few;
        one = r.fits.4;
        small = subst (λ (t : List ℕ). size t ≤ most_node_cells) (shape_taken drops (value nodes n) axis from fill) r.small;
      };
      fill_is = r.fits.3;
      is = ap (node_of (value nodes)) (sym is);
    }

pub record ReorderReady (nodes : List Node) (done : List (Option Array)) (node : Node) (n : ℕ) (order : List ℕ) : Type 0 where
  pub held : IsHeld nodes done n
  pub each : IsOrder (length (value nodes n).shape) order
  pub few : size (value nodes n).shape ≤ most_node_cells
  pub small : size (reordered (value nodes n) order).shape ≤ most_node_cells
  pub is : reordered (value nodes n) order ≡ node_of (value nodes) node

pub reorder_ready : (nodes : List Node) (done : List (Option Array)) (node : Node) (n : ℕ) (order : List ℕ) → node ≡ Reorder n order → IsReady nodes done node → ReorderReady nodes done node n order
reorder_ready nodes done node n order is can =
    let r : IsReady nodes done (Reorder n order) = subst (IsReady nodes done) is can in
    record { held = All-head (IsHeld nodes done) n [] r.inputs; each = r.fits.1; few = All-head (λ m. size (value nodes m).shape ≤ most_node_cells) n [] r.few; small = r.small; is = ap (node_of (value nodes)) (sym is) }

pub record WidenReady (nodes : List Node) (done : List (Option Array)) (node : Node) (n axis count : ℕ) : Type 0 where
  pub held : IsHeld nodes done n
  pub widening : IsWidening (value nodes n).shape axis count
  pub is : widened (value nodes n) axis count ≡ node_of (value nodes) node

pub widen_ready : (nodes : List Node) (done : List (Option Array)) (node : Node) (n axis count : ℕ) → node ≡ Widen n axis count → IsReady nodes done node → WidenReady nodes done node n axis count
widen_ready nodes done node n axis count is can =
    let r : IsReady nodes done (Widen n axis count) = subst (IsReady nodes done) is can in
    record { held = All-head (IsHeld nodes done) n [] r.inputs; widening = record { axis_is = r.fits.1; few = All-head (λ m. size (value nodes m).shape ≤ most_node_cells) n [] r.few; small = r.small }; is = ap (node_of (value nodes)) (sym is) }

pub record FoldReady (nodes : List Node) (done : List (Option Array)) (node : Node) (k : FoldKind) (n : ℕ) (feeds : List Feed) : Type 0 where
  pub held : IsHeld nodes done n
  pub array : IsArray (value nodes n)
  pub feeds_are : length feeds ≡ length (value nodes n).shape
  pub fed : AreFed feeds (value nodes n).shape
  pub one_axis : is_positional k ≡ true → folded_axes feeds ≡ 1
  pub few : size (value nodes n).shape ≤ most_node_cells
  pub small : size (kept feeds (value nodes n).shape) ≤ most_node_cells
  pub is : folded k feeds (value nodes n) ≡ node_of (value nodes) node

pub fold_ready : (nodes : List Node) (done : List (Option Array)) (node : Node) (k : FoldKind) (n : ℕ) (feeds : List Feed) → node ≡ Fold k n feeds → IsReady nodes done node → FoldReady nodes done node k n feeds
fold_ready nodes done node k n feeds is can =
    let r : IsReady nodes done (Fold k n feeds) = subst (IsReady nodes done) is can in
    record { held = All-head (IsHeld nodes done) n [] r.inputs; array = All-head (λ m. IsArray (value nodes m)) n [] r.arrays; feeds_are = r.fits.1; fed = r.fits.2; one_axis = r.fits.3; few = All-head (λ m. size (value nodes m).shape ≤ most_node_cells) n [] r.few; small = r.small; is = ap (node_of (value nodes)) (sym is) }

pub record ScanReady (nodes : List Node) (done : List (Option Array)) (node : Node) (k : FoldKind) (n axis : ℕ) : Type 0 where
  pub held : IsHeld nodes done n
  pub array : IsArray (value nodes n)
  pub sum : k ≡ folds.Sum
  pub axis_is : axis < length (value nodes n).shape
  pub few : size (value nodes n).shape ≤ most_node_cells
  pub is : scanned k (value nodes n) axis ≡ node_of (value nodes) node

pub scan_ready : (nodes : List Node) (done : List (Option Array)) (node : Node) (k : FoldKind) (n axis : ℕ) → node ≡ Scan k n axis → IsReady nodes done node → ScanReady nodes done node k n axis
scan_ready nodes done node k n axis is can =
    let r : IsReady nodes done (Scan k n axis) = subst (IsReady nodes done) is can in
    record { held = All-head (IsHeld nodes done) n [] r.inputs; array = All-head (λ m. IsArray (value nodes m)) n [] r.arrays; sum = r.fits.1; axis_is = r.fits.2; few = All-head (λ m. size (value nodes m).shape ≤ most_node_cells) n [] r.few; is = ap (node_of (value nodes)) (sym is) }

pub record ChunkReady (nodes : List Node) (done : List (Option Array)) (node : Node) (n : ℕ) : Type 0 where
  pub held : IsHeld nodes done n
  pub is : value nodes n ≡ node_of (value nodes) node

pub chunk_ready : (nodes : List Node) (done : List (Option Array)) (node : Node) (n : ℕ) (sizes : List (Option ℕ)) → node ≡ Chunk n sizes → IsReady nodes done node → ChunkReady nodes done node n
chunk_ready nodes done node n sizes is can =
    let r : IsReady nodes done (Chunk n sizes) = subst (IsReady nodes done) is can in
    record { held = All-head (IsHeld nodes done) n [] r.inputs; is = ap (node_of (value nodes)) (sym is) }

pub record UnaryReady (nodes : List Node) (done : List (Option Array)) (node : Node) (op : OpKind) (kind : DType) (n : ℕ) : Type 0 where
  pub held : IsHeld nodes done n
  pub array : IsArray (value nodes n)
  pub one : takes_one op ≡ true
  pub gives : Gives op kind (value nodes n).kind
  pub suits : Suits op (value nodes n).kind
  pub is : unary_of op kind (value nodes n) ≡ node_of (value nodes) node

pub unary_ready : (nodes : List Node) (done : List (Option Array)) (node : Node) (op : OpKind) (kind : DType) (n : ℕ) → node ≡ Unary op kind n → IsReady nodes done node → UnaryReady nodes done node op kind n
unary_ready nodes done node op kind n is can =
    let r : IsReady nodes done (Unary op kind n) = subst (IsReady nodes done) is can in
    record { held = All-head (IsHeld nodes done) n [] r.inputs; array = All-head (λ m. IsArray (value nodes m)) n [] r.arrays; one = r.fits.1; gives = r.fits.2; suits = r.fits.3; is = ap (node_of (value nodes)) (sym is) }

pub record BinaryReady (nodes : List Node) (done : List (Option Array)) (node : Node) (op : OpKind) (m n : ℕ) : Type 0 where
  pub held : IsHeld nodes done m
  pub other_held : IsHeld nodes done n
  pub array : IsArray (value nodes m)
  pub other : IsArray (value nodes n)
  pub two : takes_two op ≡ true
  pub shape : (value nodes n).shape ≡ (value nodes m).shape
  pub kind : (value nodes n).kind ≡ (value nodes m).kind
  pub suits : Suits op (value nodes m).kind
  pub is : binary_of op (result_kind op (value nodes m).kind) (value nodes m) (value nodes n) ≡ node_of (value nodes) node

pub binary_ready : (nodes : List Node) (done : List (Option Array)) (node : Node) (op : OpKind) (m n : ℕ) → node ≡ Binary op m n → IsReady nodes done node → BinaryReady nodes done node op m n
binary_ready nodes done node op m n is can =
    let r : IsReady nodes done (Binary op m n) = subst (IsReady nodes done) is can in
    let rest = All-tail (IsHeld nodes done) m (n ∷ []) r.inputs in
    let arrays = All-tail (λ m. IsArray (value nodes m)) m (n ∷ []) r.arrays in
    record {
      held = All-head (IsHeld nodes done) m (n ∷ []) r.inputs;
      other_held = All-head (IsHeld nodes done) n [] rest;
      array = All-head (λ m. IsArray (value nodes m)) m (n ∷ []) r.arrays;
      other = All-head (λ m. IsArray (value nodes m)) n [] arrays;
      two = r.fits.2;
      shape = r.fits.3;
      kind = r.fits.4;
      suits = r.fits.5;
      is = ap (node_of (value nodes)) (sym is);
    }

pub record ChooseReady (nodes : List Node) (done : List (Option Array)) (node : Node) (c m n : ℕ) : Type 0 where
  pub cond_held : IsHeld nodes done c
  pub held : IsHeld nodes done m
  pub other_held : IsHeld nodes done n
  pub cond : IsArray (value nodes c)
  pub array : IsArray (value nodes m)
  pub other : IsArray (value nodes n)
  pub truth : (value nodes c).kind ≡ truths
  pub cond_shape : (value nodes c).shape ≡ (value nodes m).shape
  pub shape : (value nodes n).shape ≡ (value nodes m).shape
  pub kind : (value nodes n).kind ≡ (value nodes m).kind
  pub is : choose_of (value nodes c) (value nodes m) (value nodes n) ≡ node_of (value nodes) node

pub choose_ready : (nodes : List Node) (done : List (Option Array)) (node : Node) (c m n : ℕ) → node ≡ Choose c m n → IsReady nodes done node → ChooseReady nodes done node c m n
choose_ready nodes done node c m n is can =
    let r : IsReady nodes done (Choose c m n) = subst (IsReady nodes done) is can in
    let held = All-tail (IsHeld nodes done) c (m ∷ n ∷ []) r.inputs in
    let arrays = All-tail (λ m. IsArray (value nodes m)) c (m ∷ n ∷ []) r.arrays in
    record {
      cond_held = All-head (IsHeld nodes done) c (m ∷ n ∷ []) r.inputs;
      held = All-head (IsHeld nodes done) m (n ∷ []) held;
      other_held = All-head (IsHeld nodes done) n [] (All-tail (IsHeld nodes done) m (n ∷ []) held);
      cond = All-head (λ m. IsArray (value nodes m)) c (m ∷ n ∷ []) r.arrays;
      array = All-head (λ m. IsArray (value nodes m)) m (n ∷ []) arrays;
      other = All-head (λ m. IsArray (value nodes m)) n [] (All-tail (λ m. IsArray (value nodes m)) m (n ∷ []) arrays);
      truth = r.fits.3;
      cond_shape = r.fits.4;
      shape = r.fits.5;
      kind = r.fits.6;
      is = ap (node_of (value nodes)) (sym is);
    }

-- the values that a list refers to
pub record ConcatReady {B : Type 0} (now : B → Array) (nodes : List Node) (node : Node) (xs : List B) (axis : ℕ) : Type 0 where
  pub some : 0 < length xs
  pub axis_is : axis < length (first_array (map now xs)).shape
  pub each : All (λ b. Continues axis (first_array (map now xs)) (now b)) xs
  pub small : size (concatenated (map now xs) axis).shape ≤ most_node_cells
  pub is : concatenated (map now xs) axis ≡ node_of (value nodes) node

pub concat_held : (nodes : List Node) (done : List (Option Array)) (node : Node) (ns : List ℕ) (axis : ℕ) → node ≡ Concat ns axis → IsReady nodes done node → All (IsHeld nodes done) ns
concat_held nodes done node ns axis is can = (subst (IsReady nodes done) is can).inputs

all_values : (nodes : List Node) (axis : ℕ) (a : Array) (ns : List ℕ) → All (λ n. Continues axis a (value nodes n)) ns → All (Continues axis a) (map (value nodes) ns)
all_values nodes axis a [] h = λ k d lt. absurd (omega arith)
all_values nodes axis a (n ∷ ns) h = All-cons (Continues axis a) (value nodes n) (map (value nodes) ns) (All-head (λ n. Continues axis a (value nodes n)) n ns h) (all_values nodes axis a ns (All-tail (λ n. Continues axis a (value nodes n)) n ns h))

all_now : {B : Type 0} (now : B → Array) (axis : ℕ) (a : Array) (xs : List B) → All (Continues axis a) (map now xs) → All (λ b. Continues axis a (now b)) xs
all_now now axis a [] h = λ k d lt. absurd (omega arith)
all_now now axis a (x ∷ xs) h = All-cons (λ b. Continues axis a (now b)) x xs (All-head (Continues axis a) (now x) (map now xs) h) (all_now now axis a xs (All-tail (Continues axis a) (now x) (map now xs) h))

pub concat_ready : {B : Type 0} (now : B → Array) (nodes : List Node) (done : List (Option Array)) (node : Node) (xs : List B) (ns : List ℕ) (axis : ℕ) → node ≡ Concat ns axis → IsReady nodes done node → map now xs ≡ map (value nodes) ns → ConcatReady now nodes node xs axis
concat_ready now nodes done node xs ns axis is can same =
    let r : IsReady nodes done (Concat ns axis) = subst (IsReady nodes done) is can in
    let long : length xs ≡ length ns = sym (length-map xs now) ∙ ap length same ∙ length-map ns (value nodes) in
    let all : All (Continues axis (first_array (map (value nodes) ns))) (map (value nodes) ns) = all_values nodes axis (first_array (map (value nodes) ns)) ns r.fits.3 in
    record {
      some = let s = r.fits.0 in omega (arith, s, long);
      axis_is = subst (λ (bs : List Array). axis < length (first_array bs).shape) (sym same) r.fits.2;
      each = all_now now axis (first_array (map now xs)) xs (subst (λ (bs : List Array). All (Continues axis (first_array bs)) bs) (sym same) all);
      small = subst (λ (bs : List Array). size (concatenated bs axis).shape ≤ most_node_cells) (sym same) r.small;
      is = ap (λ bs. concatenated bs axis) same ∙ ap (node_of (value nodes)) (sym is);
    }

-- ---- what the code has at hand

pub ids_are : (nodes : List Node) (at : ℕ) (node : Node) (ids : List ℕ) → at < length nodes → node ≡ get_or nodes at node → ids ≡ inputs_of node → ids ≡ inputs_at nodes at
ids_are nodes at node ids lt is is_ids = is_ids ∙ ap inputs_of is ∙ sym (inputs_at_is nodes at node lt)

pub ids_before : (nodes : List Node) (at : ℕ) (node : Node) (ids : List ℕ) → AllFit [] nodes → at < length nodes → node ≡ get_or nodes at node → ids ≡ inputs_of node → All (λ m. m < at) ids
ids_before nodes at node ids fit lt is is_ids = subst (All (λ m. m < at)) (sym (ids_are nodes at node ids lt is is_ids)) (inputs_before nodes at node fit lt)

pub marks_more : (old new ids : List ℕ) (i user : ℕ) → i < length ids → user ≤ get_or new (get_or ids i 0) 0 → ((k : ℕ) → get_or old k 0 ≤ get_or new k 0) → All (λ m. user ≤ get_or old m 0) (take i ids) → All (λ m. user ≤ get_or new m 0) (take (i + 1) ids)
marks_more old new ids i user lt here grows so_far =
    all_more (λ m. user ≤ get_or new m 0) ids i (get_or ids i 0) lt (get_or_default ids i 0 (get_or ids i 0) lt) here (λ k d below. let a = so_far k d below in let g = grows (get_or (take i ids) k d) in omega (arith, a, g))

some_same : (a b : Array) → Some a ≡ Some b → a ≡ b
some_same a b e = ap (λ o. value_or a o) e
  where
    value_or : Array → Option Array → Array
    value_or d None = d
    value_or d (Some x) = x

-- the cells of a source are its value
pub source_held : (nodes : List Node) (done : List (Option Array)) (m : ℕ) (node : Node) (a : Array) → IsHeld nodes done m → node ≡ get_or nodes m node → Some a ≡ source_of node → a ≡ value nodes m
source_held nodes done m node a held is is_source =
    let e : Some a ≡ source_at nodes m = is_source ∙ ap source_of is ∙ sym (source_at_is nodes m node held.there) in
    some_same a (value nodes m) (ap (λ o. option_or o (get_or done m None)) e ∙ held.is)

-- what is kept of another node is its value
pub kept_held : (nodes : List Node) (done : List (Option Array)) (m : ℕ) (node : Node) (o : Option Array) → IsHeld nodes done m → node ≡ get_or nodes m node → None ≡ source_of node → o ≡ get_or done m o → o ≡ Some (value nodes m)
kept_held nodes done m node o held is none is_kept =
    let e : None ≡ source_at nodes m = none ∙ ap source_of is ∙ sym (source_at_is nodes m node held.there) in
    is_kept ∙ get_or_default done m o None held.done_there ∙ ap (λ s. option_or s (get_or done m None)) e ∙ held.is

pub kept_value : (nodes : List Node) (m : ℕ) (a : Array) (o : Option Array) → o ≡ Some (value nodes m) → Some a ≡ o → a ≡ value nodes m
kept_value nodes m a o is here = some_same a (value nodes m) (here ∙ is)

source_is : (f : ℕ → Array) (node : Node) → is_some (source_of node) ≡ true → option_or (source_of node) None ≡ Some (node_of f node)
source_is f (Source a) some = refl
source_is f (Take n axis from fill drops) some = absurd cc
source_is f (Reorder n order) some = absurd cc
source_is f (Widen n axis count) some = absurd cc
source_is f (Fold k n feeds) some = absurd cc
source_is f (Concat ns axis) some = absurd cc
source_is f (Unary op kind n) some = absurd cc
source_is f (Binary op m n) some = absurd cc
source_is f (Choose c m n) some = absurd cc
source_is f (Scan k n axis) some = absurd cc
source_is f (Chunk n sizes) some = absurd cc

other_is : (node : Node) (a : Array) → is_some (source_of node) ≡ false → option_or (source_of node) (Some a) ≡ Some a
other_is (Source x) a none = absurd cc
other_is (Take n axis from fill drops) a none = refl
other_is (Reorder n order) a none = refl
other_is (Widen n axis count) a none = refl
other_is (Fold k n feeds) a none = refl
other_is (Concat ns axis) a none = refl
other_is (Unary op kind n) a none = refl
other_is (Binary op m n) a none = refl
other_is (Choose c m n) a none = refl
other_is (Scan k n axis) a none = refl
other_is (Chunk n sizes) a none = refl

-- nothing is kept of a source
pub source_next : (nodes : List Node) (at : ℕ) (node : Node) → AllFit [] nodes → at < length nodes → node ≡ get_or nodes at node → is_some (source_of node) ≡ true → option_or (source_at nodes at) None ≡ Some (value nodes at)
source_next nodes at node fit lt is some =
    ap (λ s. option_or s None) (source_at_is nodes at node lt ∙ ap source_of (sym is)) ∙ source_is (value nodes) node some ∙ ap (λ a. Some a) (sym (by_inputs nodes at node fit lt is))

-- the value of another node is kept
pub other_next : (nodes : List Node) (at : ℕ) (node : Node) (a : Array) → at < length nodes → node ≡ get_or nodes at node → is_some (source_of node) ≡ false → a ≡ value nodes at → option_or (source_at nodes at) (Some a) ≡ Some (value nodes at)
other_next nodes at node a lt is none is_value =
    ap (λ s. option_or s (Some a)) (source_at_is nodes at node lt ∙ ap source_of (sym is)) ∙ other_is node a none ∙ ap (λ x. Some x) is_value

-- a list written back over another of its length
pub written_back : {X : Type 0} (len : ℕ) (new items : List X) → length new ≡ length items → length items ≡ len → take len (new ++ drop (length new) items) ≡ new
written_back len new items same long = ap (λ t. take len (new ++ t)) (drop_all (length new) items (omega (arith, same))) ∙ ap (take len) (append-nil new) ∙ take_all len new (omega (arith, same, long))

pub on_ok : {A E : Type 0} (r : Result A E) (P : Type 0) → P → OnOk r P
on_ok (Ok a) P h = h
on_ok (Err e) P h = tt

-- Variables of which the cells are placed in a plan.
use Rattle.std.proofs.Common.{◌≡◌, ◌∙◌, ◌<◌, ◌≤◌, ◌+◌, ℕ, Bool, true, false, cond, List, [], ◌∷◌, ◌++◌, length, get_or, map, filter, Option, Some, None, refl, sym, ap, subst, arith, append_assoc, length-append}
use Rattle.std.specs.Prelude.{find}
use Rattle.std.specs.Str.{bytes_eq}
use Rattle.std.specs.List.{AllByRecursion}
use Rattle.std.proofs.lemmas.List.{append-nil}
use Rattle.plan_core.specs.Plans.{Grows}
use Rattle.plan_core.proofs.Plans.{grown_value, grown-length, grows_on}
use Rattle.xr_types.specs.declared.attr.Attr.{Attr}
use Rattle.xr_types.specs.declared.axis.Axis.{Axis}
use Rattle.xr_types.specs.declared.kind.DType.{DType}
use Rattle.xr_arrays.specs.Arrays.{Array, IsArray}
use Rattle.xr_arrays.specs.Nodes.{node_value, value, Pushes}
use Rattle.xr_arrays.specs.declared.node.Node.{Node}
use Rattle.xr_arrays.specs.declared.node.Node.TheVariants.{Source}
use Rattle.xr_aligning.specs.Limits.{sizes_called}
use Rattle.xr_combining.specs.Placing.{IsNodeFor}
use Rattle.xr_defs.specs.Decoding.{is_kept}
use Rattle.xr_defs.specs.Parts.{without_idle}
use Rattle.xr_defs.specs.Values as of
use Rattle.xr_defs.specs.WellFormed.{AreSeen}
use Rattle.xr_defs.specs.declared.value.Coord.{Coord}
use Rattle.xr_forming.proofs.Apart.{busy_same}
use Rattle.xr_forming.specs.Held.{Holds, HoldsContent, IsHeld}
use Rattle.xr_joint.specs.Joint.{array_at, joint_in, parts_in, set_of, with_node, AllHeld, AllInside, AreOnes, ArePlaced, AreReady, IsInside, IsPlaced, IsReady}
use Rattle.xr_joint.specs.declared.pieces.Joint.{Joint}
use Rattle.xr_joint.specs.declared.pieces.JointVariable.{JointVariable}
use Rattle.xr_joint.specs.declared.pieces.Origin.{Origin}
use Rattle.xr_joint.specs.declared.pieces.Origin.TheVariants as origins
use Rattle.xr_reducing.specs.Reduced.{is_busy}
use Rattle.xr_values.specs.Stands.{dataset_in, variable_in}
use Rattle.xr_values.specs.Variables.{with_variable}
use Rattle.xr_values.specs.declared.dataset.Dataset.{Dataset}
use Rattle.xr_values.specs.declared.variable.Variable.{Variable}

pub source_is : (old new : List Node) (a : Array) (n : ℕ) → Pushes old new (Source a) n → IsNodeFor new a n
unfolding node_value
source_is old new a n pushes =
    let long = ap length pushes.added in let more = length-append old (Source a ∷ []) in let at = pushes.placed in
    record { inside = omega arith; is = pushes.stands }

pub put_new : (vs : List Variable) (v : Variable) → find (λ (w : Variable). bytes_eq w.name v.name) vs ≡ None → with_variable vs v ≡ vs ++ v ∷ []
put_new [] v none = refl
put_new (w ∷ vs) v none = by (bytes_eq w.name v.name) none (put_new vs v)
  where
    by : (b : Bool) → cond b (Some w) (find (λ (u : Variable). bytes_eq u.name v.name) vs) ≡ None → (find (λ (u : Variable). bytes_eq u.name v.name) vs ≡ None → with_variable vs v ≡ vs ++ v ∷ [])
        → cond b (v ∷ vs) (w ∷ with_variable vs v) ≡ w ∷ (vs ++ v ∷ [])
    by true isnt rest = absurd cc
    by false isnt rest = ap (λ us. w ∷ us) (rest isnt)

-- ---- while the plan grows

module _ (old new : List Node) (grows : Grows old new) where
  pub origin_inside : (o : Origin) → IsInside old o → IsInside new o
  origin_inside (origins.Node n) is = let long = grown-length old new grows in omega (arith, is)
  origin_inside (origins.Held a) is = is

  origin_same : (o : Origin) → IsInside old o → array_at new o ≡ array_at old o
  origin_same (origins.Node n) is = grown_value old new n grows is
  origin_same (origins.Held a) is = refl

  node_kept : (a : Array) (n : ℕ) → IsNodeFor old a n → IsNodeFor new a n
  node_kept a n is = let long = grown-length old new grows in let lt = is.inside in record { inside = omega arith; is = grown_value old new n grows is.inside ∙ is.is }

-- ---- one after the other

-- what holds of the images of a list's items
pub each_mapped : {X Y : Type 0} (P : Y → Type 0) (f : X → Y) (xs : List X) → AllByRecursion P (map f xs) → AllByRecursion (λ x. P (f x)) xs
each_mapped P f [] all = tt
each_mapped P f (x ∷ xs) all = (all.0, each_mapped P f xs all.1)

pub none_placed : (nodes : List Node) (out : List Variable) → ArePlaced nodes nodes [] out out
none_placed nodes out = record { more = []; are = sym (append-nil out); each = tt }

ones_stay : (old mid new : List Node) → Grows mid new → (vs : List JointVariable) (ws : List Variable) → AreOnes old mid vs ws → AreOnes old new vs ws
ones_stay old mid new grows [] [] ones = tt
ones_stay old mid new grows [] (w ∷ ws) ones = absurd ones
ones_stay old mid new grows (v ∷ vs) [] ones = absurd ones
ones_stay old mid new grows (v ∷ vs) (w ∷ ws) ones = (record { is = ones.0.is; node = node_kept mid new grows (array_at old v.cells) w.node ones.0.node }, ones_stay old mid new grows vs ws ones.1)

one_behind : (old new : List Node) (vs : List JointVariable) (ws : List Variable) (v : JointVariable) (w : Variable) → AreOnes old new vs ws → IsPlaced old new v w → AreOnes old new (vs ++ v ∷ []) (ws ++ w ∷ [])
one_behind old new [] [] v w ones one = (one, tt)
one_behind old new [] (x ∷ ws) v w ones one = absurd ones
one_behind old new (u ∷ vs) [] v w ones one = absurd ones
one_behind old new (u ∷ vs) (x ∷ ws) v w ones one = (ones.0, one_behind old new vs ws v w ones.1 one)

-- one more behind those that are placed
pub one_placed : (old mid new : List Node) (vs : List JointVariable) (v : JointVariable) (w : Variable) (out ws next : List Variable) → Grows old mid → Grows mid new → IsInside old v.cells → IsPlaced mid new v w → next ≡ ws ++ w ∷ []
    → ArePlaced old mid vs out ws → ArePlaced old new (vs ++ v ∷ []) out next
one_placed old mid new vs v w out ws next first second inside one pushed so_far =
    let here : IsPlaced old new v w = record { is = one.is; node = subst (λ (a : Array). IsNodeFor new a w.node) (origin_same old mid first v.cells inside) one.node } in
    record {
      more = so_far.more ++ w ∷ [];
      are = pushed ∙ ap (λ us. us ++ w ∷ []) so_far.are ∙ append_assoc out so_far.more (w ∷ []);
      each = one_behind old new vs so_far.more v w (ones_stay old mid new second vs so_far.more so_far.each) here;
    }

-- ---- a dataset of them

pub all_inside : (nodes : List Node) (axes : List Axis) (vs : List JointVariable) → AreReady nodes axes vs → AllInside nodes vs
all_inside nodes axes [] all = tt
all_inside nodes axes (v ∷ vs) all = (all.0.inside, all_inside nodes axes vs all.1)

module _ (old new : List Node) where
  one_same : (v : JointVariable) (w : Variable) → IsPlaced old new v w → variable_in new w ≡ joint_in old v
  one_same v w is = ap (variable_in new) is.is ∙ ap (λ (a : Array). record { name = v.name; dims = v.dims; kind = v.kind; masked = v.masked; attrs = v.attrs; cells = a.cells }) is.node.is

  ones_same : (vs : List JointVariable) (ws : List Variable) → AreOnes old new vs ws → map (variable_in new) ws ≡ map (joint_in old) vs
  ones_same [] [] ones = refl
  ones_same [] (w ∷ ws) ones = absurd ones
  ones_same (v ∷ vs) [] ones = absurd ones
  ones_same (v ∷ vs) (w ∷ ws) ones = (λ i. one_same v w ones.0 i ∷ ones_same vs ws ones.1 i)

  one_held : (axes : List Axis) (v : JointVariable) (w : Variable) → IsReady old axes v → IsPlaced old new v w → IsHeld new axes w
  one_held axes v w ready is =
      subst (IsHeld new axes) (sym is.is)
      (record {
        node = record { placed = is.node.inside; has_shape = ap (λ (a : Array). a.shape) is.node.is ∙ ready.shape; has_kind = ap (λ (a : Array). a.kind) is.node.is ∙ ready.kind };
        seen = subst (λ (a : Array). AreSeen v.masked a.cells) (sym is.node.is) ready.seen;
      })

  ones_held : (axes : List Axis) (vs : List JointVariable) (ws : List Variable) → AreReady old axes vs → AreOnes old new vs ws → AllHeld new axes ws
  ones_held axes [] [] ready ones = tt
  ones_held axes [] (w ∷ ws) ready ones = absurd ones
  ones_held axes (v ∷ vs) [] ready ones = absurd ones
  ones_held axes (v ∷ vs) (w ∷ ws) ready ones = (one_held axes v w ready.0 ones.0, ones_held axes vs ws ready.1 ones.1)

held_as : (nodes : List Node) (axes others : List Axis) (ws : List Variable) → AllByRecursion (λ (w : Variable). sizes_called axes w.dims ≡ sizes_called others w.dims) ws → AllHeld nodes axes ws → AllHeld nodes others ws
held_as nodes axes others [] same all = tt
held_as nodes axes others (w ∷ ws) same all =
    (record { node = record { placed = all.0.node.placed; has_shape = all.0.node.has_shape ∙ same.0; has_kind = all.0.node.has_kind }; seen = all.0.seen }, held_as nodes axes others ws same.1 all.1)

-- ---- axes that are held

same_filter : {X : Type 0} (p q : X → Bool) → ((x : X) → p x ≡ q x) → (xs : List X) → filter p xs ≡ filter q xs
same_filter p q e [] = refl
same_filter p q e (x ∷ xs) = (λ i. cond (e x i) (x ∷ same_filter p q e xs i) (same_filter p q e xs i))

pub set_placed : (old new : List Node) (axes : List Axis) (j : Joint) (attrs : List Attr) (skipped : List (List ℕ)) (s : Dataset) (out : List Variable) → out ≡ [] → ArePlaced old new j.vars out s.vars → s.axes ≡ filter (is_busy s.coords s.vars) axes → s.coords ≡ j.coords → s.attrs ≡ attrs → s.skipped ≡ skipped
    → dataset_in new s ≡ set_of axes attrs skipped (parts_in old j)
set_placed old new axes j attrs skipped s out none placed axes_are coords_are attrs_are skipped_are =
    (λ i. record { axes = held i; coords = coords_are i; vars = vars i; attrs = attrs_are i; skipped = skipped_are i })
  where
    vars : map (variable_in new) s.vars ≡ map (joint_in old) j.vars
    vars = ap (map (variable_in new)) (placed.are ∙ ap (λ os. os ++ placed.more) none) ∙ ones_same old new j.vars placed.more placed.each

    held : s.axes ≡ filter (is_kept j.coords (map (joint_in old) j.vars)) axes
    held = axes_are ∙ sym (same_filter (is_kept s.coords (map (variable_in new) s.vars)) (is_busy s.coords s.vars) (busy_same new s.coords s.vars) axes) ∙ (λ i. filter (is_kept (coords_are i) (vars i)) axes)

pub set_holds : (old new : List Node) (axes : List Axis) (vs : List JointVariable) (s : Dataset) (out : List Variable) → out ≡ [] → AreReady old axes vs → ArePlaced old new vs out s.vars → AllByRecursion (λ (w : Variable). sizes_called axes w.dims ≡ sizes_called s.axes w.dims) s.vars
    → AllByRecursion HoldsContent s.coords → Holds new s
set_holds old new axes vs s out none ready placed same coords = record {
  vars = held_as new axes s.axes s.vars same (subst (AllHeld new axes) (sym (placed.are ∙ ap (λ os. os ++ placed.more) none)) (ones_held old new axes vs placed.more ready placed.each));
  coords = coords;
}

-- ---- the same of what the program has as slices

module _ (old new : List Node) (axes : List Axis) (j : Joint) (attrs : List Attr) (skipped : List (List ℕ)) (held : List Axis) (ws out : List Variable) where
  abbrev pub made : Dataset
  made = record { axes = held; coords = j.coords; vars = ws; attrs = attrs; skipped = skipped }

  pub slices_placed : (vs : List JointVariable) (cs : List Coord) (us : List Variable) → out ≡ [] → vs ≡ j.vars → cs ≡ j.coords → us ≡ ws → ArePlaced old new vs out ws → held ≡ filter (is_busy cs us) axes → dataset_in new made ≡ set_of axes attrs skipped (parts_in old j)
  slices_placed vs cs us none vs_are cs_are us_are placed held_are =
      set_placed old new axes j attrs skipped made out none (subst (λ xs. ArePlaced old new xs out ws) vs_are placed) (held_are ∙ (λ i. filter (is_busy (cs_are i) (us_are i)) axes)) refl refl refl

  pub slices_hold : (vs : List JointVariable) (own : List Axis) (us : List Variable) (cs : List Coord) → out ≡ [] → vs ≡ j.vars → own ≡ held → us ≡ ws → cs ≡ j.coords → ArePlaced old new vs out ws → AreReady old axes j.vars
      → AllByRecursion (λ (w : Variable). sizes_called axes w.dims ≡ sizes_called own w.dims) us → AllByRecursion HoldsContent cs → Holds new made
  slices_hold vs own us cs none vs_are own_is us_are cs_are placed ready same sound =
      set_holds old new axes j.vars made out none ready (subst (λ xs. ArePlaced old new xs out ws) vs_are placed)
      (subst (λ (xs : List Axis). AllByRecursion (λ (w : Variable). sizes_called axes w.dims ≡ sizes_called xs w.dims) ws) own_is (subst (AllByRecursion (λ (w : Variable). sizes_called axes w.dims ≡ sizes_called own w.dims)) us_are same))
      (subst (AllByRecursion HoldsContent) cs_are sound)

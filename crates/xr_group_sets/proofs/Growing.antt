-- Variables that are grouped one after the other, in a plan that grows.
use Rattle.std.proofs.Common.{◌≡◌, ◌+◌, ◌*◌, ℕ, ℤ, List, [], ◌∷◌, ◌++◌, map, Option, refl, sym, ap, subst, ◌∙◌, arith}
use Rattle.std.specs.List.{AllByRecursion}
use Rattle.xr_types.specs.declared.axis.Axis.{Axis}
use Rattle.xr_types.specs.declared.operation.FoldKind.{FoldKind}
use Rattle.xr_arrays.specs.declared.node.Node.{Node}
use Rattle.xr_arrays.specs.Added.{AddsAtMost}
use Rattle.xr_arrays.specs.Arrays.{Array}
use Rattle.plan_core.specs.Plans.{Grows}
use Rattle.plan_core.proofs.Added.{adds_both, adds_none}
use Rattle.plan_core.proofs.Plans.{grown-length, grown_value, grows_by_none, grows_on}
use Rattle.xr_defs.specs.Parts.{axes_called}
use Rattle.xr_defs.specs.Room.{span}
use Rattle.xr_defs.specs.Values as of
use Rattle.xr_defs.specs.WellFormed.{IsVariable}
use Rattle.xr_operations.specs.Reductions.{size_called}
use Rattle.xr_values.specs.declared.variable.Variable.{Variable}
use Rattle.xr_values.specs.Stands.{variable_in, IsNodeOf}
use Rattle.xr_groups.specs.declared.change.Change.{Change}
use Rattle.xr_groups.specs.declared.change.Least.{Least}
use Rattle.xr_groups.specs.Listed.{axes_by}
use Rattle.xr_group_sets.specs.Listing.{variable_at, vars_room, AreVarsIn, IsVarIn, IsVarListing}

abbrev of_cells : Variable → List (Option ℤ) → of.Variable
of_cells v cells = record { name = v.name; dims = v.dims; kind = v.kind; masked = v.masked; attrs = v.attrs; cells = cells }

-- ---- in a plan that has grown

module _ (old new : List Node) (g : Grows old new) where
  node_still : (shape : List ℕ) (v : Variable) → IsNodeOf old v.node shape v.kind → IsNodeOf new v.node shape v.kind
  node_still shape v is =
      let same = grown_value old new v.node g is.placed in
      record {
        placed = let longer = grown-length old new g in let here = is.placed in omega arith;
        has_shape = ap (λ (x : Array). x.shape) same ∙ is.has_shape;
        has_kind = ap (λ (x : Array). x.kind) same ∙ is.has_kind;
      }

  var_still : (axes : List Axis) (m : of.Variable) (v : Variable) → IsVarIn axes old m v → IsVarIn axes new m v
  var_still axes m v is = record {
    is = ap (λ (x : Array). of_cells v x.cells) (grown_value old new v.node g is.node.placed) ∙ is.is;
    node = node_still (map (size_called axes) v.dims) v is.node;
    formed = is.formed;
  }

  vars_still : (axes : List Axis) (ms : List of.Variable) (vs : List Variable) → AreVarsIn axes old ms vs → AreVarsIn axes new ms vs
  vars_still axes [] [] are = tt
  vars_still axes [] (v ∷ vs) are = absurd are
  vars_still axes (m ∷ ms) [] are = absurd are
  vars_still axes (m ∷ ms) (v ∷ vs) are = (var_still axes m v are.0, vars_still axes ms vs are.1)

one_more : (axes : List Axis) (nodes : List Node) (ms : List of.Variable) (vs : List Variable) (m : of.Variable) (v : Variable) → AreVarsIn axes nodes ms vs → IsVarIn axes nodes m v → AreVarsIn axes nodes (ms ++ m ∷ []) (vs ++ v ∷ [])
one_more axes nodes [] [] m v are is = (is, tt)
one_more axes nodes [] (w ∷ vs) m v are is = absurd are
one_more axes nodes (n ∷ ms) [] m v are is = absurd are
one_more axes nodes (n ∷ ms) (w ∷ vs) m v are is = (are.0, one_more axes nodes ms vs m v are.1 is)

mapped_more : {X Y : Type 0} (f : X → Y) (xs : List X) (x : X) → map f (xs ++ x ∷ []) ≡ map f xs ++ f x ∷ []
mapped_more f [] x = refl
mapped_more f (y ∷ xs) x = ap (λ ys. f y ∷ ys) (mapped_more f xs x)

room_more : (cs : List Change) (axes : List Axis) (vs : List Variable) (v : Variable) → vars_room cs axes (vs ++ v ∷ []) ≡ vars_room cs axes vs + 256 * span (axes_by cs (axes_called axes v.dims))
room_more cs axes [] v = omega arith
room_more cs axes (w ∷ vs) v = let rest = room_more cs axes vs v in omega arith

-- ---- so far

module _ (old : List Node) (k : FoldKind) (least : Least) (cs : List Change) (fill : Option (Option ℤ)) (axes : List Axis) where
  abbrev grouped_in : List Node → Variable → of.Variable
  grouped_in nodes v = variable_at k least cs fill axes (variable_in nodes v)

  abbrev all_in : List Variable → List of.Variable
  all_in vs = map (variable_at k least cs fill axes) (map (variable_in old) vs)

  -- the variables of the first so many, and those that are still to come can be grouped
  pub record IsOn (nodes : List Node) (before rest : List Variable) (out : List Variable) : Type 0 where
    pub are : AreVarsIn (axes_by cs axes) nodes (all_in before) out
    pub fit : AllByRecursion (IsVarListing old k least cs fill axes) rest
    pub grows : Grows old nodes
    pub cells : AddsAtMost old nodes (vars_room cs axes before)

  pub none_yet : (vs out : List Variable) → out ≡ [] → AllByRecursion (IsVarListing old k least cs fill axes) vs → IsOn old [] vs out
  none_yet vs out none fit = subst (IsOn old [] vs) (sym none) (record { are = tt; fit = fit; grows = grows_by_none old; cells = adds_none old 0 })

  module _ (nodes : List Node) (before rest after : List Variable) (out : List Variable) (v : Variable) (split : rest ≡ v ∷ after) (on : IsOn nodes before rest out) where
    here : AllByRecursion (IsVarListing old k least cs fill axes) (v ∷ after)
    here = subst (AllByRecursion (IsVarListing old k least cs fill axes)) split on.fit

    var_same : variable_in nodes v ≡ variable_in old v
    var_same = ap (λ (x : Array). of_cells v x.cells) (grown_value old nodes v.node on.grows here.0.node.placed)

    pub fits_now : IsVarListing nodes k least cs fill axes v
    fits_now = record { node = node_still old nodes on.grows (map (size_called axes) v.dims) v here.0.node; formed = subst (IsVariable axes) (sym var_same) here.0.formed; listing = here.0.listing }

    pub next : (new : List Node) (w : Variable) (upto ws : List Variable) → upto ≡ before ++ v ∷ [] → ws ≡ out ++ w ∷ [] → Grows nodes new → IsVarIn (axes_by cs axes) new (grouped_in nodes v) w
        → AddsAtMost nodes new (256 * span (axes_by cs (axes_called axes v.dims))) → IsOn new upto after ws
    next new w upto ws is_upto is_ws g is adds =
        let of_old : IsVarIn (axes_by cs axes) new (grouped_in old v) w = subst (λ (u : of.Variable). IsVarIn (axes_by cs axes) new (variable_at k least cs fill axes u) w) var_same is in
        let all : all_in (before ++ v ∷ []) ≡ all_in before ++ grouped_in old v ∷ [] =
        ap (map (variable_at k least cs fill axes)) (mapped_more (variable_in old) before v) ∙ mapped_more (variable_at k least cs fill axes) (map (variable_in old) before) (variable_in old v) in
        record {
          are = subst (λ us. AreVarsIn (axes_by cs axes) new (all_in us) ws) (sym is_upto) (subst (λ ms. AreVarsIn (axes_by cs axes) new ms ws) (sym all)
              (subst (AreVarsIn (axes_by cs axes) new (all_in before ++ grouped_in old v ∷ [])) (sym is_ws) (one_more (axes_by cs axes) new (all_in before) out (grouped_in old v) w (vars_still nodes new g (axes_by cs axes) (all_in before) out on.are) of_old)));
          fit = here.1;
          grows = grows_on old nodes new on.grows g;
          cells = subst (AddsAtMost old new) (sym (ap (vars_room cs axes) is_upto ∙ room_more cs axes before v))
              (adds_both old nodes new (vars_room cs axes before) (256 * span (axes_by cs (axes_called axes v.dims))) on.cells adds);
        }

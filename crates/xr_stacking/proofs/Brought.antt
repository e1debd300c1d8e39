-- Parts of a plan that are brought one after the other.
use Rattle.std.proofs.Common.{◌≡◌, ◌∙◌, ◌<◌, ◌≤◌, ℕ, Bool, List, [], ◌∷◌, ◌++◌, length, get_or, map, refl, sym, ap, subst, arith, append_assoc}
use Rattle.std.specs.List.{AllByRecursion}
use Rattle.std.proofs.lemmas.List.{append-nil}
use Rattle.std.proofs.lemmas.List.Elements.{All-cons, All-nil}
use Rattle.xr_types.specs.declared.kind.DType.{DType}
use Rattle.xr_arrays.specs.Arrays.{Array}
use Rattle.xr_arrays.specs.Nodes.{concatenated, reordered, AllFit}
use Rattle.xr_arrays.specs.declared.node.Node.{Node}
use Rattle.plan_core.specs.Plans.{Grows}
use Rattle.plan_core.proofs.Plans.{grown_value, grown-length}
use Rattle.xr_combination.specs.Pieces.{as_kind}
use Rattle.xr_combining.specs.Placing.{wide, AreNodesFor, CanJoin, IsNodeFor}
use Rattle.xr_stacking.specs.Lines.{joined_shape, InLine}
use Rattle.xr_stacking.specs.Parts.{brought, brought_shape, order_of, AreBrought, AreThere, CanTurn, HasAll, IsPart}
use Rattle.xr_stacking.specs.declared.parts.Part.{Part}
use Rattle.xr_stacking.proofs.Firsts.{first_holds, others, whole}
use Rattle.xr_stacking.proofs.Joined.{can_join, joined_is, kind_joined, shapes_of, AreOfKind}
use Rattle.xr_stacking.proofs.There.{brought_full, concatenated_there, IsFull}
use Rattle.xr_stacking.proofs.Turned.{brought_is, kind_is}

-- ---- while the plan grows

module _ (old new : List Node) (grows : Grows old new) where
  part_kept : (p : Part) → IsPart old p → IsPart new p
  part_kept p is = let long = grown-length old new grows in let lt = is.inside in record { inside = omega arith; shape = ap (λ (a : Array). a.shape) (grown_value old new p.node grows is.inside) ∙ is.shape }

  pub parts_kept : (ps : List Part) → AllByRecursion (IsPart old) ps → AllByRecursion (IsPart new) ps
  parts_kept [] all = tt
  parts_kept (p ∷ ps) all = (part_kept p all.0, parts_kept ps all.1)

  module _ (kind : DType) (dims : List (List ℕ)) (front : Bool) where
    brought_same : (p : Part) → IsPart old p → brought new kind dims front p ≡ brought old kind dims front p
    brought_same p is = ap (λ v. wide front (as_kind kind (reordered v (order_of dims p)))) (grown_value old new p.node grows is.inside)

    pub all_same : (ps : List Part) → AllByRecursion (IsPart old) ps → map (brought new kind dims front) ps ≡ map (brought old kind dims front) ps
    all_same [] all = refl
    all_same (p ∷ ps) all = (λ i. brought_same p all.0 i ∷ all_same ps all.1 i)

  one_kept : (a : Array) (n : ℕ) → IsNodeFor old a n → IsNodeFor new a n
  one_kept a n is = let long = grown-length old new grows in let lt = is.inside in record { inside = omega arith; is = grown_value old new n grows is.inside ∙ is.is }

-- ---- one after the other

module _ (kind : DType) (dims : List (List ℕ)) (front : Bool) where
  pub none_brought : (nodes : List Node) (ps : List Part) (out : List ℕ) → length ps < 1 → AreBrought nodes nodes kind dims front ps out out
  none_brought nodes [] out none = record { more = []; are = sym (append-nil out); nodes = record { inside = All-nil (λ n. n < length nodes); are = refl } }
  none_brought nodes (p ∷ ps) out none = absurd (omega arith)

  one_brought : (old mid new : List Node) (p : Part) (ps : List Part) (n : ℕ) (out next ns : List ℕ) → Grows old mid → Grows mid new → AllByRecursion (IsPart old) ps → IsNodeFor mid (brought old kind dims front p) n → next ≡ out ++ n ∷ []
      → AreBrought mid new kind dims front ps next ns → AreBrought old new kind dims front (p ∷ ps) out ns
  one_brought old mid new p ps n out next ns first second parts one is rest =
      let here = one_kept mid new second (brought old kind dims front p) n one in
      record {
        more = n ∷ rest.more;
        are = rest.are ∙ ap (λ os. os ++ rest.more) is ∙ append_assoc out (n ∷ []) rest.more;
        nodes = record {
          inside = All-cons (λ m. m < length new) n rest.more here.inside rest.nodes.inside;
          are = (λ i. here.is i ∷ (rest.nodes.are ∙ all_same old mid first kind dims front ps parts) i);
        };
      }

  pub first_brought : (old mid new : List Node) (ps : List Part) (p : Part) (n : ℕ) (out next ns : List ℕ) → 1 ≤ length ps → p ≡ get_or ps 0 p → Grows old mid → Grows mid new → AllByRecursion (IsPart old) ps → IsNodeFor mid (brought old kind dims front p) n
      → next ≡ out ++ n ∷ [] → AreBrought mid new kind dims front (others ps) next ns → AreBrought old new kind dims front ps out ns
  first_brought old mid new ps p n out next ns some is first second parts one pushed rest =
      subst (λ qs. AreBrought old new kind dims front qs out ns) (sym (whole ps p some is))
      (one_brought old mid new p (others ps) n out next ns first second (first_holds (IsPart old) ps p some is parts).1 one pushed rest)

  pub brought_nodes : (old new : List Node) (ps : List Part) (out ns : List ℕ) → out ≡ [] → AreBrought old new kind dims front ps out ns → AreNodesFor new (map (brought old kind dims front) ps) ns
  brought_nodes old new ps out ns none all = subst (AreNodesFor new (map (brought old kind dims front) ps)) (sym (all.are ∙ ap (λ os. os ++ all.more) none)) all.nodes

pub rest_parts : (old mid : List Node) (ps : List Part) (p : Part) → Grows old mid → 1 ≤ length ps → p ≡ get_or ps 0 p → AllByRecursion (IsPart old) ps → AllByRecursion (IsPart mid) (others ps)
rest_parts old mid ps p grows some is all = parts_kept old mid grows (others ps) (first_holds (IsPart old) ps p some is all).1

-- ---- all of them

pub one_there : (nodes : List Node) (kind : DType) (dims : List (List ℕ)) (front : Bool) (p : Part) → AllFit [] nodes → IsPart nodes p → CanTurn front dims p → HasAll nodes p → AreThere (brought nodes kind dims front p).cells
one_there nodes kind dims front p fit is can full = (brought_full nodes kind dims front p fit is can.each full).all

module _ (nodes : List Node) (kind : DType) (dims : List (List ℕ)) (front : Bool) where
  abbrev all_brought : List Part → List Array
  all_brought ps = map (brought nodes kind dims front) ps

  shapes_are : (ps : List Part) → AllByRecursion (IsPart nodes) ps → shapes_of (all_brought ps) ≡ map (brought_shape front dims) ps
  shapes_are [] all = refl
  shapes_are (p ∷ ps) all = (λ i. brought_is nodes kind dims front p all.0 i ∷ shapes_are ps all.1 i)

  kinds_are : (ps : List Part) → AreOfKind kind (all_brought ps)
  kinds_are [] = tt
  kinds_are (p ∷ ps) = (kind_is nodes kind dims front p, kinds_are ps)

  are_full : (ps : List Part) → AllFit [] nodes → AllByRecursion (IsPart nodes) ps → AllByRecursion (CanTurn front dims) ps → AllByRecursion (HasAll nodes) ps → AllByRecursion IsFull (all_brought ps)
  are_full [] fit all can full = tt
  are_full (p ∷ ps) fit all can full = (brought_full nodes kind dims front p fit all.0 can.0.each full.0, are_full ps fit all.1 can.1 full.1)

  module _ (axis : ℕ) (ps : List Part) (parts : AllByRecursion (IsPart nodes) ps) (shapes : List (List ℕ)) (are : shapes ≡ map (brought_shape front dims) ps) (line : InLine axis shapes) where
    pub parts_join : CanJoin axis (all_brought ps)
    parts_join = can_join axis kind (all_brought ps) (kinds_are ps) (subst (InLine axis) (are ∙ sym (shapes_are ps parts)) line)

    pub parts_shape : (shape sizes : List ℕ) → shape ≡ joined_shape axis shapes → sizes ≡ shape → (concatenated (all_brought ps) axis).shape ≡ sizes
    parts_shape shape sizes is same = joined_is axis (all_brought ps) ∙ ap (joined_shape axis) (shapes_are ps parts ∙ sym are) ∙ sym (same ∙ is)

    pub parts_kind : (concatenated (all_brought ps) axis).kind ≡ kind
    parts_kind = let joined = parts_join in kind_joined kind axis (all_brought ps) (kinds_are ps) joined.some

    pub parts_there : AllFit [] nodes → AllByRecursion (CanTurn front dims) ps → AllByRecursion (HasAll nodes) ps → AreThere (concatenated (all_brought ps) axis).cells
    parts_there fit can full = concatenated_there axis (all_brought ps) (are_full ps fit parts can full) parts_join

-- The variables of a name in a plan.
use Rattle.std.proofs.Common.{◌≡◌, ◌∙◌, ℕ, ℤ, Bool, true, false, List, [], ◌∷◌, map, Option, Some, None, refl, sym, ap, subst, cond}
use Rattle.std.specs.Prelude.{find, option_map}
use Rattle.std.specs.Str.{bytes_eq}
use Rattle.std.specs.List.{AllByRecursion}
use Rattle.xr_types.specs.declared.kind.DType.{DType}
use Rattle.xr_arrays.specs.declared.node.Node.{Node}
use Rattle.xr_arrays.specs.Arrays.{Array}
use Rattle.xr_arrays.specs.Nodes.{value}
use Rattle.xr_defs.specs.Values as of
use Rattle.xr_combination.specs.Merge.{pieces_of}
use Rattle.xr_combination.specs.Pieces.{Piece, variable_piece, variables_called as those_called}
use Rattle.xr_merging.proofs.Called.{found_in}
use Rattle.xr_merging.specs.Members.{piece_in, variables_called}
use Rattle.xr_values.specs.Stands.{dataset_in, shape_named, variable_in, IsNodeOf}
use Rattle.xr_values.specs.declared.dataset.Dataset.{Dataset}
use Rattle.xr_values.specs.declared.variable.Variable.{Variable}
use Rattle.xr_types.specs.declared.axis.Axis.{Axis}
use Rattle.xr_forming.specs.Held.{IsHeld}
use Rattle.xr_joint.proofs.Firsts.{found_holds}
use Rattle.xr_joint.specs.Joint.{AllHeld, AllOver, AllPlaced, HasNodes}

abbrev is_called : List ℕ → Variable → Bool
is_called name v = bytes_eq v.name name

abbrev piece_with : Variable → DType → List ℕ → List (Option ℤ) → Piece
piece_with v kind shape cells = record { dims = v.dims; array = record { kind = kind; shape = shape; cells = cells }; masked = v.masked; attrs = v.attrs }

piece_same : (nodes : List Node) (s : Dataset) (v : Variable) → IsNodeOf nodes v.node (shape_named s v) v.kind → variable_piece (dataset_in nodes s, variable_in nodes v) ≡ piece_in nodes v
piece_same nodes s v is =
    ap (λ (t : DType). piece_with v t (shape_named s v) (value nodes v.node).cells) (sym is.has_kind)
    ∙ ap (λ (n : List ℕ). piece_with v (value nodes v.node).kind n (value nodes v.node).cells) (sym is.has_shape)

pub pieces_are : (nodes : List Node) (name : List ℕ) (ss : List Dataset) → AllByRecursion (HasNodes nodes) ss → pieces_of (map (dataset_in nodes) ss) name ≡ map (piece_in nodes) (variables_called name ss)
pieces_are nodes name [] all = refl
pieces_are nodes name (s ∷ ss) all =
    ap (λ (o : Option of.Variable). map variable_piece (elim o [ None ↦ those_called name (map (dataset_in nodes) ss) | Some v ↦ (dataset_in nodes s, v) ∷ those_called name (map (dataset_in nodes) ss) ])) (found_in nodes name s.vars)
    ∙ by (find (is_called name) s.vars) (λ v is. found_holds (λ (w : Variable). IsNodeOf nodes w.node (shape_named s w) w.kind) (is_called name) s.vars v all.0 is) (pieces_are nodes name ss all.1)
  where
    by : (o : Option Variable) → ((v : Variable) → o ≡ Some v → IsNodeOf nodes v.node (shape_named s v) v.kind) → pieces_of (map (dataset_in nodes) ss) name ≡ map (piece_in nodes) (variables_called name ss)
        → map variable_piece (elim (option_map (variable_in nodes) o) [ None ↦ those_called name (map (dataset_in nodes) ss) | Some v ↦ (dataset_in nodes s, v) ∷ those_called name (map (dataset_in nodes) ss) ])
        ≡ map (piece_in nodes) (elim o [ None ↦ variables_called name ss | Some v ↦ v ∷ variables_called name ss ])
    by None holds rest = rest
    by (Some v) holds rest = ap (λ p. p ∷ pieces_of (map (dataset_in nodes) ss) name) (piece_same nodes s v (holds v refl)) ∙ ap (λ ps. piece_in nodes v ∷ ps) rest

module _ (P : Variable → Type 0) where
  pub those_hold : (name : List ℕ) (ss : List Dataset) → AllByRecursion (λ (s : Dataset). AllByRecursion P s.vars) ss → AllByRecursion P (variables_called name ss)
  those_hold name [] all = tt
  those_hold name (s ∷ ss) all = by (find (is_called name) s.vars) (λ v is. found_holds P (is_called name) s.vars v all.0 is) (those_hold name ss all.1)
    where
      by : (o : Option Variable) → ((v : Variable) → o ≡ Some v → P v) → AllByRecursion P (variables_called name ss) → AllByRecursion P (elim o [ None ↦ variables_called name ss | Some v ↦ v ∷ variables_called name ss ])
      by None holds rest = rest
      by (Some v) holds rest = (holds v refl, rest)

module _ (nodes : List Node) (axes : List Axis) where
  own_nodes : (ss : List Dataset) → AllOver nodes axes ss → AllByRecursion (HasNodes nodes) ss
  own_nodes [] all = tt
  own_nodes (s ∷ ss) all = (all.0.own, own_nodes ss all.1)

  all_held : (ss : List Dataset) → AllOver nodes axes ss → AllByRecursion (λ (s : Dataset). AllByRecursion (IsHeld nodes axes) s.vars) ss
  all_held [] all = tt
  all_held (s ∷ ss) all = (all.0.held, all_held ss all.1)

  pub pieces_over : (name : List ℕ) (ss : List Dataset) → AllOver nodes axes ss → pieces_of (map (dataset_in nodes) ss) name ≡ map (piece_in nodes) (variables_called name ss)
  pieces_over name ss all = pieces_are nodes name ss (own_nodes ss all)

  pub those_held : (name : List ℕ) (ss : List Dataset) → AllOver nodes axes ss → AllHeld nodes axes (variables_called name ss)
  those_held name ss all = those_hold (IsHeld nodes axes) name ss (all_held ss all)

  pub those_placed : (vs : List Variable) → AllHeld nodes axes vs → AllPlaced nodes vs
  those_placed [] all = tt
  those_placed (v ∷ vs) all = (all.0.node.placed, those_placed vs all.1)

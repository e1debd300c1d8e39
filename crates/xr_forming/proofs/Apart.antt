-- Names of variables apart from those of coordinates and indexes, and axes that are held.
use Rattle.std.proofs.Common.{◌≡◌, ◌||◌, ◌&&◌, ℕ, Bool, true, false, cond, List, [], ◌∷◌, map, is_some, refl, sym, ap, ◌∙◌}
use Rattle.std.specs.Str.{bytes_eq}
use Rattle.std.specs.List.{list_any, AllByRecursion}
use Rattle.xr_types.specs.Names.{among, axis_names}
use Rattle.xr_types.specs.declared.axis.Axis.{Axis}
use Rattle.xr_arrays.specs.declared.node.Node.{Node}
use Rattle.xr_defs.specs.Decoding.{is_kept}
use Rattle.xr_defs.specs.Values as of
use Rattle.xr_defs.specs.WellFormed.{labelled, names_of, variable_names}
use Rattle.xr_defs.specs.declared.value.Coord.{Coord}
use Rattle.xr_relations.specs.Aligning.{has_coord, has_index}
use Rattle.xr_values.specs.declared.variable.Variable.{Variable}
use Rattle.xr_values.specs.Variables as variables
use Rattle.xr_values.specs.Stands.{variable_in}
use Rattle.xr_values.proofs.Named.{bytes_eq_swap}
use Rattle.xr_parts.proofs.Words.{AreAbsent}
use Rattle.xr_reducing.specs.Reduced.{is_busy}
use Rattle.xr_aligning.specs.Assigned.{IsApart}

pub coord_among : (cs : List Coord) (n : List ℕ) → has_coord cs n ≡ among (names_of cs) n
coord_among [] n = refl
coord_among (c ∷ cs) n = (λ i. bytes_eq_swap c.name n i || coord_among cs n i)

dims_in : (nodes : List Node) (n : List ℕ) (vs : List Variable) → list_any (λ (v : of.Variable). among v.dims n) (map (variable_in nodes) vs) ≡ list_any (λ (v : Variable). among v.dims n) vs
dims_in nodes n [] = refl
dims_in nodes n (v ∷ vs) = ap (λ t. among v.dims n || t) (dims_in nodes n vs)

pub busy_same : (nodes : List Node) (coords : List Coord) (vs : List Variable) (x : Axis) → is_kept coords (map (variable_in nodes) vs) x ≡ is_busy coords vs x
busy_same nodes coords vs x = ap (λ t. (is_some x.labels || list_any (λ (c : Coord). among (axis_names c.axes) x.name) coords) || t) (dims_in nodes x.name vs)

pub labelled_among : (axes : List Axis) (n : List ℕ) → among (axis_names (labelled axes)) n ≡ has_index axes n
labelled_among [] n = refl
labelled_among (x ∷ xs) n = by (is_some x.labels) (labelled_among xs n) ∙ ap (λ b. (b && is_some x.labels) || has_index xs n) (bytes_eq_swap n x.name)
  where
    and_true : (b : Bool) → b ≡ (b && true)
    and_true true = refl
    and_true false = refl

    and_false : (b : Bool) → (b && false) ≡ false
    and_false true = refl
    and_false false = refl

    by : (b : Bool) → among (axis_names (labelled xs)) n ≡ has_index xs n → among (axis_names (cond b (x ∷ labelled xs) (labelled xs))) n ≡ ((bytes_eq n x.name && b) || has_index xs n)
    by true rest = (λ i. and_true (bytes_eq n x.name) i || rest i)
    by false rest = rest ∙ ap (λ b. b || has_index xs n) (sym (and_false (bytes_eq n x.name)))

pub index_apart : (axes : List Axis) (coords : List Coord) (vs : List Variable) → AllByRecursion (IsApart axes coords) vs → AreAbsent (axis_names (labelled axes)) (variables.names_of vs)
index_apart axes coords [] all = tt
index_apart axes coords (v ∷ vs) all = (labelled_among axes v.name ∙ all.0.0, index_apart axes coords vs all.1)

pub coords_apart : (axes : List Axis) (coords : List Coord) (vs : List Variable) → AllByRecursion (IsApart axes coords) vs → AreAbsent (names_of coords) (variables.names_of vs)
coords_apart axes coords [] all = tt
coords_apart axes coords (v ∷ vs) all = (sym (coord_among coords v.name) ∙ all.0.1, coords_apart axes coords vs all.1)

pub var_names : (nodes : List Node) (vs : List Variable) → variable_names (map (variable_in nodes) vs) ≡ variables.names_of vs
var_names nodes [] = refl
var_names nodes (v ∷ vs) = ap (λ ns. v.name ∷ ns) (var_names nodes vs)

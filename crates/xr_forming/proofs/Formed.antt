-- Variables and datasets that are as they have to be.
use Rattle.std.proofs.Common.{◌≡◌, ◌≤◌, ◌+◌, ◌&&◌, ◌∙◌, ◌++◌, ℕ, true, All, List, [], ◌∷◌, length, map, is_some, refl, sym, ap, subst}
use Rattle.std.specs.Prelude.{nat_le}
use Rattle.std.specs.List.{list_all, AllByRecursion}
use Rattle.std.proofs.lemmas.Bool.{and_parts, leb-true}
use Rattle.std.proofs.lemmas.List.Elements.{All-from_recursion}
use Rattle.std.proofs.lemmas.List.{length-map}
use Rattle.xr_types.specs.Names.{are_distinct, axis_names}
use Rattle.xr_types.specs.Points.{size}
use Rattle.xr_types.specs.declared.axis.Axis.{Axis}
use Rattle.xr_arrays.specs.Nodes.{value, AllFit}
use Rattle.xr_arrays.specs.Arrays.{IsArray, IsCell}
use Rattle.xr_arrays.specs.declared.node.Node.{Node}
use Rattle.plan_core.proofs.Valued.{value_is_array}
use Rattle.xr_defs.specs.Decoding.{is_kept}
use Rattle.xr_defs.specs.Limits.{most_cells, most_dimensions, most_variables}
use Rattle.xr_defs.specs.Selecting.{are_within, axis_called, is_within}
use Rattle.xr_defs.specs.WellFormed.{labelled, names_of, variable_names, AreAttributes, AreDimensions, IsCoordinate, IsVariable}
use Rattle.xr_defs.specs.declared.value.Coord.{Coord}
use Rattle.xr_values.specs.declared.dataset.Dataset.{Dataset}
use Rattle.xr_values.specs.declared.variable.Variable.{Variable}
use Rattle.xr_values.specs.Variables as variables
use Rattle.xr_values.specs.Stands.{variable_in, IsDatasetIn, IsNodeOf}
use Rattle.xr_parts.proofs.Words.{AreAbsent, absent_left, distinct_cons, distinct_left, join}
use Rattle.xr_reducing.specs.Reduced.{is_busy}
use Rattle.xr_aligning.specs.Assigned.{IsApart}
use Rattle.xr_aligning.specs.Limits.{is_set_within, sizes_called}
use Rattle.xr_forming.proofs.Apart.{busy_same, coord_among, coords_apart, index_apart, var_names}
use Rattle.xr_forming.specs.Held.{AreNew, Holds, IsHeld, IsShaped}

-- ---- a variable

pub within_parts : (shape : List ℕ) → is_within shape ≡ true → (length shape ≤ most_dimensions) × (size shape ≤ most_cells)
within_parts shape is =
    let outer = and_parts (nat_le (length shape) most_dimensions) (list_all (λ n. nat_le n most_cells) shape && nat_le (size shape) most_cells) is in
    let inner = and_parts (list_all (λ n. nat_le n most_cells) shape) (nat_le (size shape) most_cells) outer.1 in
    (leb-true (length shape) most_dimensions outer.0, leb-true (size shape) most_cells inner.1)

pub variable_formed : (nodes : List Node) (axes : List Axis) (v : Variable) → AllFit [] nodes → IsHeld nodes axes v → IsShaped axes v → IsVariable axes (variable_in nodes v)
variable_formed nodes axes v fit held shaped =
    let is : IsArray (value nodes v.node) = value_is_array nodes v.node fit held.node.placed in
    let parts = within_parts (sizes_called axes v.dims) shaped.within in
    record {
      name = shaped.name;
      over = shaped.over;
      distinct = shaped.distinct;
      attrs = shaped.attrs;
      cells = record {
        whole = is.whole ∙ ap size held.node.has_shape;
        range = subst (λ t. All (IsCell t) (value nodes v.node).cells) held.node.has_kind is.range;
        seen = held.seen;
        low_rank = parts.0;
        few = parts.1;
      };
    }

-- ---- names

pub coords_distinct : (axes : List Axis) (cs : List Coord) → AreNew axes cs → are_distinct (names_of cs) ≡ true
coords_distinct axes [] new = refl
coords_distinct axes (c ∷ cs) new = distinct_cons c.name (names_of cs) (sym (coord_among cs c.name) ∙ new.1.0) (coords_distinct axes cs new.1.1)

pub coords_absent : (axes : List Axis) (cs : List Coord) → AreNew axes cs → AreAbsent (axis_names axes) (names_of cs)
coords_absent axes [] new = tt
coords_absent axes (c ∷ cs) new = (new.0, coords_absent axes cs new.1.1)

both_absent : (xs ns ms : List (List ℕ)) → AreAbsent xs ns → AreAbsent xs ms → AreAbsent xs (ns ++ ms)
both_absent xs [] ms a b = b
both_absent xs (n ∷ ns) ms a b = (a.0, both_absent xs ns ms a.1 b)

weaker_absent : (axes : List Axis) (ns : List (List ℕ)) → AreAbsent (axis_names axes) ns → AreAbsent (axis_names (labelled axes)) ns
weaker_absent axes [] a = tt
weaker_absent axes (n ∷ ns) a = (absent_left (λ (x : Axis). x.name) (λ (x : Axis). is_some x.labels) axes n a.0, weaker_absent axes ns a.1)

-- ---- a dataset

kept_same : (nodes : List Node) (coords : List Coord) (vs : List Variable) (xs : List Axis) → list_all (is_kept coords (map (variable_in nodes) vs)) xs ≡ list_all (is_busy coords vs) xs
kept_same nodes coords vs [] = refl
kept_same nodes coords vs (x ∷ xs) = (λ i. busy_same nodes coords vs x i && kept_same nodes coords vs xs i)

few_in : (s : Dataset) → is_set_within s ≡ true → length s.coords + length s.vars ≤ most_variables
few_in s is =
    let a = and_parts (list_all (λ (x : Axis). nat_le x.size most_cells) s.axes) (are_within s.coords && (list_all (λ (v : Variable). is_within (sizes_called s.axes v.dims)) s.vars && nat_le (length s.coords + length s.vars) most_variables)) is in
    let b = and_parts (are_within s.coords) (list_all (λ (v : Variable). is_within (sizes_called s.axes v.dims)) s.vars && nat_le (length s.coords + length s.vars) most_variables) a.1 in
    let c = and_parts (list_all (λ (v : Variable). is_within (sizes_called s.axes v.dims)) s.vars) (nat_le (length s.coords + length s.vars) most_variables) b.1 in
    leb-true (length s.coords + length s.vars) most_variables c.1

node_held : (nodes : List Node) (s : Dataset) (vs : List Variable) → AllByRecursion (IsHeld nodes s.axes) vs → AllByRecursion (λ (v : Variable). IsNodeOf nodes v.node (map (λ d. (axis_called s.axes d).size) v.dims) v.kind) vs
node_held nodes s [] all = tt
node_held nodes s (v ∷ vs) all = (all.0.node, node_held nodes s vs all.1)

module _ (nodes : List Node) (s : Dataset) (fit : AllFit [] nodes) (holds : Holds nodes s) (dims : AreDimensions s.axes) (coords : AllByRecursion (IsCoordinate s.axes) s.coords) (new : AreNew s.axes s.coords)
    (vars : AllByRecursion (IsVariable s.axes) (map (variable_in nodes) s.vars)) (differ : are_distinct (variables.names_of s.vars) ≡ true) (apart : AllByRecursion (IsApart s.axes s.coords) s.vars)
    (busy : list_all (is_busy s.coords s.vars) s.axes ≡ true) (attrs : AreAttributes s.attrs) (within : is_set_within s ≡ true) where
  names_differ : are_distinct (axis_names (labelled s.axes) ++ (names_of s.coords ++ variable_names (map (variable_in nodes) s.vars))) ≡ true
  names_differ =
      ap (λ ns. are_distinct (axis_names (labelled s.axes) ++ (names_of s.coords ++ ns))) (var_names nodes s.vars)
      ∙ join (axis_names (labelled s.axes)) (names_of s.coords ++ variables.names_of s.vars) (record {
        first = distinct_left (λ (x : Axis). x.name) (λ (x : Axis). is_some x.labels) s.axes dims.distinct;
        second = join (names_of s.coords) (variables.names_of s.vars) (record { first = coords_distinct s.axes s.coords new; second = differ; apart = coords_apart s.axes s.coords s.vars apart });
        apart = both_absent (axis_names (labelled s.axes)) (names_of s.coords) (variables.names_of s.vars) (weaker_absent s.axes (names_of s.coords) (coords_absent s.axes s.coords new)) (index_apart s.axes s.coords s.vars apart);
      })

  pub set_formed : IsDatasetIn nodes s
  set_formed = record {
    nodes_of = All-from_recursion (λ (v : Variable). IsNodeOf nodes v.node (map (λ d. (axis_called s.axes d).size) v.dims) v.kind) s.vars (node_held nodes s s.vars holds.vars);
    formed = record {
      axes = dims;
      coords = coords;
      vars = vars;
      coords_distinct = join (axis_names s.axes) (names_of s.coords) (record { first = dims.distinct; second = coords_distinct s.axes s.coords new; apart = coords_absent s.axes s.coords new });
      vars_distinct = names_differ;
      busy = kept_same nodes s.coords s.vars s.axes ∙ busy;
      attrs = attrs;
      few = subst (λ n. length s.coords + n ≤ most_variables) (sym (length-map s.vars (variable_in nodes))) (few_in s within);
    };
  }

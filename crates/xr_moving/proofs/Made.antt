-- What formulas make of nodes of a plan, for arrays and for the variables of datasets.
use Rattle.xr_moving.proofs.Common.{AllByRecursion, AreCells, Array, Axis, Bool, Coord, DType, Formula, FormulaFits, IsNodeOf, IsVarFit, IsVariable, Made, Makes, Node, Option, VarMade, Variable, [], among, any_mapped, ap, arith, axis_names, formula_cells, formula_value, is_kept, is_some, list_all, list_any, map, refl, shape_over, size, sizes, subst, sym, value, var_made_in, variable_in, variable_names, ℕ, ℤ, ◌*◌, ◌||◌, ◌∙◌, ◌∷◌, ◌≡◌, ◌≤◌}
use Rattle.std.proofs.Common.{List}
use Rattle.xr_defs.specs.WellFormed.{IsDataArray}
use Rattle.xr_formulas.specs.Mades.{made_with}
use Rattle.xr_formulas.proofs.Changes.{own_span}
use Rattle.xr_reducing.proofs.OneVariable.{within_span}
use Rattle.xr_defs.specs.Values as of

-- cells of this shape and kind, which a plan takes
pub record AreMade (nodes : List Node) (cells : Formula) (s : List ℕ) (kind : DType) (masked : Bool) (to : Array) : Type 0 where
  pub value : formula_value nodes cells ≡ to
  pub shape : to.shape ≡ s
  pub kind_is : to.kind ≡ kind
  pub fits : FormulaFits nodes cells
  pub are : AreCells s kind masked to.cells
  pub room : formula_cells nodes cells ≤ 16 * size s

-- the cells of a node
abbrev pub cells_in : List Node → ℕ → List ℕ → DType → Array
cells_in nodes n s kind = record { kind = kind; shape = s; cells = (value nodes n).cells }

pub node_value : (nodes : List Node) (n : ℕ) (s : List ℕ) (kind : DType) → IsNodeOf nodes n s kind → value nodes n ≡ cells_in nodes n s kind
node_value nodes n s kind node = by (value nodes n).kind (value nodes n).shape node.has_kind node.has_shape
  where
    by : (t : DType) (shape : List ℕ) → t ≡ kind → shape ≡ s → cells_in nodes n shape t ≡ cells_in nodes n s kind
    by t shape k e = cc

pub array_made : (nodes : List Node) (m : Made) (to : Array) → AreMade nodes m.cells (shape_over m.axes) m.kind m.masked to → IsDataArray (made_with m to.cells) → Makes nodes (made_with m to.cells) m
array_made nodes m to all formed =
    let same = ap (λ (v : Array). made_with m v.cells) all.value in
    let few = all.room in
    let over = own_span (made_with m to.cells) formed in
    record {
      is = same;
      made = record {
        fits = all.fits;
        shape = ap (λ (v : Array). v.shape) all.value ∙ all.shape;
        kind = ap (λ (v : Array). v.kind) all.value ∙ all.kind_is;
        formed = subst IsDataArray (sym same) formed;
        room = omega (arith, few, over);
      };
    }

-- ---- a variable

pub record IsVarDone (nodes : List Node) (axes : List Axis) (means : of.Variable) (m : VarMade) : Type 0 where
  pub is : var_made_in nodes m ≡ means
  pub fit : IsVarFit nodes axes m
  pub formed : IsVariable axes means

-- with these cells
abbrev pub var_with : VarMade → List (Option ℤ) → of.Variable
var_with m cells = record { name = m.name; dims = m.dims; kind = m.kind; masked = m.masked; attrs = m.attrs; cells = cells }

pub var_done : (nodes : List Node) (axes : List Axis) (m : VarMade) (to : Array) → AreMade nodes m.cells (sizes axes m.dims) m.kind m.masked to → IsVariable axes (var_with m to.cells) → IsVarDone nodes axes (var_with m to.cells) m
var_done nodes axes m to all formed =
    let few = all.room in
    let over = within_span axes m.dims formed.over formed.distinct in
    record {
      is = ap (λ (v : Array). var_with m v.cells) all.value;
      fit = record {
        fits = all.fits;
        shape = ap (λ (v : Array). v.shape) all.value ∙ all.shape;
        kind = ap (λ (v : Array). v.kind) all.value ∙ all.kind_is;
        room = omega (arith, few, over);
      };
      formed = formed;
    }

-- ---- all variables of a dataset

module _ (nodes : List Node) (axes : List Axis) (made : Variable → VarMade) (change : of.Variable → of.Variable) where
  abbrev pub IsDone : Variable → Type 0
  IsDone v = IsVarDone nodes axes (change (variable_in nodes v)) (made v)

  pub record AreDone (vs : List Variable) : Type 0 where
    pub are : map (var_made_in nodes) (map made vs) ≡ map change (map (variable_in nodes) vs)
    pub fit : AllByRecursion (IsVarFit nodes axes) (map made vs)
    pub formed : AllByRecursion (IsVariable axes) (map change (map (variable_in nodes) vs))

  pub all_done : (vs : List Variable) → AllByRecursion IsDone vs → AreDone vs
  all_done [] all = record { are = refl; fit = tt; formed = tt }
  all_done (v ∷ vs) all =
      let rest = all_done vs all.1 in
      record { are = ap (λ w. w ∷ map (var_made_in nodes) (map made vs)) all.0.is ∙ ap (λ ws. change (variable_in nodes v) ∷ ws) rest.are; fit = (all.0.fit, rest.fit); formed = (all.0.formed, rest.formed) }

-- ---- with the names and dimensions that they had

module _ (change : of.Variable → of.Variable) where
  pub names_stay : ((v : of.Variable) → (change v).name ≡ v.name) → (vs : List of.Variable) → variable_names (map change vs) ≡ variable_names vs
  names_stay same [] = refl
  names_stay same (v ∷ vs) = ap (λ n. n ∷ variable_names (map change vs)) (same v) ∙ ap (λ ns. v.name ∷ ns) (names_stay same vs)

  -- an axis is one of a coordinate or a variable where it was
  pub busy_stays : ((v : of.Variable) → (change v).dims ≡ v.dims) → (coords : List Coord) (vs : List of.Variable) (xs : List Axis) → list_all (is_kept coords (map change vs)) xs ≡ list_all (is_kept coords vs) xs
  busy_stays same coords vs xs = (λ i. list_all (λ (x : Axis). is_some x.labels || list_any (λ (c : Coord). among (axis_names c.axes) x.name) coords || have x.name i) xs)
    where
      have : (n : List ℕ) → list_any (λ (v : of.Variable). among v.dims n) (map change vs) ≡ list_any (λ (v : of.Variable). among v.dims n) vs
      have n = any_mapped (λ (v : of.Variable). among v.dims n) change vs ∙ (λ i. list_any (λ (v : of.Variable). among (same v i) n) vs)

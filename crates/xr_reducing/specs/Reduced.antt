-- What a reduction makes of the variables of a dataset, before a plan.
use Rattle.std.specs.Prelude.{◌≡◌, ◌||◌, ℕ, Bool, not, List, [], ◌∷◌, map, filter, is_some, Result, Ok, Err, if◌then◌else◌}
use Rattle.std.specs.List.{AllByRecursion, list_any}
use Rattle.xr_types.specs.Names.{among, axis_names}
use Rattle.xr_types.specs.Results.{all_of}
use Rattle.xr_types.specs.declared.axis.Axis.{Axis}
use Rattle.xr_types.specs.declared.fault.CallFault.{CallFault}
use Rattle.xr_types.specs.declared.fault.Fault.{Fault}
use Rattle.xr_types.specs.declared.operation.FoldKind.{FoldKind}
use Rattle.xr_arrays.specs.declared.node.Node.{Node}
use Rattle.xr_arrays.specs.Folds.{folded_kind}
use Rattle.xr_defs.specs.declared.value.Coord.{Coord}
use Rattle.xr_defs.specs.Building.{is_chars}
use Rattle.xr_defs.specs.Values as of
use Rattle.xr_defs.specs.Values.{without_fills}
use Rattle.xr_defs.specs.WellFormed.{IsDataset}
use Rattle.xr_formulas.specs.declared.chain.Start.TheVariants as starts
use Rattle.xr_formulas.specs.declared.chain.Step.TheVariants as step
use Rattle.xr_operations.specs.Reductions.{axes_left, check_cells, check_size, coords_left, is_emptied, feeds, masked_after, names_left, size_called}
use Rattle.xr_values.specs.Answers.{Fails}
use Rattle.xr_values.specs.declared.dataset.Dataset.{Dataset}
use Rattle.xr_values.specs.declared.variable.Variable.{Variable}
use Rattle.xr_values.specs.Stands.{variable_in, IsNodeOf}
use Rattle.xr_reducing.specs.declared.chars.Frame.{Frame}
use Rattle.xr_reducing.specs.declared.realized.SetMade.{SetMade}
use Rattle.xr_reducing.specs.declared.realized.VarMade.{VarMade}
use Rattle.xr_reducing.specs.Sets.{set_made_in, IsSetFew}

-- ---- without the variables of chars, and without the bare axes that nothing has then

abbrev pub chars_out : List Variable → List Variable
chars_out vs = filter (λ (v : Variable). not (is_chars v.kind)) vs

abbrev pub is_busy : List Coord → List Variable → Axis → Bool
is_busy coords vs x = is_some x.labels || list_any (λ (c : Coord). among (axis_names c.axes) x.name) coords || list_any (λ (v : Variable). among v.dims x.name) vs

abbrev pub charless : Dataset → Frame
charless s = record { axes = filter (is_busy s.coords (chars_out s.vars)) s.axes; vars = chars_out s.vars }

-- the dataset with these axes and variables
abbrev pub framed_in : List Node → Dataset → Frame → of.Dataset
framed_in nodes s f = record { axes = f.axes; coords = s.coords; vars = map (variable_in nodes) f.vars; attrs = s.attrs; skipped = s.skipped }

pub record IsFrameIn (nodes : List Node) (s : Dataset) (f : Frame) : Type 0 where
  pub nodes_of : AllByRecursion (λ (v : Variable). IsNodeOf nodes v.node (map (size_called f.axes) v.dims) v.kind) f.vars
  pub formed : IsDataset (framed_in nodes s f)

-- ---- variables

abbrev pub same_made : Variable → VarMade
same_made v = record { name = v.name; dims = v.dims; kind = v.kind; masked = v.masked; attrs = v.attrs; cells = record { start = starts.Node v.node; steps = [] } }

abbrev pub folded_made : FoldKind → List (List ℕ) → Variable → VarMade
folded_made k names v =
    record {
      name = v.name;
      dims = names_left names v.dims;
      kind = folded_kind k v.kind;
      masked = masked_after k v.masked;
      attrs = without_fills v.attrs;
      cells = record { start = starts.Node v.node; steps = step.Fold k (feeds names v.dims) ∷ [] };
    }

abbrev pub var_made : FoldKind → List (List ℕ) → Variable → VarMade
var_made k names v = if list_any (among names) v.dims then folded_made k names v else same_made v

-- ---- checks

unfoldable pub check_over : FoldKind → List (List ℕ) → List Axis → List (List ℕ) → Result (Unit {0}) Fault
check_over k names axes dims = check_cells k (list_any (λ d. is_emptied names d (size_called axes d)) dims)

abbrev pub check_each : FoldKind → List (List ℕ) → List Axis → List Variable → Result (Unit {0}) Fault
check_each k names axes vs = all_of (λ (v : Variable). check_over k names axes v.dims) vs

abbrev pub check_each_size : List (List ℕ) → List Axis → List Variable → Result (Unit {0}) Fault
check_each_size names axes vs = all_of (λ (v : Variable). check_size (map (size_called axes) (names_left names v.dims))) vs

-- ---- the dataset

abbrev pub is_made_busy : List Coord → List VarMade → Axis → Bool
is_made_busy coords ms x = is_some x.labels || list_any (λ (c : Coord). among (axis_names c.axes) x.name) coords || list_any (λ (m : VarMade). among m.dims x.name) ms

abbrev pub set_made : FoldKind → List (List ℕ) → Dataset → Frame → SetMade
set_made k names s f =
    let coords = coords_left names s.coords in
    let vars = map (var_made k names) f.vars in
    record { axes = filter (is_made_busy coords vars) (axes_left names f.axes); coords = coords; vars = vars; attrs = without_fills s.attrs; skipped = s.skipped }

-- a call that makes a dataset of any plan, or has the first fault
abbrev pub AnswersSetMade : List Node → Result SetMade CallFault → Result of.Dataset Fault → Type 0
AnswersSetMade nodes (Ok m) means = (means ≡ Ok (set_made_in nodes m)) × IsSetFew nodes m
AnswersSetMade nodes (Err e) means = Fails e means

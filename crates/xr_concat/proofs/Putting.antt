-- Variables and coordinates put together as a dataset of the plan, and datasets over joined axes.
use Rattle.std.proofs.Common.{◌≡◌, ◌∙◌, ◌≤◌, ◌∷◌, ℕ, true, ℤ, List, [], flat_map, length, map, Option, Result, Ok, Err, arith, refl, sym, ap, subst}
use Rattle.std.specs.List.{list_all, AllByRecursion}
use Rattle.std.proofs.lemmas.Bool.{and_parts}
use Rattle.xr_types.specs.Results.{◌>>=◌, Answers}
use Rattle.xr_types.specs.declared.attr.Attr.{Attr}
use Rattle.xr_types.specs.declared.axis.Axis.{Axis}
use Rattle.xr_types.specs.declared.fault.CallFault.{CallFault}
use Rattle.xr_types.specs.declared.fault.Fault.{Fault}
use Rattle.xr_arrays.specs.declared.node.Node.{Node}
use Rattle.xr_combination.specs.Concat.{coord_of_all, put_together, result_names, set_names, unnamed, variable_concatenated}
use Rattle.xr_combination.specs.Pieces.{all_skipped, each_of, first_set, is_array}
use Rattle.xr_defs.specs.Carrying.{joined_attrs}
use Rattle.xr_defs.specs.Meanings as of_values
use Rattle.xr_defs.specs.Parts.{axes_called, without_idle}
use Rattle.xr_defs.specs.Values as of
use Rattle.xr_defs.specs.WellFormed.{IsCoordinate}
use Rattle.xr_defs.specs.declared.value.Coord.{Coord}
use Rattle.xr_joint.proofs.Failing.{fails_of, fails_on}
use Rattle.xr_joint.specs.Joint.{joint_in, set_of}
use Rattle.xr_joint.specs.declared.pieces.JointVariable.{JointVariable}
use Rattle.xr_relations.specs.Aligning.{fitted_set}
use Rattle.xr_values.specs.Answers.{Fails}
use Rattle.xr_values.specs.Stands.{dataset_in}
use Rattle.xr_values.specs.declared.dataset.Dataset.{Dataset}
use Rattle.xr_chaining.specs.Sets.{IsUnnamedIn}
use Rattle.xr_joint.specs.Fitting.{HasFrame}
use Rattle.xr_concat.proofs.Fitted.{count_kept}
use Rattle.xr_concat.specs.Answered.{AnswersHeld}
use Rattle.xr_concat.specs.Named.{AreHeldIn}

-- ---- coordinates of what is held

pub held_coords : (old nodes : List Node) (ss : List Dataset) → AreHeldIn old ss → AllByRecursion (λ (s : of.Dataset). AllByRecursion (IsCoordinate s.axes) s.coords) (map (dataset_in nodes) ss)
held_coords old nodes [] all = tt
held_coords old nodes (s ∷ ss) all = (all.0.coords, held_coords old nodes ss all.1)

-- ---- a dataset of them

module _ (dim : List ℕ) (axes : List Axis) (ss : List of.Dataset) where
  abbrev ending : List of.Variable → of.Dataset
  ending vars = without_idle (record {
    axes = axes_called axes (result_names dim ss);
    coords = flat_map (coord_of_all dim axes ss) (first_set ss).coords;
    vars = vars;
    attrs = joined_attrs (map (λ (s : of.Dataset). s.attrs) ss);
    skipped = all_skipped ss;
  })

  put_steps : put_together dim axes ss ≡ (each_of (variable_concatenated dim ss) (set_names (first_set ss)) >>= λ vars. Ok (ending vars))
  unfolding put_together
  put_steps = refl

  pub put_told : (nodes : List Node) (js : List JointVariable) (all : List Axis) (coords : List Coord) (attrs : List Attr) (skipped : List (List ℕ)) (t : of.Dataset)
      → each_of (variable_concatenated dim ss) (set_names (first_set ss)) ≡ Ok (map (joint_in nodes) js) → all ≡ axes_called axes (result_names dim ss) → coords ≡ flat_map (coord_of_all dim axes ss) (first_set ss).coords
      → attrs ≡ joined_attrs (map (λ (s : of.Dataset). s.attrs) ss) → skipped ≡ all_skipped ss → t ≡ set_of all attrs skipped (record { vars = map (joint_in nodes) js; coords = coords }) → put_together dim axes ss ≡ Ok t
  put_told nodes js all coords attrs skipped t vars all_is coords_are attrs_are skipped_are is =
      put_steps ∙ ap (λ r. r >>= λ us. Ok (ending us)) vars
      ∙ ap Ok (sym (is ∙ (λ i. set_of (all_is i) (attrs_are i) (skipped_are i) (record { vars = map (joint_in nodes) js; coords = coords_are i }))))

  pub put_fails : {A : Type 0} (view : A → List of.Variable) (e : CallFault) → Answers view (Err e) (each_of (variable_concatenated dim ss) (set_names (first_set ss))) → Fails e (put_together dim axes ss)
  put_fails view e told = subst (Fails e) (sym put_steps) (fails_on e (each_of (variable_concatenated dim ss) (set_names (first_set ss))) (λ vars. Ok (ending vars)) (fails_of view e (each_of (variable_concatenated dim ss) (set_names (first_set ss))) told))

pub held_fails : (nodes : List Node) (r : Result Dataset CallFault) (e : CallFault) (means : Result of.Dataset Fault) → r ≡ Err e → Fails e means → AnswersHeld nodes r means
held_fails nodes r e means here fails = subst (λ (x : Result Dataset CallFault). AnswersHeld nodes x means) (sym here) fails

-- ---- the axes and coordinates of values

pub frames_of : (nodes : List Node) (ss : List Dataset) → AllByRecursion (IsUnnamedIn nodes) ss → AllByRecursion HasFrame ss
frames_of nodes [] all = tt
frames_of nodes (s ∷ ss) all = (all.0.frame, frames_of nodes ss all.1)

-- ---- an array has one variable

array_has : (v : of_values.Value) → is_array v ≡ true → length (unnamed v).vars ≤ 1
array_has of_values.Absent is = absurd cc
array_has of_values.Missing is = absurd cc
array_has (of_values.Truth b) is = absurd cc
array_has (of_values.Number n) is = absurd cc
array_has (of_values.Text t) is = absurd cc
array_has (of_values.Sequence vs) is = absurd cc
array_has (of_values.Table es) is = absurd cc
array_has (of_values.Slice start stop step) is = absurd cc
array_has (of_values.Array a) is = omega arith
array_has (of_values.Set s) is = absurd cc
array_has (of_values.Times coding ts) is = absurd cc
array_has (of_values.GroupedArray a g) is = absurd cc
array_has (of_values.GroupedSet s g) is = absurd cc

pub first_has : (vs : List of_values.Value) → list_all is_array vs ≡ true → length (first_set (map unnamed vs)).vars ≤ 1
first_has [] is = omega arith
first_has (v ∷ vs) is = array_has v (and_parts (is_array v) (list_all is_array vs) is).0

pub few_over : (joined : List Axis) (fill : Option ℤ) (vs : List of_values.Value) → list_all is_array vs ≡ true → length (first_set (map (fitted_set joined fill) (map unnamed vs))).vars ≤ 1
few_over joined fill vs arrays = subst (λ n. n ≤ 1) (sym (count_kept joined fill (map unnamed vs))) (first_has vs arrays)

-- What a selection adds to a plan: positions are taken, and then dimensions go.
use Rattle.std.proofs.Common.{◌≡◌, ◌≤◌, ◌+◌, ◌*◌, ◌++◌, ℕ, true, List, [], ◌∷◌, length, None, sym, ap, ◌∙◌, arith}
use Rattle.std.proofs.lemmas.List.{length-map}
use Rattle.std.proofs.lemmas.Nat.{mul-le}
use Rattle.xr_types.specs.Names.{are_distinct, axis_names}
use Rattle.xr_types.specs.declared.axis.Axis.{Axis}
use Rattle.xr_arrays.specs.Added.{AddsAtMost}
use Rattle.xr_arrays.specs.declared.node.Node.{Node}
use Rattle.xr_defs.specs.Room.{of_array, of_set, room, span}
use Rattle.xr_defs.specs.Values as of
use Rattle.xr_defs.specs.WellFormed.{IsDataArray, IsDataset}
use Rattle.xr_defs.proofs.Spans.{back_among, greatest_both, span_up}
use Rattle.plan_core.proofs.Added.{adds_both, adds_up}
use Rattle.xr_operations.specs.declared.change.Change.{Change}
use Rattle.xr_operations.specs.Changing.{changed_array, changed_set, changed_variable}
use Rattle.xr_operations.specs.Indexing.{squeezed_array, squeezed_set}
use Rattle.xr_operations.specs.Reductions.{axes_left}
use Rattle.xr_values.specs.declared.data_array.DataArray.{DataArray}
use Rattle.xr_values.specs.declared.dataset.Dataset.{Dataset}
use Rattle.xr_values.specs.Stands.{array_in, dataset_in, variable_in}
use Rattle.xr_values.proofs.Rooms.{in_room}
use Rattle.xr_formulas.specs.Mades.{IsArrayOf}
use Rattle.xr_reducing.specs.Sets.{IsSetOf}
use Rattle.xr_changing.specs.Changed.{IsChanged, IsSetChanged}
use Rattle.xr_changing.proofs.NewAxes.{names_kept}
use Rattle.xr_squeezing.specs.Alone.{AreAlone}
use Rattle.xr_squeezing.proofs.Spanned.{span_alone}

-- the axes that are left span as much as those that were taken
module _ (own taken left : List Axis) (names : axis_names taken ≡ axis_names own) (distinct : are_distinct (axis_names own) ≡ true) (gone : List (List ℕ)) (alone : AreAlone taken gone) (is : left ≡ axes_left gone taken) where
  taken_up : span (own ++ taken) ≤ span (own ++ left)
  taken_up = let up = span_alone own taken gone names (ap are_distinct names ∙ distinct) alone in let same = ap (λ xs. span (own ++ xs)) is in omega arith

  left_up : span left ≤ span (own ++ left)
  left_up = span_up left (own ++ left) (back_among own left) (λ n. let both = greatest_both own left n in omega arith)

pub array_room : (old mid new : List Node) (cs : List Change) (gone : List (List ℕ)) (own : of.DataArray) (taken b : DataArray) → IsDataArray own → IsChanged old mid (changed_array cs None own) own taken → IsArrayOf new (squeezed_array gone (array_in mid taken)) b
    → AreAlone taken.axes gone → AddsAtMost mid new (16 * span b.axes) → AddsAtMost old new (room (of_array own ∷ of_array (array_in new b) ∷ []))
array_room old mid new cs gone own taken b formed changed left alone adds =
    let names : axis_names taken.axes ≡ axis_names own.axes = ap (λ (x : of.DataArray). axis_names x.axes) changed.is ∙ names_kept cs own.axes in
    let after : b.axes ≡ axes_left gone taken.axes = ap (λ (x : of.DataArray). x.axes) left.is in
    let one = taken_up own.axes taken.axes b.axes names formed.axes.distinct gone alone after in
    let two = left_up own.axes taken.axes b.axes names formed.axes.distinct gone alone after in
    in_room old new (of_array own) (of_array (array_in new b)) 32 (omega arith)
    (adds_up old new (16 * span (own.axes ++ taken.axes) + 16 * span b.axes) (32 * span (own.axes ++ b.axes)) (omega arith) (adds_both old mid new (16 * span (own.axes ++ taken.axes)) (16 * span b.axes) changed.space adds))

pub set_room : (old mid new : List Node) (cs : List Change) (gone : List (List ℕ)) (own : of.Dataset) (taken t : Dataset) → IsDataset own → IsSetChanged old mid (changed_set cs None own) own taken → IsSetOf new (squeezed_set gone (dataset_in mid taken)) t
    → AreAlone taken.axes gone → AddsAtMost mid new (16 * length taken.vars * span t.axes) → AddsAtMost old new (room (of_set own ∷ of_set (dataset_in new t) ∷ []))
set_room old mid new cs gone own taken t formed changed left alone adds =
    let names : axis_names taken.axes ≡ axis_names own.axes = ap (λ (x : of.Dataset). axis_names x.axes) changed.is ∙ names_kept cs own.axes in
    let after : t.axes ≡ axes_left gone taken.axes = ap (λ (x : of.Dataset). x.axes) left.is in
    let count : length taken.vars ≡ length own.vars = sym (length-map taken.vars (variable_in mid)) ∙ ap (λ (x : of.Dataset). length x.vars) changed.is ∙ length-map own.vars (changed_variable cs None own.axes) in
    let n = length own.vars in
    let x = span (own.axes ++ taken.axes) in
    let y = span (own.axes ++ t.axes) in
    let z = span t.axes in
    let one = mul-le n x n y (omega arith) (taken_up own.axes taken.axes t.axes names formed.axes.distinct gone alone after) in
    let two = mul-le n z n y (omega arith) (left_up own.axes taken.axes t.axes names formed.axes.distinct gone alone after) in
    let first : 16 * n * x ≡ 16 * (n * x) = grind arith in
    let both : 32 * n * y ≡ 32 * (n * y) = grind arith in
    let second : 16 * length taken.vars * z ≡ 16 * (n * z) = ap (λ k. 16 * k * z) count ∙ grind arith in
    in_room old new (of_set own) (of_set (dataset_in new t)) (32 * n) (omega arith)
    (adds_up old new (16 * n * x + 16 * length taken.vars * z) (32 * n * y) (omega arith) (adds_both old mid new (16 * n * x) (16 * length taken.vars * z) changed.space adds))

-- The parts of what an operator makes of two arrays.
use Rattle.std.proofs.Common.{◌≡◌, ◌≤◌, ◌||◌, Bool, true, false, not, List, [], ◌∷◌, refl, sym, ap, subst, ◌∙◌}
use Rattle.std.specs.List.{AllByRecursion}
use Rattle.xr_types.specs.Names.{shape_over}
use Rattle.xr_types.specs.Points.{size}
use Rattle.xr_types.specs.declared.axis.Axis.{Axis}
use Rattle.xr_types.specs.declared.kind.DType.{DType}
use Rattle.xr_types.specs.declared.operation.OpKind.{OpKind}
use Rattle.xr_arrays.specs.declared.node.Node.{Node}
use Rattle.xr_arrays.specs.Elements.{result_kind}
use Rattle.xr_defs.specs.Carrying.{carried}
use Rattle.xr_defs.specs.declared.carrying.Carry.TheVariants.{Binary}
use Rattle.xr_defs.specs.declared.carrying.Parts.{Parts}
use Rattle.xr_values.specs.declared.data_array.DataArray.{DataArray}
use Rattle.xr_values.specs.Stands.{array_in, IsArrayIn}
use Rattle.xr_formulas.specs.declared.made.Formula.{Formula}
use Rattle.xr_formulas.specs.declared.made.Made.{Made}
use Rattle.xr_joining.specs.Coords.{carrier}
use Rattle.xr_joining.specs.Fitted.{AreJoined}
use Rattle.xr_joining.specs.TwoArrays.{pair_formula, IsPair}
use Rattle.xr_joining.proofs.CoordsAfter.{carried_is}

abbrev of_parts : List Axis → Parts → DType → Bool → Formula → Made
of_parts axes p kind masked cells = record { name = p.name; axes = axes; kind = kind; masked = masked; attrs = p.attrs; coords = p.coords; cells = cells }

pub pair_by : (nodes : List Node) (op : OpKind) (t : DType) (axes : List Axis) (a b : DataArray) → IsArrayIn nodes a → IsArrayIn nodes b → AreJoined a.axes b.axes axes
    → (some : Bool) (one two three : List Axis) (cells : Formula) (p : Parts) (kind : DType) (masked : Bool) → one ≡ axes → two ≡ axes → three ≡ axes
    → (some ≡ true → AllByRecursion (λ (x : Axis). 1 ≤ x.size) one) → (some ≡ false → size (shape_over one) ≡ 0)
    → cells ≡ pair_formula (not some) op t two a b → p ≡ carried Binary (array_in nodes (carrier three a) ∷ array_in nodes (carrier three b) ∷ []) three → kind ≡ result_kind op t → masked ≡ (a.masked || b.masked)
    → IsPair nodes op t axes a b (of_parts axes p kind masked cells)
pair_by nodes op t axes a b is js joined some one two three cells p kind masked e f g full empty by_cells by_parts by_kind by_mask =
    let parts = by_parts ∙ ap (λ xs. carried Binary (array_in nodes (carrier xs a) ∷ array_in nodes (carrier xs b) ∷ []) xs) g ∙ carried_is nodes axes a b is js joined in
    record {
      none = not some;
      is = (λ i. of_parts axes (parts i) (by_kind i) (by_mask i) ((by_cells ∙ ap (λ xs. pair_formula (not some) op t xs a b) f) i));
      empty = λ h. ap (λ xs. size (shape_over xs)) (sym e) ∙ empty (falls some h);
      full = λ h. each_in e (full (stays some h));
    }
  where
    falls : (b : Bool) → not b ≡ true → b ≡ false
    falls true h = sym h
    falls false h = refl

    stays : (b : Bool) → not b ≡ false → b ≡ true
    stays true h = refl
    stays false h = sym h

    each_in : {xs ys : List Axis} → xs ≡ ys → AllByRecursion (λ (x : Axis). 1 ≤ x.size) xs → AllByRecursion (λ (x : Axis). 1 ≤ x.size) ys
    each_in same all = subst (AllByRecursion (λ (x : Axis). 1 ≤ x.size)) same all

-- The parts of what a choice makes.
use Rattle.std.proofs.Common.{◌≡◌, ◌≤◌, ◌||◌, ◌++◌, Bool, true, false, not, List, [], ◌∷◌, map, None, refl, sym, ap, subst, ◌∙◌}
use Rattle.std.specs.Prelude.{flat_map}
use Rattle.std.specs.List.{AllByRecursion}
use Rattle.xr_types.specs.Names.{shape_over}
use Rattle.xr_types.specs.Points.{size}
use Rattle.xr_types.specs.declared.axis.Axis.{Axis}
use Rattle.xr_types.specs.declared.kind.DType.{DType}
use Rattle.xr_arrays.specs.declared.node.Node.{Node}
use Rattle.xr_defs.specs.Carrying.{attrs_among, carried, coords_among, name_among}
use Rattle.xr_defs.specs.Values as of
use Rattle.xr_defs.specs.declared.carrying.Carry.{Carry}
use Rattle.xr_defs.specs.declared.carrying.Parts.{Parts}
use Rattle.xr_operations.specs.Alignment.{fitted}
use Rattle.xr_operations.specs.CellMethods.{may_miss}
use Rattle.xr_values.specs.declared.data_array.DataArray.{DataArray}
use Rattle.xr_values.specs.Stands.{array_in}
use Rattle.xr_formulas.specs.declared.made.Formula.{Formula}
use Rattle.xr_formulas.specs.declared.made.Made.{Made}
use Rattle.xr_joining.specs.Coords.{carrier}
use Rattle.xr_joining.proofs.CoordsAfter.{coords_are}
use Rattle.xr_choosing.specs.declared.branches.Branch.{Branch}
use Rattle.xr_choosing.specs.Branches.{branch_in, carry_of, operands_of}
use Rattle.xr_choosing.specs.Choices.{choice_formula, AreFitted, IsChoice}

module _ (nodes : List Node) (axes : List Axis) where
  abbrev carriers : List DataArray → List of.DataArray
  carriers arrays = map (array_in nodes) (map (carrier axes) arrays)

  abbrev all_fitted : List DataArray → List of.DataArray
  all_fitted arrays = map (fitted axes None) (map (array_in nodes) arrays)

  names_are : (arrays : List DataArray) → map (λ (a : of.DataArray). a.name) (carriers arrays) ≡ map (λ (a : of.DataArray). a.name) (all_fitted arrays)
  unfolding fitted
  names_are [] = refl
  names_are (a ∷ arrays) = ap (λ ns. a.name ∷ ns) (names_are arrays)

  attrs_are : (arrays : List DataArray) → map (λ (a : of.DataArray). a.attrs) (carriers arrays) ≡ map (λ (a : of.DataArray). a.attrs) (all_fitted arrays)
  unfolding fitted
  attrs_are [] = refl
  attrs_are (a ∷ arrays) = ap (λ ns. a.attrs ∷ ns) (attrs_are arrays)

  each_coord : (arrays : List DataArray) → AreFitted nodes axes arrays → flat_map (λ (a : of.DataArray). a.coords) (carriers arrays) ≡ flat_map (λ (a : of.DataArray). a.coords) (all_fitted arrays)
  unfolding fitted
  each_coord [] all = refl
  each_coord (a ∷ arrays) all = (λ i. coords_are axes all.0 a.axes all.1.0.1 a.coords all.1.0.0.formed.coords i ++ each_coord arrays (all.0, all.1.1) i)

  carried_is : (how : Carry) (arrays : List DataArray) → AreFitted nodes axes arrays → carried how (carriers arrays) axes ≡ carried how (all_fitted arrays) axes
  carried_is how arrays all = (λ i. record {
    name = name_among how (names_are arrays i);
    attrs = attrs_among how (attrs_are arrays i);
    coords = coords_among axes (each_coord arrays all i);
  })

abbrev of_parts : List Axis → Parts → DType → Bool → Formula → Made
of_parts axes p kind masked cells = record { name = p.name; axes = axes; kind = kind; masked = masked; attrs = p.attrs; coords = p.coords; cells = cells }

pub choice_by : (nodes : List Node) (method : Bool) (t : DType) (axes : List Axis) (c : DataArray) (x y : Branch) (arrays : List DataArray) → arrays ≡ operands_of method c x y → AreFitted nodes axes arrays
    → (some : Bool) (one two three : List Axis) (cells : Formula) (p : Parts) (masked : Bool) → one ≡ axes → two ≡ axes → three ≡ axes
    → (some ≡ true → AllByRecursion (λ (x : Axis). 1 ≤ x.size) one) → (some ≡ false → size (shape_over one) ≡ 0)
    → cells ≡ choice_formula (not some) t two c x y → p ≡ carried (carry_of method) (map (array_in nodes) (map (carrier three) arrays)) three → masked ≡ (c.masked || (may_miss (branch_in nodes x) || may_miss (branch_in nodes y)))
    → IsChoice nodes method t axes c x y (of_parts axes p t masked cells)
choice_by nodes method t axes c x y arrays are all some one two three cells p masked e f g full empty by_cells by_parts by_mask =
    let parts : p ≡ carried (carry_of method) (map (fitted axes None) (map (array_in nodes) (operands_of method c x y))) axes =
    by_parts ∙ ap (λ xs. carried (carry_of method) (map (array_in nodes) (map (carrier xs) arrays)) xs) g ∙ carried_is nodes axes (carry_of method) arrays all
    ∙ ap (λ bs. carried (carry_of method) (map (fitted axes None) (map (array_in nodes) bs)) axes) are in
    record {
      none = not some;
      is = (λ i. of_parts axes (parts i) t (by_mask i) ((by_cells ∙ ap (λ xs. choice_formula (not some) t xs c x y) f) i));
      empty = λ h. ap (λ xs. size (shape_over xs)) (sym e) ∙ empty (falls some h);
      full = λ h. subst (AllByRecursion (λ (x : Axis). 1 ≤ x.size)) e (full (stays some h));
    }
  where
    falls : (b : Bool) → not b ≡ true → b ≡ false
    falls true h = sym h
    falls false h = refl

    stays : (b : Bool) → not b ≡ false → b ≡ true
    stays true h = refl
    stays false h = sym h

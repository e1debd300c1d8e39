-- What is made of operands, where its formula is added to a plan.
use Rattle.std.proofs.Common.{◌≡◌, ◌≤◌, ℕ, List, [], ◌∷◌, ◌++◌, Ok, Result, sym, ap, subst, ◌∙◌}
use Rattle.xr_types.specs.declared.fault.Fault.{Fault}
use Rattle.xr_arrays.specs.declared.node.Node.{Node}
use Rattle.xr_arrays.specs.Added.{AddsAtMost}
use Rattle.xr_arrays.specs.Arrays.{Array}
use Rattle.xr_defs.specs.Room.{of_array, room, Portion}
use Rattle.xr_defs.specs.Values as of
use Rattle.xr_defs.specs.WellFormed.{IsDataArray}
use Rattle.plan_core.proofs.Added.{adds_up}
use Rattle.xr_values.specs.declared.data_array.DataArray.{DataArray}
use Rattle.xr_values.specs.Stands.{array_in, IsArrayIn}
use Rattle.xr_formulas.specs.declared.made.Made.{Made}
use Rattle.xr_formulas.specs.Chains.{IsValueOf}
use Rattle.xr_formulas.specs.Mades.{formula_cells, formula_value, made_in, made_with}
use Rattle.xr_joining.specs.TwoArrays.{IsMadeOf, IsPlaced}

abbrev pub placed : Made → ℕ → DataArray
placed m n = record { name = m.name; axes = m.axes; kind = m.kind; masked = m.masked; attrs = m.attrs; coords = m.coords; node = n }

pub placed_by : (old new : List Node) (m : Made) (n : ℕ) → IsValueOf new (formula_value old m.cells) n → AddsAtMost old new (formula_cells old m.cells) → (operands : List Portion) → IsMadeOf operands old m → IsPlaced operands old new m (placed m n)
placed_by old new m n value adds operands made =
    let is : array_in new (placed m n) ≡ made_in old m = ap (λ (v : Array). made_with m v.cells) value.is in
    record {
      is = is;
      inside = record {
        node = record { placed = value.inside; has_shape = ap (λ (v : Array). v.shape) value.is ∙ made.shape; has_kind = ap (λ (v : Array). v.kind) value.is ∙ made.kind };
        formed = subst IsDataArray (sym is) made.formed;
      };
      space = adds_up old new (formula_cells old m.cells) (room (operands ++ of_array (array_in new (placed m n)) ∷ [])) (subst (λ (c : of.DataArray). formula_cells old m.cells ≤ room (operands ++ of_array c ∷ [])) (sym is) made.space) adds;
    }

pub answers_placed : (new old : List Node) (m : Made) (c : DataArray) (operands : List Portion) (told : Result of.DataArray Fault) → told ≡ Ok (made_in old m) → IsPlaced operands old new m c → (told ≡ Ok (array_in new c)) × IsArrayIn new c
answers_placed new old m c operands told is placed = (is ∙ ap Ok (sym placed.is), placed.inside)

-- Arrays that are as they have to be.
use Rattle.std.proofs.Common.{◌≡◌, ◌∙◌, ℕ, true, All, List, [], Option, ap, subst}
use Rattle.std.specs.Prelude.{MatchOption, ⊤}
use Rattle.std.specs.List.{AllByRecursion}
use Rattle.xr_files.specs.Classic.{is_name}
use Rattle.xr_types.specs.Names.{axis_names, shape_over}
use Rattle.xr_types.specs.Points.{size}
use Rattle.xr_arrays.specs.Nodes.{value, AllFit}
use Rattle.xr_arrays.specs.Arrays.{IsArray, IsCell}
use Rattle.xr_arrays.specs.declared.node.Node.{Node}
use Rattle.plan_core.proofs.Valued.{value_is_array}
use Rattle.xr_defs.specs.Selecting.{is_within}
use Rattle.xr_defs.specs.WellFormed.{names_of, AreAttributes, AreDimensions, IsCoordinate}
use Rattle.xr_values.specs.declared.data_array.DataArray.{DataArray}
use Rattle.xr_values.specs.Stands.{IsArrayIn}
use Rattle.xr_parts.proofs.Words.{join}
use Rattle.xr_forming.proofs.Formed.{coords_absent, coords_distinct, within_parts}
use Rattle.xr_forming.specs.Held.{AreNew, HoldsArray}

pub array_formed : (nodes : List Node) (a : DataArray) → AllFit [] nodes → HoldsArray nodes a → MatchOption a.name ⊤ (λ n. is_name n ≡ true) → AreDimensions a.axes → AllByRecursion (IsCoordinate a.axes) a.coords
    → AreNew a.axes a.coords → AreAttributes a.attrs → is_within (shape_over a.axes) ≡ true → IsArrayIn nodes a
array_formed nodes a fit holds named dims coords new attrs within =
    let is : IsArray (value nodes a.node) = value_is_array nodes a.node fit holds.node.placed in
    let parts = within_parts (shape_over a.axes) within in
    record {
      node = holds.node;
      formed = record {
        name = named;
        axes = dims;
        coords = coords;
        distinct = join (axis_names a.axes) (names_of a.coords) (record { first = dims.distinct; second = coords_distinct a.axes a.coords new; apart = coords_absent a.axes a.coords new });
        attrs = attrs;
        cells = record {
          whole = is.whole ∙ ap size holds.node.has_shape;
          range = subst (λ t. All (IsCell t) (value nodes a.node).cells) holds.node.has_kind is.range;
          seen = holds.seen;
          low_rank = parts.0;
          few = parts.1;
        };
      };
    }

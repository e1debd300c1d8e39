-- The checks of a method of a grouped dataset, once its fill is a cell.
use Rattle.std.specs.Prelude.{◌≡◌, ℤ, true, List, Option, is_some, option_map, Result, Ok, if◌then◌else◌}
use Rattle.std.specs.List.{AllByRecursion}
use Rattle.xr_types.specs.Results.{◌>>=◌, all_of}
use Rattle.xr_types.specs.declared.fault.Fault.{Fault}
use Rattle.xr_types.specs.declared.operation.FoldKind.{FoldKind}
use Rattle.xr_arrays.specs.declared.node.Node.{Node}
use Rattle.xr_arrays.specs.Folds.{folded_kind}
use Rattle.xr_defs.specs.Building.{element_cell}
use Rattle.xr_defs.specs.Meanings.{Value}
use Rattle.xr_defs.specs.Values as of
use Rattle.xr_defs.specs.declared.grouping.Grouping.{Grouping}
use Rattle.xr_values.specs.declared.dataset.Dataset.{Dataset}
use Rattle.xr_values.specs.Variables.{names_of}
use Rattle.xr_reducing.specs.declared.chars.Frame.{Frame}
use Rattle.xr_reducing.specs.Reduced.{IsFrameIn}
use Rattle.xr_groups.specs.declared.change.Change.{Change}
use Rattle.xr_groups.specs.Groupings.{grouped_changes}
use Rattle.xr_groups.specs.Listed.{is_grouped}
use Rattle.xr_groups.specs.Methods.{check_filled, check_given, check_points, has_method, keeps_coords, least_of}
use Rattle.xr_grouping.specs.Changes.{IsChange}
use Rattle.xr_group_sets.specs.Listing.{set_filled}

-- the cell that a literal is, for every kind that has it
abbrev pub cell_given : Option Value → Option (Option ℤ)
cell_given v = option_map element_cell v

unfoldable pub check_range_at : FoldKind → List Change → Option (Option ℤ) → of.Variable → Result (Unit {0}) Fault
check_range_at k cs fill v = if is_grouped cs v.dims then check_given (folded_kind k v.kind) fill else Ok tt

-- a method of a grouped dataset whose fill is one of the kind of each variable that is grouped
unfoldable pub filled_of : FoldKind → Grouping → List Change → Option (Option ℤ) → of.Dataset → Result of.Dataset Fault
filled_of k grouping cs fill s =
    check_filled (least_of grouping) cs (is_some fill) >>= λ x. all_of (check_range_at k cs fill) s.vars >>= λ y. all_of (check_points cs s.axes) s.vars >>= λ z.
    Ok (set_filled k (least_of grouping) (keeps_coords grouping) cs fill s)

-- how a dataset without variables of chars is grouped, by a method that the grouping has
pub record IsFrameGrouped (nodes : List Node) (k : FoldKind) (grouping : Grouping) (cs : List Change) (s : Dataset) (f : Frame) : Type 0 where
  pub frame : IsFrameIn nodes s f
  pub method : has_method grouping k ≡ true
  pub is : grouped_changes grouping f.axes s.coords (names_of f.vars) ≡ Ok cs
  pub changes : AllByRecursion (IsChange f.axes s.coords (names_of f.vars)) cs

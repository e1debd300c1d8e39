-- Axes by their names, and the times of an index as the code hands them on.
use Rattle.std.specs.Prelude.{ℕ, length, List, [], ◌∷◌, Option, Some, None, if◌then◌else◌}
use Rattle.std.specs.Str.{bytes_eq}
use Rattle.xr_types.specs.declared.axis.Axis.{Axis}
use Rattle.xr_types.specs.declared.axis.LabelList.TheVariants.{Times}
use Rattle.xr_times.specs.declared.bin_list.BinList.{BinList}
use Rattle.xr_groups.specs.declared.change.Change.{Change}
use Rattle.xr_groups.specs.Groups.{bin_lists}
use Rattle.xr_groups.specs.Groupings as of
use Rattle.xr_grouping.specs.declared.axes.TimeIndex.{TimeIndex}

abbrev pub found_axis : List ℕ → List Axis → Option Axis
found_axis name [] = None
found_axis name (x ∷ xs) = if bytes_eq x.name name then Some x else found_axis name xs

abbrev pub index_of : TimeIndex → of.TimeIndex
index_of t = record { coding = t.coding.now; times = t.times.now; attrs = t.attrs.now }

-- the bins of a dimension's times
abbrev pub bins_made : List ℕ → of.TimeIndex → BinList → Change
bins_made d t b =
    record { dimension = d; lists = bin_lists (length b.starts) b.bin; axis = of.labelled_axis d (Times t.coding b.starts) (length b.starts) t.attrs }

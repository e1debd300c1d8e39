-- How an index finds positions.
use Rattle.std.specs.Prelude.{◌≡◌}
use Rattle.xr_types.specs.declared.axis.LabelList.{LabelList}
use Rattle.xr_arrays.specs.Labels.{labels_of, direction_of}
use Rattle.xr_arrays.specs.declared.search.Direction.TheVariants.{Neither}
use Rattle.label_index.specs.declared.place.Places.{Places}
use Rattle.label_index.specs.declared.place.Places.TheVariants.{Ranked, Hashed}
use Rattle.label_index.specs.Ranks.{IsRanked}
use Rattle.label_index.specs.Slots.{IsHashed}

abbrev pub IsPlaced : LabelList → Places → Type 0
IsPlaced list (Ranked ranks) = IsRanked (labels_of list) ranks
IsPlaced list (Hashed slots) = IsHashed list slots.items × (direction_of (labels_of list) ≡ Neither)

-- The labels of the axis of a name.
use Rattle.std.specs.Prelude.{ℕ, List, [], ◌∷◌, Option, None, option_map, if◌then◌else◌}
use Rattle.std.specs.Str.{bytes_eq}
use Rattle.xr_types.specs.declared.axis.Axis.{Axis}
use Rattle.xr_types.specs.declared.axis.Labels.{Labels}
use Rattle.xr_types.specs.declared.axis.LabelList.{LabelList}

abbrev pub list_called : List ℕ → List Axis → Option LabelList
list_called name [] = None
list_called name (x ∷ xs) = if bytes_eq x.name name then option_map (λ (l : Labels). l.list) x.labels else list_called name xs

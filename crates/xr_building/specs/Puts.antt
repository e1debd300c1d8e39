-- What entries come to, and frames with it: labels of an axis, or a coordinate in the place of the one of its name, or behind.
use Rattle.std.specs.Prelude.{ℕ, ℤ, Bool, true, false, List, [], ◌∷◌, map, Option, Some, None, Result, Ok, if◌then◌else◌}
use Rattle.std.specs.Option.{option_or}
use Rattle.std.specs.Str.{bytes_eq}
use Rattle.std.specs.List.{list_all, position}
use Rattle.xr_types.specs.declared.axis.Axis.{Axis}
use Rattle.xr_types.specs.declared.axis.Labels.{Labels}
use Rattle.xr_types.specs.declared.axis.LabelList.TheVariants as lists
use Rattle.xr_types.specs.declared.kind.DType.TheVariants as kinds
use Rattle.xr_defs.specs.declared.value.Content.TheVariants as contents
use Rattle.xr_defs.specs.declared.value.Coord.{Coord}
use Rattle.xr_types.specs.declared.fault.Fault.{Fault}
use Rattle.xr_types.specs.declared.fault.Fault.TheVariants.{DoesNotFit}
use Rattle.xr_types.specs.Kinds.{in_range}
use Rattle.xr_types.specs.Results.{◌>>=◌, unless}
use Rattle.xr_defs.specs.Meanings.{Value, Number, Sequence}
use Rattle.xr_defs.specs.Selecting.{axis_called}
use Rattle.xr_defs.specs.Building.{Frame, frame_labelled, numbers_in, with_coord}
use Rattle.xr_building.specs.declared.draft.Draft.{Draft}
use Rattle.xr_building.specs.declared.puts.NewLabels.{NewLabels}
use Rattle.xr_building.specs.declared.puts.NewLabels.TheVariants as new
use Rattle.xr_building.specs.declared.puts.Put.{Put}
use Rattle.xr_building.specs.declared.puts.Put.TheVariants as puts

abbrev pub labels_of : NewLabels → Labels
labels_of (new.Numbers ns) = record { list = lists.Numbers kinds.Int64 ns; attrs = [] }
labels_of (new.Labels l) = l

abbrev pub texts_put : Result (List (List ℕ)) Fault → Result Labels Fault
texts_put r = r >>= λ ts. Ok (record { list = lists.Texts ts; attrs = [] })

abbrev pub number_coord : List ℕ → ℤ → Coord
number_coord name n = record { name = name; axes = []; attrs = []; content = contents.Cells (record { kind = kinds.Int64; shape = []; cells = Some n ∷ [] }) false }

-- over the axes of its dimensions
abbrev pub over_called : List Axis → Coord → Coord
over_called axes c = record c { axes = map (λ (x : Axis). axis_called axes x.name) c.axes }

-- where the first coordinate of a name stands
unfoldable pub coord_place : List Coord → List ℕ → Option ℕ
coord_place coords name = position (λ (c : Coord). bytes_eq c.name name) coords

abbrev pub put_on : Frame → Put → Frame
put_on f (puts.Labels name l) = frame_labelled f name (labels_of l)
put_on f (puts.Number name n) = record f { coords = with_coord f.coords (number_coord name n) }
put_on f (puts.Coord c) = record f { coords = with_coord f.coords (over_called f.axes c) }

abbrev pub after : Frame → List Put → Frame
after f [] = f
after f (p ∷ ps) = after (put_on f p) ps

abbrev pub over : List Axis → List Coord → Frame
over axes coords = record { axes = axes; coords = coords }

abbrev pub frame_of : Draft → Frame
frame_of d = over d.axes d.coords

-- ---- the labels that an axis has then

abbrev pub labels_at : List ℕ → Put → Option NewLabels
labels_at name (puts.Labels own l) = if bytes_eq name own then Some l else None
labels_at name (puts.Number own n) = None
labels_at name (puts.Coord c) = None

-- those of the last put on this axis, or these
abbrev pub last_labels : List ℕ → Option NewLabels → List Put → Option NewLabels
last_labels name o [] = o
last_labels name o (p ∷ ps) = last_labels name (option_or (labels_at name p) o) ps

abbrev pub labels_or : Option NewLabels → Option Labels → Option Labels
labels_or None own = own
labels_or (Some l) own = Some (labels_of l)

-- ---- numbers that 64 bits hold

abbrev pub labels_fit : NewLabels → Bool
labels_fit (new.Numbers ns) = list_all (in_range kinds.Int64) ns
labels_fit (new.Labels l) = true

abbrev pub put_fits : Put → Bool
put_fits (puts.Labels name l) = labels_fit l
put_fits (puts.Number name n) = in_range kinds.Int64 n
put_fits (puts.Coord c) = true

abbrev pub check_put : Put → Result (Unit {0}) Fault
check_put p = unless (put_fits p) DoesNotFit

abbrev pub fits_whole : Value → Bool
fits_whole (Number n) = in_range kinds.Int64 n
fits_whole (Sequence vs) = list_all (in_range kinds.Int64) (numbers_in vs)
fits_whole v = true

-- What printing needs of times: they are in the years that have a text.
use Rattle.std.specs.Prelude.{MatchOption, All, ⊤}
use Rattle.xr_types.specs.declared.axis.Axis.{Axis}
use Rattle.xr_types.specs.declared.axis.Labels.{Labels}
use Rattle.xr_types.specs.declared.axis.LabelList.{LabelList}
use Rattle.xr_types.specs.declared.axis.LabelList.TheVariants.{Numbers, Times, Texts}
use Rattle.xr_times.specs.Times.{IsTime}
use Rattle.xr_defs.specs.declared.value.Content.{Content}
use Rattle.xr_defs.specs.declared.value.Content.TheVariants as contents
use Rattle.xr_defs.specs.declared.value.Coord.{Coord}

abbrev pub AreTimes : LabelList → Type 0
AreTimes (Numbers kind ns) = ⊤
AreTimes (Times coding ts) = All (IsTime coding.units.calendar) ts
AreTimes (Texts ts) = ⊤

-- the time labels of an axis are times
abbrev pub HasTimes : Axis → Type 0
HasTimes x = MatchOption x.labels ⊤ (λ (l : Labels). AreTimes l.list)

abbrev pub IsTimeContent : Content → Type 0
IsTimeContent (contents.Cells a masked) = ⊤
IsTimeContent (contents.Text text) = ⊤
IsTimeContent (contents.Time coding t) = IsTime coding.units.calendar t

-- a scalar time is a time
abbrev pub HoldsTime : Coord → Type 0
HoldsTime c = IsTimeContent c.content

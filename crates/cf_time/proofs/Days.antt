-- The field of a time is that of its day.
use Rattle.std.proofs.Common.{◌≡◌, ℕ, ℤ, pos, ◌/◌, true, refl, ◌∙◌, ap}
use Rattle.xr_types.specs.declared.axis.Calendar.{Calendar}
use Rattle.xr_times.specs.Times.{seconds_since, day_since, field_of}
use Rattle.xr_times.specs.declared.time.Field.{Field}
use Rattle.xr_times.specs.declared.time.Field.TheVariants.{Year, Month, Day, Hour, Minute, Second, DayOfYear, DayOfWeek}
use Rattle.cf_time.specs.Fields.{is_of_day, day_field}

day_is : (c : Calendar) (t : ℤ) (f : Field) → is_of_day f ≡ true → day_field c (day_since c t) f ≡ field_of c t f
day_is c t Year h = refl
day_is c t Month h = refl
day_is c t Day h = refl
day_is c t DayOfYear h = refl
day_is c t Hour h = absurd (cc)
day_is c t Minute h = absurd (cc)
day_is c t Second h = absurd (cc)
day_is c t DayOfWeek h = absurd (cc)

pub same_day : (c : Calendar) (t v : ℤ) (n s : ℕ) (f : Field) → v ≡ pos (day_field c n f) → n ≡ s / 86400 → s ≡ seconds_since c t → is_of_day f ≡ true → v ≡ pos (field_of c t f)
same_day c t v n s f value day since of = value ∙ ap (λ m. pos (day_field c m f)) (day ∙ ap (λ z. z / 86400) since) ∙ ap pos (day_is c t f of)

-- Keys of groups.
use Rattle.std.proofs.Common.{◌≡◌, ℤ, pos, List, [], ◌∷◌, map, Option, Some, refl, ap, ◌∙◌}
use Rattle.xr_types.specs.declared.axis.Calendar.{Calendar}
use Rattle.xr_times.specs.declared.time.Field.{Field}
use Rattle.xr_times.specs.Times.{field_of}
use Rattle.xr_groups.specs.Groups.{each_key, field_keys}

map_twice : {X Y Z : Type 0} (f : X → Y) (g : Y → Z) (xs : List X) → map g (map f xs) ≡ map (λ x. g (f x)) xs
map_twice f g [] = refl
map_twice f g (x ∷ xs) = ap (λ ys. g (f x) ∷ ys) (map_twice f g xs)

pub field_keys_are : (calendar : Calendar) (field : Field) (ts : List ℤ) (numbers : List ℤ) (keys : List (Option ℤ)) → numbers ≡ map (λ t. pos (field_of calendar t field)) ts → keys ≡ each_key numbers → keys ≡ field_keys calendar field ts
field_keys_are calendar field ts numbers keys en ek = ek ∙ ap each_key en ∙ map_twice (λ t. pos (field_of calendar t field)) Some ts

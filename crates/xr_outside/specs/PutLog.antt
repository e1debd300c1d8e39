-- A log of puts: their bytes one after the other, each name before what was put under it
use Rattle.std.specs.Prelude.{◌+◌, ◌-◌, ◌*◌, ◌==◌, ◌&&◌, ℕ, Bool, false, List, [], ◌∷◌, length, take, drop, None, Some, if◌then◌else◌}
use Rattle.std.specs.Str.{bytes_eq}
use Rattle.xr_outside.specs.Stores.{Files}
use Rattle.xr_outside.specs.declared.put_log.PutSizes.{PutSizes}

abbrev pub sizes_of : List ℕ → List ℕ → PutSizes
sizes_of name bytes = record { name = length name; bytes = length bytes }

-- the last n items, and the ones before them
abbrev pub last : ℕ → List ℕ → List ℕ
last n xs = drop (length xs - n) xs

abbrev pub before_last : ℕ → List ℕ → List ℕ
before_last n xs = take (length xs - n) xs

-- what the newest put of a name put, by the sizes of the puts, the newest first
unfoldable pub found_in : List ℕ → List PutSizes → Files
found_in pool [] name = None
found_in pool (p ∷ ps) name =
    if bytes_eq name (last p.name (before_last p.bytes pool)) then Some (last p.bytes pool) else found_in (before_last p.name (before_last p.bytes pool)) ps name

-- the newest put has neither a name nor bytes
abbrev pub ends_bare : List PutSizes → Bool
ends_bare [] = false
ends_bare (p ∷ ps) = (p.name == 0) && (p.bytes == 0)

-- the most puts that are yet to be logged in so many bytes of room: one put without a name and bytes, and with each
-- byte two
abbrev pub puts_ahead : List PutSizes → ℕ → ℕ
puts_ahead puts room = 2 * room + (if ends_bare puts then 0 else 1)

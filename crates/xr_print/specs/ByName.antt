-- An order of coordinates by their names, as places among them.
use Rattle.std.specs.Prelude.{◌≡◌, ◌<◌, ℕ, List, [], length, map, get_or, All}
use Rattle.xr_defs.specs.declared.value.Content.TheVariants as contents
use Rattle.xr_defs.specs.declared.value.Coord.{Coord}
use Rattle.xr_defs.specs.Printing.{by_name}

abbrev pub no_coord : Coord
no_coord = record { name = []; axes = []; attrs = []; content = contents.Text [] }

abbrev pub coord_at : List Coord → ℕ → Coord
coord_at coords i = get_or coords i no_coord

pub record IsByName (coords : List Coord) (order : List ℕ) : Type 0 where
  pub inside : All (λ p. p < length coords) order
  pub sorted : map (coord_at coords) order ≡ by_name coords

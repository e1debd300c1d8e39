-- Values of several variables as they are gathered, some records at a time.
use Rattle.std.specs.Prelude.{◌≡◌, ◌==◌, ℕ, List, min, if◌then◌else◌}
use Rattle.xr_arrays.specs.Pieces.{pieces}
use Rattle.cdf_reader.specs.declared.strips.Strip.{Strip}
use Rattle.cdf_reader.specs.declared.gather.Column.{Column}

-- how many pieces are gathered: none where there is a single one, which is shared
abbrev pub apart : Strip → ℕ
apart s = if s.count == 1 then 0 else s.count

abbrev pub strip_of : Column → Strip
strip_of c = c.strip

-- a column has the pieces of so many records
pub record Holds (bytes : List ℕ) (step r : ℕ) (c : Column) : Type 0 where
  pub held : c.raw.items ≡ pieces bytes c.strip.begin step c.strip.size (min r (apart c.strip))

-- a column has all the pieces that are gathered of its strip
pub record IsFull (bytes : List ℕ) (step : ℕ) (c : Column) : Type 0 where
  pub full : c.raw.items ≡ pieces bytes c.strip.begin step c.strip.size (apart c.strip)

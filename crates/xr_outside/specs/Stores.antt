-- What a store of files holds.
use Rattle.std.specs.Prelude.{ℕ, List, Option, Some, if◌then◌else◌}
use Rattle.std.specs.Str.{bytes_eq}

-- the bytes of each name that is held
abbrev pub Files : Type 0
Files = List ℕ → Option (List ℕ)

-- the files with one put to them
abbrev pub put : Files → List ℕ → List ℕ → Files
put files name bytes other = if bytes_eq other name then Some bytes else files other

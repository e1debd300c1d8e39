-- What a store of files holds.
use Rattle.std.specs.Prelude.{ℕ, List, Option}

-- the bytes of each name that is held
abbrev pub Files : Type 0
Files = List ℕ → Option (List ℕ)

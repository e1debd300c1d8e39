-- Texts as lists of bytes.
use Rattle.std.specs.Prelude.{ℕ, List, ◌<◌, All}
use Rattle.std.specs.List.{AllByRecursion}

abbrev pub AreBytes : List (List ℕ) → Type 0
AreBytes texts = AllByRecursion (All (λ b. b < 256)) texts

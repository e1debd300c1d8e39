-- Numbers put behind others, each once.
use Rattle.std.specs.Prelude.{◌==◌, ℕ, List, [], ◌∷◌, ◌++◌, fold, if◌then◌else◌}
use Rattle.std.specs.List.{list_any}

abbrev pub once_more : List ℕ → ℕ → List ℕ
once_more ns n = if list_any (λ m. m == n) ns then ns else ns ++ n ∷ []

abbrev pub each_once_more : List ℕ → List ℕ → List ℕ
each_once_more ns more = fold once_more ns more

-- Names in lists.
use Rattle.std.specs.Prelude.{ℕ, Bool, true, not, ◌&&◌, List, [], ◌∷◌, map}
use Rattle.std.specs.Str.{bytes_eq}
use Rattle.std.specs.List.{list_any}
use Rattle.xr_types.specs.declared.axis.Axis.{Axis}

abbrev pub among : List (List ℕ) → List ℕ → Bool
among names text = list_any (bytes_eq text) names

-- no name stands twice
abbrev pub are_distinct : List (List ℕ) → Bool
are_distinct [] = true
are_distinct (n ∷ ns) = not (among ns n) && are_distinct ns

abbrev pub axis_names : List Axis → List (List ℕ)
axis_names axes = map (λ (x : Axis). x.name) axes

abbrev pub shape_over : List Axis → List ℕ
shape_over axes = map (λ (x : Axis). x.size) axes

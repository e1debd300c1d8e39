-- A fill along dimensions whose lists of positions may have too few.
use Rattle.std.specs.Prelude.{◌+◌, ◌++◌, ℕ, ℤ, Bool, false, List, [], ◌∷◌, length, Option, Some, None, nat_lt, if◌then◌else◌}
use Rattle.std.specs.List.{list_any, position_or_len}
use Rattle.std.specs.Str.{bytes_eq}
use Rattle.xr_formulas.specs.declared.chain.Step.{Step}
use Rattle.xr_formulas.specs.declared.chain.Step.TheVariants as step
use Rattle.xr_groups.specs.declared.change.Change.{Change}

-- whether a list has fewer positions than so many
abbrev pub is_short : ℕ → List ℕ → Bool
is_short m ps = nat_lt (length ps) m

-- whether a list has more positions than so many
abbrev pub is_long : ℕ → List ℕ → Bool
is_long m ps = nat_lt m (length ps)

-- whether some list of a dimension has more
abbrev pub has_long : ℕ → Change → Bool
has_long m c = list_any (λ ps. is_long m ps) c.lists

-- the position itself, unless its list is short
abbrev pub shown : ℕ → List ℕ → ℕ → Option ℕ
shown m ps j = if is_short m ps then None else Some j

-- the positions of lists, from this one on
abbrev pub gaps : ℕ → ℕ → List (List ℕ) → List (Option ℕ)
gaps m j [] = []
gaps m j (ps ∷ lists) = shown m ps j ∷ gaps m (j + 1) lists

-- in the place of empty lists
abbrev pub filling : List Change → List (List ℕ) → Option ℤ → List Step
filling [] dims fill = []
filling (c ∷ cs) dims fill = step.Take (position_or_len (bytes_eq c.dimension) dims) (gaps 1 0 c.lists) fill false ∷ filling cs dims fill

-- in the place of short lists, where there are some
abbrev pub gap_filling : ℕ → ℕ → List (List ℕ) → Option ℤ → List Step
gap_filling m axis lists fill = if list_any (λ ps. is_short m ps) lists then step.Take axis (gaps m 0 lists) fill false ∷ [] else []

abbrev pub short_filling : ℕ → List Change → List (List ℕ) → Option ℤ → List Step
short_filling m [] dims fill = []
short_filling m (c ∷ cs) dims fill = gap_filling m (position_or_len (bytes_eq c.dimension) dims) c.lists fill ++ short_filling m cs dims fill

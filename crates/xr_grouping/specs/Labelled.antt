-- The labels at positions.
use Rattle.std.specs.Prelude.{ℕ, ℤ, pos, List, map, get_or, if◌then◌else◌}
use Rattle.xr_types.specs.declared.operation.FoldKind.{FoldKind}
use Rattle.xr_groups.specs.Blocks.{is_max, lower_text, upper_text}

abbrev pub numbers_in : List ℤ → List ℕ → List ℤ
numbers_in ns ps = map (λ i. get_or ns i (pos 0)) ps

-- the text that a block keeps
abbrev pub choice_of : FoldKind → List ℕ → List ℕ → List ℕ
choice_of k = if is_max k then upper_text else lower_text

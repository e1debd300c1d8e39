-- The names of datasets, and the positions of those that have the same.
use Rattle.std.specs.Prelude.{◌+◌, ℕ, List, [], ◌∷◌, Vec, fold, map, if◌then◌else◌}
use Rattle.std.specs.Borrow.{Bor}
use Rattle.std.specs.BTreeSet.{insert_key}
use Rattle.std.specs.Cmp.Lexicographic.{slice_cmp}
use Rattle.std.specs.declared.alloc.Global.{Global}
use Rattle.std.specs.Ordering.{is_eq, nat_cmp}
use Rattle.xr_values.specs.declared.dataset.Dataset.{Dataset}
use Rattle.xr_values.specs.Variables.{names_of}
use Rattle.xr_combination.specs.Combine.{names_cmp}

abbrev pub texts : List (Bor (List ℕ)) → List (List ℕ)
texts names = map (λ (n : Bor (List ℕ)). n.now) names

abbrev pub texts_of : Vec (Bor (List ℕ)) Global → List (List ℕ)
texts_of names = texts names.items

-- ascending by bytes
abbrev pub held_names : Dataset → List (List ℕ)
held_names s = fold (insert_key (slice_cmp nat_cmp)) [] (names_of s.vars)

-- where these names stand in a list, of which the first is at this position
abbrev pub positions_of : List (List ℕ) → List (List (List ℕ)) → ℕ → List ℕ
positions_of names [] at = []
positions_of names (ns ∷ rest) at = if is_eq (names_cmp names ns) then at ∷ positions_of names rest (at + 1) else positions_of names rest (at + 1)

-- Names as a map keeps them.
use Rattle.std.specs.Prelude.{◌≡◌, ℕ, List, is_some}
use denote.Ref.{Bor}
use Rattle.std.specs.BTreeMap.{BTreeMap, get_by}
use Rattle.std.specs.Cmp.Lexicographic.{slice_cmp}
use Rattle.std.specs.Ordering.{nat_cmp}
use Rattle.xr_types.specs.Names.{among}

-- the map has these names and no others
abbrev pub Lists : BTreeMap (Bor (List ℕ)) (Unit {0}) → List (List ℕ) → Type 0
Lists map names = (text : List ℕ) → is_some (get_by (λ k. slice_cmp nat_cmp text k.now) map) ≡ among names text

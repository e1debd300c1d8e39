-- The first label of a list without labels.
use Rattle.std.proofs.Common.{◌≡◌, List, [], ◌∷◌, length, pos, refl, arith}
use Rattle.xr_types.specs.declared.axis.Label.{Label}
use Rattle.xr_types.specs.declared.axis.Label.TheVariants.{Int}
use Rattle.xr_types.specs.declared.axis.LabelList.{LabelList}
use Rattle.xr_arrays.specs.Labels.{label_at, labels_of}
use Rattle.xr_combination.specs.Combine.{first_label}

none_at : (xs : List Label) → length xs ≡ 0 → label_at xs 0 ≡ Int (pos 0)
none_at [] none = refl
none_at (x ∷ xs) none = absurd (omega arith)

pub none_first : (l : LabelList) → length (labels_of l) ≡ 0 → first_label l ≡ Int (pos 0)
none_first l none = none_at (labels_of l) none

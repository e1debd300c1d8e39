-- The first variable of several, in the place of all.
use Rattle.std.proofs.Common.{◌≡◌, ◌∙◌, ◌≤◌, ℕ, List, [], ◌∷◌, length, get_or, map, Bor, Ok, refl, ap, subst}
use Rattle.xr_types.specs.declared.axis.Axis.{Axis}
use Rattle.xr_arrays.specs.declared.node.Node.{Node}
use Rattle.xr_combination.specs.Merge.{merged_or_own, merged_pieces}
use Rattle.xr_combination.specs.declared.compat.Compat.{Compat}
use Rattle.xr_combination.specs.declared.compat.Compat.TheVariants.{Override}
use Rattle.xr_forming.specs.Held.{IsHeld}
use Rattle.xr_merging.specs.Members.{piece_in}
use Rattle.xr_joint.proofs.Firsts.{whole}
use Rattle.xr_joint.specs.Joint.{AllHeld}
use Rattle.xr_merge.specs.Merged.{overriding, piece_called}
use Rattle.xr_values.specs.declared.variable.Variable.{Variable}

abbrev pub those : List (Bor Variable) → List Variable
those vars = map (λ (v : Bor Variable). v.now) vars

pub first_held : (nodes : List Node) (axes : List Axis) (vars : List (Bor Variable)) (first : Bor Variable) → 1 ≤ length vars → first ≡ get_or vars 0 first → AllHeld nodes axes (those vars) → IsHeld nodes axes first.now
first_held nodes axes vars first some is held = (subst (AllHeld nodes axes) (ap those (whole vars first some is)) held).0

pub several_told : (nodes : List Node) (compat : Compat) (name : List ℕ) (vars : List (Bor Variable)) → compat ≡ Override → (length vars ≡ 1 → ⊥)
    → piece_called name (merged_or_own compat (map (piece_in nodes) (those vars))) ≡ Ok (overriding name (map (piece_in nodes) (those vars)))
unfolding merged_or_own merged_pieces
several_told nodes compat name vars is isnt = ap (λ k. piece_called name (merged_or_own k (map (piece_in nodes) (those vars)))) is ∙ by vars isnt
  where
    by : (bs : List (Bor Variable)) → (length bs ≡ 1 → ⊥) → piece_called name (merged_or_own Override (map (piece_in nodes) (those bs))) ≡ Ok (overriding name (map (piece_in nodes) (those bs)))
    by [] isnt = refl
    by (b ∷ []) isnt = absurd (isnt refl)
    by (b ∷ d ∷ bs) isnt = refl

-- Axes whose labels can be looked up.
use Rattle.std.proofs.Common.{◌≡◌, Bor, List, [], ◌∷◌, map, sym, subst}
use Rattle.std.specs.List.{All, AllByRecursion}
use Rattle.std.proofs.lemmas.List.Elements.{All-cons, All-nil}
use Rattle.xr_types.specs.declared.axis.Axis.{Axis}
use Rattle.align_join.specs.Joined.{HasFew}
use Rattle.xr_values.specs.declared.data_array.DataArray.{DataArray}

pub few_lists : (vs : List (Bor (List Axis))) (arrays : List DataArray) → map (λ (v : Bor (List Axis)). v.now) vs ≡ map (λ (a : DataArray). a.axes) arrays → AllByRecursion (λ (a : DataArray). All HasFew a.axes) arrays
    → All (λ (v : Bor (List Axis)). All HasFew v.now) vs
few_lists [] arrays is all = All-nil (λ (v : Bor (List Axis)). All HasFew v.now)
few_lists (v ∷ vs) [] is all = absurd cc
few_lists (v ∷ vs) (a ∷ arrays) is all =
    let here : v.now ≡ a.axes = cc in
    let rest : map (λ (v : Bor (List Axis)). v.now) vs ≡ map (λ (a : DataArray). a.axes) arrays = cc in
    All-cons (λ (v : Bor (List Axis)). All HasFew v.now) v vs (subst (All HasFew) (sym here) all.0) (few_lists vs arrays rest all.1)

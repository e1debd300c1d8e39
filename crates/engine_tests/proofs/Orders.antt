-- Two axes that change places.
use Rattle.std.proofs.Common.{◌≡◌, ◌<◌, ℕ, zero, suc, List, [], ◌∷◌, length, eqb, refl, sym, subst, ap, ◌∙◌, arith}
use Rattle.std.specs.Prelude.{true}
use Rattle.std.specs.List.{list_any}
use Rattle.xr_arrays.specs.Nodes.{IsOrder}

each : (k : ℕ) → k < 2 → list_any (λ o. eqb o k) (1 ∷ 0 ∷ []) ≡ true
each zero lt = refl
each (suc zero) lt = refl
each (suc (suc k)) lt = absurd (omega arith)

pub two_exchanged : (s order : List ℕ) (n m : ℕ) → s ≡ n ∷ m ∷ [] → order ≡ 1 ∷ 0 ∷ [] → IsOrder (length s) order
two_exchanged s order n m e is = subst (λ l. IsOrder l order) (sym (ap length e)) (subst (IsOrder 2) (sym is) (refl, each))

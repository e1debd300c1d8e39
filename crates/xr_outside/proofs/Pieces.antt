-- Pieces of a list, one after the other.
use Rattle.std.proofs.Common.{◌≡◌, ℕ, ◌+◌, List, ◌++◌, take, drop, sym, ap, ◌∙◌, append_assoc}
use Rattle.std.proofs.Math.Seq.{take-add}

-- a front, and a front of what is left
pub joined : (a b c bytes rest : List ℕ) (at n : ℕ) → b ≡ a ++ take at bytes → rest ≡ drop at bytes → c ≡ b ++ take n rest → c ≡ a ++ take (at + n) bytes
joined a b c bytes rest at n p q r =
    r ∙ ap (λ (w : List ℕ). b ++ take n w) q ∙ ap (λ (w : List ℕ). w ++ take n (drop at bytes)) p ∙ append_assoc a (take at bytes) (take n (drop at bytes)) ∙ ap (λ (w : List ℕ). a ++ w) (sym (take-add at n bytes))

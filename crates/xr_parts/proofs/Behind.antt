-- Lists that are read one item after the other, up to the first fault.
use Rattle.xr_parts.proofs.Common.{Err, Fault, List, Ok, Result, [], ap, append_assoc, behind, refl, sym, ◌++◌, ◌>>=◌, ◌∷◌, ◌≡◌}

pub behind_both : {A : Type 0} (out : List A) (p : A) (r : Result (List A) Fault) → behind out (r >>= λ ps. Ok (p ∷ ps)) ≡ behind (out ++ p ∷ []) r
behind_both out p (Ok ps) = ap Ok (sym (append_assoc out (p ∷ []) ps))
behind_both out p (Err e) = refl

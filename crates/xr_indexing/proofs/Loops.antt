-- Loops that stop at the first fault.
use Rattle.std.proofs.Common.{◌≡◌, List, [], ◌∷◌, ◌++◌, Result, Ok, Err, refl, sym, ap, append_assoc}
use Rattle.std.proofs.lemmas.List.{append-nil}
use Rattle.xr_types.specs.declared.fault.Fault.{Fault}
use Rattle.xr_types.specs.Results.{◌>>=◌}
use Rattle.xr_indexing.specs.Choices.{behind}

pub behind_both : {A : Type 0} (out : List A) (p : A) (r : Result (List A) Fault) → behind out (r >>= λ ps. Ok (p ∷ ps)) ≡ behind (out ++ p ∷ []) r
behind_both out p (Ok ps) = ap Ok (sym (append_assoc out (p ∷ []) ps))
behind_both out p (Err e) = refl

pub behind_none : {A : Type 0} (r : Result (List A) Fault) → behind [] r ≡ r
behind_none (Ok ps) = refl
behind_none (Err e) = refl

pub behind_nothing : {A : Type 0} (out : List A) → behind out (Ok []) ≡ Ok out
behind_nothing out = ap Ok (append-nil out)

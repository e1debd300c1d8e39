-- Lists that are read one after the other.
use Rattle.std.proofs.Common.{◌≡◌, List, [], ◌∷◌, ◌++◌, Result, Ok, Err, refl, sym, ap, append_assoc}
use Rattle.std.proofs.lemmas.List.{append-nil}
use Rattle.xr_types.specs.declared.fault.Fault.{Fault}
use Rattle.xr_types.specs.Results.{◌>>=◌}
use Rattle.xr_chunking.specs.Sizes.{behind}

pub behind_both : {A : Type 0} (out : List A) (x : A) (r : Result (List A) Fault) → behind out (r >>= λ xs. Ok (x ∷ xs)) ≡ behind (out ++ x ∷ []) r
behind_both out x (Ok xs) = ap Ok (sym (append_assoc out (x ∷ []) xs))
behind_both out x (Err e) = refl

pub behind_none : {A : Type 0} (r : Result (List A) Fault) → behind [] r ≡ r
behind_none (Ok xs) = refl
behind_none (Err e) = refl

pub behind_nothing : {A : Type 0} (out : List A) → behind out (Ok []) ≡ Ok out
behind_nothing out = ap Ok (append-nil out)

-- Lists that are read one after the other.
use Rattle.xr_moving.proofs.Common.{Bool, Err, Fault, Ok, Result, Value, [], ap, cond, false, named, refl, sym, true, ℕ, ◌&&◌, ◌++◌, ◌>>=◌, ◌∷◌, ◌≡◌}
use Rattle.std.proofs.Common.{not, List, append_assoc}
use Rattle.std.proofs.lemmas.List.{append-nil}
use Rattle.xr_operations.specs.Moves.{is_fill}
use Rattle.xr_moving.specs.Steps.{behind}

pub behind_both : {A : Type 0} (out : List A) (x : A) (r : Result (List A) Fault) → behind out (r >>= λ xs. Ok (x ∷ xs)) ≡ behind (out ++ x ∷ []) r
behind_both out x (Ok xs) = ap Ok (sym (append_assoc out (x ∷ []) xs))
behind_both out x (Err e) = refl

pub behind_none : {A : Type 0} (r : Result (List A) Fault) → behind [] r ≡ r
behind_none (Ok xs) = refl
behind_none (Err e) = refl

pub behind_nothing : {A : Type 0} (out : List A) → behind out (Ok []) ≡ Ok out
behind_nothing out = ap Ok (append-nil out)

-- ---- checks that both pass

pub both_ok : (r s : Result (Unit {0}) Fault) → (r >>= λ u. s) ≡ Ok tt → (r ≡ Ok tt) × (s ≡ Ok tt)
both_ok (Ok u) s e = (refl, e)
both_ok (Err f) s e = absurd cc

-- ---- arguments that name dimensions

pub named_none : (filled : Bool) → named filled [] ≡ []
named_none true = refl
named_none false = refl

pub named_next : (filled : Bool) (kv : List ℕ × Value) (kvs : List (List ℕ × Value)) → named filled (kv ∷ kvs) ≡ cond (filled && is_fill kv) (named filled kvs) (kv ∷ named filled kvs)
named_next true kv kvs = by (is_fill kv)
  where
    by : (b : Bool) → cond (not b) (kv ∷ named true kvs) (named true kvs) ≡ cond b (named true kvs) (kv ∷ named true kvs)
    by true = refl
    by false = refl
named_next false kv kvs = refl

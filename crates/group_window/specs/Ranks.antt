-- Distinct keys, and the place of each key among them.
use Rattle.std.specs.Prelude.{ℕ, List, map, length, Option, None, Some}
use Rattle.std.specs.List.{position_or_len}
use Rattle.std.specs.declared.cmp.Ordering.{Ordering}
use Rattle.std.specs.Ordering.{is_eq}

-- behind all where it is missing
abbrev pub rank : {K : Type 0} → (K → K → Ordering) → List K → Option K → ℕ
rank cmp ks None = length ks
rank cmp ks (Some k) = position_or_len (λ x. is_eq (cmp x k)) ks

abbrev pub ranks : {K : Type 0} → (K → K → Ordering) → List K → List (Option K) → List ℕ
ranks cmp ks keys = map (rank cmp ks) keys

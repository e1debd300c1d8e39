-- How many bytes of a mask are 0.
use Rattle.std.proofs.Common.{◌≡◌, ◌==◌, ◌≤◌, ◌+◌, ℕ, zero, suc, Bool, true, false, if◌then◌else◌, List, [], ◌∷◌, length, take, drop, arith}
use Rattle.fold_kernel.specs.Rows.{zeros}

one_or_none : (b : Bool) → (if b then 1 else 0) ≤ 1
one_or_none true = omega arith
one_or_none false = omega arith

pub zeros_within : (bytes : List ℕ) → zeros bytes ≤ length bytes
zeros_within [] = omega arith
zeros_within (b ∷ bytes) = let one = one_or_none (b == 0) in let rest = zeros_within bytes in omega arith

pub zeros_parts : (n : ℕ) (bytes : List ℕ) → zeros (take n bytes) + zeros (drop n bytes) ≡ zeros bytes
zeros_parts zero bytes = omega arith
zeros_parts (suc n) [] = omega arith
zeros_parts (suc n) (b ∷ bytes) = let rest = zeros_parts n bytes in omega arith

pub ruleset zero_counts = (zeros_within, zeros_parts)

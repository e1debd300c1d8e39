-- Digits and their numbers.
use Rattle.std.proofs.Common.{◌≡◌, ◌<◌, ◌≤◌, ◌+◌, ◌-◌, ◌*◌, ◌^◌, ◌&&◌, ℕ, zero, suc, Bool, true, false, List, ◌∷◌, length, take, drop, Ok, Err, refl, ap, arith}
use Rattle.std.specs.Prelude.{nat_le}
use Rattle.xr_types.specs.Results.{unless}
use Rattle.xr_types.specs.declared.fault.Fault.TheVariants.{BadArgument}
use Rattle.xr_times.specs.declared.time.Freq.TheVariants.{Seconds}
use Rattle.xr_groups.specs.Calls.{count_of, is_plain}
use Rattle.xr_grouping.specs.Widths.{width_of}

pub taken_more : (x : ℕ) (t : List ℕ) (n : ℕ) → (take (n + 1) (x ∷ t) ≡ x ∷ take n t) × (drop (n + 1) (x ∷ t) ≡ drop n t)
taken_more x t n = let next : n + 1 ≡ suc n = omega arith in (ap (λ m. take m (x ∷ t)) next, ap (λ m. drop m (x ∷ t)) next)

abbrev pub tens : ℕ → ℕ
tens zero = 1
tens (suc i) = 10 * tens i

pub number_next : (n i c : ℕ) → n + 300 ≤ 300 * tens i → c < 256 → 10 * n + (c - 48) + 300 ≤ 300 * tens (i + 1)
number_next n i c below small = let next : i + 1 ≡ suc i = omega arith in let up : tens (i + 1) ≡ 10 * tens i = ap tens next in omega (arith, up, below, small)

few_tens : (i : ℕ) → i ≤ 7 → tens i ≤ 10000000
few_tens zero few = omega arith
few_tens (suc zero) few = omega arith
few_tens (suc (suc zero)) few = omega arith
few_tens (suc (suc (suc zero))) few = omega arith
few_tens (suc (suc (suc (suc zero)))) few = omega arith
few_tens (suc (suc (suc (suc (suc zero))))) few = omega arith
few_tens (suc (suc (suc (suc (suc (suc zero)))))) few = omega arith
few_tens (suc (suc (suc (suc (suc (suc (suc zero))))))) few = omega arith
few_tens (suc (suc (suc (suc (suc (suc (suc (suc i)))))))) few = absurd (omega arith)

pub number_fits : (n i : ℕ) → n + 300 ≤ 300 * tens i → i ≤ 7 → n < 2 ^ 40
number_fits n i below few = let up = few_tens i few in omega (arith, up, below)

-- what is too long, or begins with a 0, or is too great, is no count
pub width_is : (ds : List ℕ) (unit : ℕ) (b : Bool) → (is_plain ds && nat_le (length ds) 7 && nat_le (count_of ds) 1000000) ≡ b → width_of ds unit ≡ (elim b [ true ↦ Ok (Seconds (count_of ds * unit)) | false ↦ Err BadArgument ])
unfolding unless
width_is ds unit true e = rw e refl
width_is ds unit false e = rw e refl

-- How many records lie in a file.
use Rattle.std.proofs.Common.{◌≡◌, ◌≤◌, ◌<◌, ◌+◌, ◌-◌, ◌/◌, ◌∙◌, sym, ap, ℕ, suc, true, false, cond, List, ◌∷◌, length, map, drop, get_or, refl, arith, inl, inr, ltb}
use Rattle.std.proofs.Math.Nat.{div-eq_of_lt}
use Rattle.std.proofs.lemmas.Bool.{le-ltb}
use Rattle.xr_files.specs.declared.file.CdfDim.{CdfDim}
use Rattle.xr_files.specs.declared.file.VarHead.{VarHead}
use Rattle.xr_files.specs.Files.{most_bytes, is_record_var, record_vars}
use Rattle.cdf_reader.specs.Sizes.{capped}
use Rattle.cdf_reader.proofs.Capped.{ordered}
use Rattle.cdf_reader.proofs.Distances.{from_place, records_more}

quotient : (n step : ℕ) → n ≤ most_bytes → n / capped step ≡ n / step
quotient n step small =
    elim (ordered step 18446744073709551615) [
      | inl le ↦ let e : capped step ≡ step = omega arith in rw e refl
      | inr ge ↦
          let a : n / capped step ≡ 0 = div-eq_of_lt (omega arith) in
          let b : n / step ≡ 0 = div-eq_of_lt (omega arith) in
          a ∙ sym b
    ]

pub records_counted : (bytes begin head step end q : ℕ) → bytes ≤ most_bytes → end ≡ capped (begin + capped head) → end ≤ bytes → q ≡ (bytes - end) / capped step → q + 1 ≡ cond (ltb bytes (begin + head)) 0 ((bytes - (begin + head)) / step + 1)
records_counted bytes begin head step end q small e le is =
    let exact : end ≡ begin + head = omega arith in
    let inside : ltb bytes (begin + head) ≡ false = le-ltb _ _ (omega arith) in
    let same : q ≡ (bytes - (begin + head)) / step = is ∙ ap (λ (n : ℕ). (bytes - n) / capped step) exact ∙ quotient (bytes - (begin + head)) step (omega arith) in
    rw (inside, same) refl

pub counts_more : (count : VarHead → ℕ) (dims : List CdfDim) (vars : List VarHead) (i k : ℕ) (v : VarHead) → k < length vars → i ≡ suc k → v ≡ get_or vars k v → is_record_var dims v.dims ≡ true
    → map count (record_vars dims (drop k vars)) ≡ count v ∷ map count (record_vars dims (drop i vars))
counts_more count dims vars i k v lt next is first =
    ap (λ (vs : List VarHead). map count (record_vars dims vs)) (from_place vars k v lt is) ∙ ap (map count) (records_more dims v (drop (suc k) vars) first) ∙ ap (λ (j : ℕ). count v ∷ map count (record_vars dims (drop j vars))) (sym next)

-- Reading entries one after the other, as a loop does.
use Rattle.std.proofs.Common.{◌≡◌, ℕ, suc, ◌-◌, ◌+◌, ◌≤◌, ◌<◌, List, [], ◌∷◌, ◌++◌, Result, Ok, Err, refl, sym, ◌∙◌, arith}
use Rattle.xr_files.specs.declared.stop.Stop.{Stop}
use Rattle.xr_files.specs.Format.{Format, each}
use Rattle.cdf_reader.specs.declared.fault.WalkFault.{WalkFault}
use Rattle.cdf_reader.specs.declared.fault.WalkFault.TheVariants as walk
use Rattle.cdf_reader.specs.Answers.{Fails}

pub goes_on : {A : Type 0} (f : List A → Format A) (seen : List A) (count i : ℕ) (bytes after : List ℕ) (a : A) (total : Result (List A × List ℕ) Stop) → i < count → (f seen).reads bytes ≡ Ok (a, after)
    → (each (count - i) f seen).reads bytes ≡ total → (each (count - (i + 1)) f (seen ++ a ∷ [])).reads after ≡ total
unfolding each
goes_on f seen count i bytes after a total lt h so_far =
    let k : count - i ≡ suc (count - (i + 1)) = omega arith in
    let one : (each (count - i) f seen).reads bytes ≡ (each (count - (i + 1)) f (seen ++ a ∷ [])).reads after = rw (k, h) refl in
    sym one ∙ so_far

pub ends : {A : Type 0} (e : WalkFault) (f : List A → Format A) (seen : List A) (count i : ℕ) (bytes : List ℕ) (total : Result (List A × List ℕ) Stop) → i < count → Fails e ((f seen).reads bytes)
    → (each (count - i) f seen).reads bytes ≡ total → Fails e total
unfolding each
ends walk.NoMemory f seen count i bytes total lt h so_far = tt
ends (walk.At s) f seen count i bytes total lt h so_far =
    let k : count - i ≡ suc (count - (i + 1)) = omega arith in
    let one : (each (count - i) f seen).reads bytes ≡ Err s = rw (k, h) refl in
    sym so_far ∙ one

pub is_done : {A : Type 0} (f : List A → Format A) (seen : List A) (count i : ℕ) (bytes : List ℕ) (total : Result (List A × List ℕ) Stop) → count ≤ i → (each (count - i) f seen).reads bytes ≡ total → total ≡ Ok (seen, bytes)
unfolding each
is_done f seen count i bytes total le so_far =
    let k : count - i ≡ 0 = omega arith in
    let one : (each (count - i) f seen).reads bytes ≡ Ok (seen, bytes) = rw k refl in
    sym so_far ∙ one

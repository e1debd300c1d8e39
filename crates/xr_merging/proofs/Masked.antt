-- Cells beside their mask.
use Rattle.std.proofs.Common.{◌≡◌, ◌<◌, ◌∙◌, ℕ, ℤ, zero, suc, pos, List, [], ◌∷◌, length, map, get_or, Bor, MatchOption, Option, Some, None, refl, sym, ap, subst, arith}
use Rattle.std.proofs.lemmas.Bool.{cond-false, ne_eqb}
use Rattle.std.specs.Prelude.{zip, nat_eq}
use Rattle.xr_arrays.specs.Arrays.{cell, hidden}

pub pos_at : (ns : List ℕ) (k : ℕ) → k < length (map pos ns) → get_or (map pos ns) k (pos 0) ≡ pos (get_or ns k 0)
pos_at [] k lt = refl
pos_at (n ∷ ns) zero lt = refl
pos_at (n ∷ ns) (suc k) lt = pos_at ns k (omega arith)

pub plain_at : (ns : List ℤ) (k : ℕ) → k < length ns → get_or (map Some ns) k None ≡ Some (get_or ns k (pos 0))
plain_at [] k lt = absurd (omega arith)
plain_at (n ∷ ns) zero lt = refl
plain_at (n ∷ ns) (suc k) lt = plain_at ns k (omega arith)

pub masked_at : (ns : List ℤ) (bytes : List ℕ) (k : ℕ) → k < length ns → length bytes ≡ length ns → get_or (map cell (zip ns bytes)) k None ≡ cell (get_or ns k (pos 0), get_or bytes k 0)
masked_at [] bytes k lt long = absurd (omega arith)
masked_at (n ∷ ns) [] k lt long = absurd (omega arith)
masked_at (n ∷ ns) (b ∷ bs) zero lt long = refl
masked_at (n ∷ ns) (b ∷ bs) (suc k) lt long = masked_at ns bs k (omega arith) (omega arith)

pub plain-length : (ns : List ℤ) → length (map Some ns) ≡ length ns
plain-length [] = refl
plain-length (n ∷ ns) = ap suc (plain-length ns)

pub masked-length : (ns : List ℤ) (bytes : List ℕ) → length bytes ≡ length ns → length (map cell (zip ns bytes)) ≡ length ns
masked-length [] bytes long = refl
masked-length (n ∷ ns) [] long = absurd (omega arith)
masked-length (n ∷ ns) (b ∷ bs) long = ap suc (masked-length ns bs (omega arith))

-- ---- what the parts of an array tell of its cells

pub record Shown (cells : List (Option ℤ)) (ns : List ℤ) (bytes : List ℕ) (k : ℕ) : Type 0 where
  pub number_inside : k < length ns
  pub byte_inside : k < length bytes
  pub is : get_or cells k None ≡ cell (get_or ns k (pos 0), get_or bytes k 0)

shown : (cells : List (Option ℤ)) (ns : List ℤ) (bytes : List ℕ) (n k : ℕ) → cells ≡ hidden ns (Some bytes) → length ns ≡ n → length bytes ≡ n → k < length cells → Shown cells ns bytes k
shown cells ns bytes n k is whole long lt =
    let same : length bytes ≡ length ns = long ∙ sym whole in
    let all : length cells ≡ length ns = ap length is ∙ masked-length ns bytes same in
    let below : k < length ns = omega arith in
    record { number_inside = below; byte_inside = omega arith; is = ap (λ (cs : List (Option ℤ)). get_or cs k None) is ∙ masked_at ns bytes k below same }

pub in_some : (cells : List (Option ℤ)) (ns : List ℤ) (mask : Option (Bor (List ℕ))) (b : Bor (List ℕ)) (n k : ℕ) → mask ≡ Some b
    → MatchOption mask (cells ≡ hidden ns None) (λ m. cells ≡ hidden ns (Some m.now)) → length ns ≡ n → MatchOption mask (length ns ≡ n) (λ m. length m.now ≡ n) → k < length cells → Shown cells ns b.now k
in_some cells ns mask b n k is of_cells whole of_mask lt =
    shown cells ns b.now n k (subst (λ (o : Option (Bor (List ℕ))). MatchOption o (cells ≡ hidden ns None) (λ m. cells ≡ hidden ns (Some m.now))) is of_cells) whole
    (subst (λ (o : Option (Bor (List ℕ))). MatchOption o (length ns ≡ n) (λ m. length m.now ≡ n)) is of_mask) lt

pub present_cell : (x : ℤ) (b : ℕ) → b ≡ 0 → cell (x, b) ≡ Some x
present_cell x b is = ap (λ (m : ℕ). cell (x, m)) is

pub missing_cell : (x : ℤ) (b : ℕ) → (b ≡ 0 → ⊥) → cell (x, b) ≡ None
missing_cell x b other = cond-false (nat_eq b 0) (Some x) None (ne_eqb b 0 other)

-- as many cells as numbers
pub counted : (cells : List (Option ℤ)) (ns : List ℤ) (mask : Option (Bor (List ℕ))) (n : ℕ) → MatchOption mask (cells ≡ hidden ns None) (λ m. cells ≡ hidden ns (Some m.now)) → length ns ≡ n → MatchOption mask (length ns ≡ n) (λ m. length m.now ≡ n) → length ns ≡ length cells
counted cells ns None n is whole long = sym (ap length is ∙ plain-length ns)
counted cells ns (Some b) n is whole long = sym (ap length is ∙ masked-length ns b.now (long ∙ sym whole))

-- A text that stands in bytes at a place.
use Rattle.std.proofs.Common.{◌≡◌, ℕ, zero, suc, ◌+◌, ◌*◌, ◌<◌, ◌≤◌, List, ◌++◌, length, take, drop, refl, subst, sym, ap, ◌∙◌, append_assoc, arith}
use Rattle.std.proofs.lemmas.List.{drop-drop, drop_all, drop_at, length-append, take_at, take-append-drop}
use Rattle.std.specs.List.{flat_map, range_with_len}

pub record Stands (bytes text : List ℕ) (at : ℕ) : Type 0 where
  pub front : List ℕ
  pub rest : List ℕ
  pub parts : bytes ≡ front ++ (text ++ rest)
  pub place : length front ≡ at

-- the first n bytes there
pub stands_first : (bytes x y : List ℕ) (at n : ℕ) → Stands bytes (x ++ y) at → length x ≡ n → take n (drop at bytes) ≡ x
stands_first bytes x y at n s e =
    ap (λ l. take n (drop at l)) s.parts ∙ ap (take n) (drop_at s.front ((x ++ y) ++ s.rest) at s.place) ∙ ap (take n) (append_assoc x y s.rest) ∙ take_at x (y ++ s.rest) n e

pub stands_next : (bytes x y : List ℕ) (at next : ℕ) → Stands bytes (x ++ y) at → at + length x ≡ next → Stands bytes y next
stands_next bytes x y at next s e = record {
  front = s.front ++ x;
  rest = s.rest;
  parts = s.parts ∙ ap (λ l. s.front ++ l) (append_assoc x y s.rest) ∙ sym (append_assoc s.front x (y ++ s.rest));
  place = length-append s.front x ∙ omega (arith, s.place, e);
}

pub stands_within : (bytes text : List ℕ) (at : ℕ) → Stands bytes text at → at + length text ≤ length bytes
stands_within bytes text at s = omega (arith, ap length s.parts, length-append s.front (text ++ s.rest), length-append text s.rest, s.place)

-- ---- texts of equal length one after the other

pub flat_same : (T U : ℕ → List ℕ) (from n : ℕ) → ((r : ℕ) → r < from + n → T r ≡ U r) → flat_map T (range_with_len from n) ≡ flat_map U (range_with_len from n)
flat_same T U from zero same = refl
flat_same T U from (suc n) same =
    ap (λ l. l ++ flat_map T (range_with_len (from + 1) n)) (same from (omega arith)) ∙ ap (λ l. U from ++ l) (flat_same T U (from + 1) n (λ r lt. same r (omega arith)))

pub row_stands : (T : ℕ → List ℕ) (size from n k : ℕ) (bytes : List ℕ) (at : ℕ) → k < n → ((r : ℕ) → r < from + n → length (T r) ≡ size) → Stands bytes (flat_map T (range_with_len from n)) at
    → Stands bytes (T (from + k)) (at + k * size)
row_stands T size from zero k bytes at lt each s = absurd (omega arith)
row_stands T size from (suc n) zero bytes at lt each s = record {
  front = s.front;
  rest = flat_map T (range_with_len (from + 1) n) ++ s.rest;
  parts = s.parts ∙ ap (λ l. s.front ++ l) (append_assoc (T from) (flat_map T (range_with_len (from + 1) n)) s.rest) ∙ ap (λ r. s.front ++ (T r ++ (flat_map T (range_with_len (from + 1) n) ++ s.rest))) (let e : from ≡ from + 0 = omega arith in e);
  place = omega (arith, s.place);
}
row_stands T size from (suc n) (suc k) bytes at lt each s =
    let next = stands_next bytes (T from) (flat_map T (range_with_len (from + 1) n)) at (at + size) s (omega (arith, each from (omega arith))) in
    let there = row_stands T size (from + 1) n k bytes (at + size) (omega arith) (λ r less. each r (omega arith)) next in
    let row : from + 1 + k ≡ from + suc k = omega arith in
    let place : at + size + k * size ≡ at + suc k * size = omega arith in
    subst (λ p. Stands bytes (T (from + suc k)) p) place (subst (λ r. Stands bytes (T r) (at + size + k * size)) row there)

-- a list cut into pieces of a size is the pieces together
pub pieces : (s from n : ℕ) (raw : List ℕ) → length raw ≡ (from + n) * s → flat_map (λ r. take s (drop (r * s) raw)) (range_with_len from n) ≡ drop (from * s) raw
pieces s from zero raw e = sym (drop_all (from * s) raw (let zeroed : (from + 0) * s ≡ from * s = ap (λ k. k * s) (let z : from + 0 ≡ from = omega arith in z) in omega (arith, e, zeroed)))
pieces s from (suc n) raw e =
    let sum : from + suc n ≡ from + 1 + n = omega arith in
    let rest = pieces s (from + 1) n raw (e ∙ ap (λ k. k * s) sum) in
    let on : (from + 1) * s ≡ from * s + s = omega arith in
    ap (λ l. take s (drop (from * s) raw) ++ l) (rest ∙ ap (λ k. drop k raw) on ∙ sym (drop-drop s (from * s) raw)) ∙ take-append-drop s (drop (from * s) raw)

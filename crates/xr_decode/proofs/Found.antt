-- Values that were found, taken one after the other from the end of their list.
use Rattle.std.proofs.Common.{◌≡◌, ◌<◌, ◌+◌, ◌-◌, ◌∙◌, ℕ, suc, length, get_or, drop, sym, ap, Bool, true, false, List, [], ◌∷◌, ◌++◌, map, filter, reverse, take, Option, Some, None, IfSome, MatchOption, arith, refl}
use denote.Ref.{Bor}
use Rattle.std.proofs.Math.Seq.{drop-cons}
use Rattle.std.specs.Option.{option_to_list}
use Rattle.std.proofs.lemmas.List.{reverse-append, append-nil}
use Rattle.xr_files.specs.declared.file.VarHead.{VarHead}
use Rattle.cdf_reader.specs.declared.heads.FileHead.{FileHead}
use Rattle.xr_decode.specs.Sought.{is_sought, values_seen}

-- what leaves the end of a list that is known from its end
next : {B : Type 0} (old new : List B) (r : Option B) (x : B) (rest : List B) (m k : ℕ) → old ≡ new ++ option_to_list r → new ≡ take (m - 1) old → MatchOption r ((m ≡ 0) × (k ≡ 0)) (λ y. k + 1 ≡ m) → reverse old ≡ x ∷ rest
    → IfSome r (λ y. y ≡ x) × (reverse new ≡ rest)
next old new None x rest m k e front empty all =
    let zero : m - 1 ≡ 0 = omega (arith, empty.0) in
    let nothing : new ≡ [] = front ∙ ap (λ (j : ℕ). take j old) zero in
    let none : old ≡ [] = e ∙ append-nil new ∙ nothing in
    let nil : reverse old ≡ [] = ap reverse none in
    absurd (cc)
next old new (Some y) x rest m k e front more all =
    let turned : reverse old ≡ y ∷ reverse new = ap reverse e ∙ reverse-append new (y ∷ []) in
    let head : y ≡ x = cc in
    let tail : reverse new ≡ rest = cc in
    (head, tail)

kept : {A : Type 0} (p : A → Bool) (x : A) (xs : List A) → p x ≡ true → filter p (x ∷ xs) ≡ x ∷ filter p xs
kept p x xs e = rw e refl

left_out : {A : Type 0} (p : A → Bool) (x : A) (xs : List A) → p x ≡ false → filter p (x ∷ xs) ≡ filter p xs
left_out p x xs e = rw e refl

-- the next values, of a variable whose values are looked for
pub found_next : (bytes : List ℕ) (head : FileHead) (var : VarHead) (rest : List VarHead) (old new : List (List ℕ)) (r : Option (List ℕ)) (m k : ℕ) → is_sought head var ≡ true
    → old ≡ new ++ option_to_list r → new ≡ take (m - 1) old → MatchOption r ((m ≡ 0) × (k ≡ 0)) (λ y. k + 1 ≡ m)
    → reverse old ≡ map (values_seen bytes head) (filter (is_sought head) (var ∷ rest))
    → IfSome r (λ raw. raw ≡ values_seen bytes head var) × (reverse new ≡ map (values_seen bytes head) (filter (is_sought head) rest))
found_next bytes head var rest old new r m k sought e front cases all =
    next old new r (values_seen bytes head var) (map (values_seen bytes head) (filter (is_sought head) rest)) m k e front cases
    (all ∙ ap (map (values_seen bytes head)) (kept (is_sought head) var rest sought))

-- and of one whose values aren't
pub found_later : (bytes : List ℕ) (head : FileHead) (var : VarHead) (rest : List VarHead) (all : List (List ℕ)) → is_sought head var ≡ false
    → reverse all ≡ map (values_seen bytes head) (filter (is_sought head) (var ∷ rest)) → reverse all ≡ map (values_seen bytes head) (filter (is_sought head) rest)
found_later bytes head var rest all unsought e = e ∙ ap (map (values_seen bytes head)) (left_out (is_sought head) var rest unsought)

-- the variables from a place on: its own first
pub from_here : (heads : List VarHead) (i : ℕ) (v : VarHead) → i < length heads → v ≡ get_or heads i v → drop i heads ≡ v ∷ drop (i + 1) heads
from_here heads i v lt e =
    let next : suc i ≡ i + 1 = omega arith in
    drop-cons heads i v lt ∙ ap (λ (w : VarHead). w ∷ drop (suc i) heads) (sym e) ∙ ap (λ (j : ℕ). v ∷ drop j heads) next

-- what was found of variables by their places
pub of_heads : (F : VarHead → List ℕ) (vars : List (Bor VarHead)) → map (λ (v : Bor VarHead). F v.now) vars ≡ map F (map (λ (v : Bor VarHead). v.now) vars)
of_heads F [] = refl
of_heads F (v ∷ vs) = ap (λ l. F v.now ∷ l) (of_heads F vs)

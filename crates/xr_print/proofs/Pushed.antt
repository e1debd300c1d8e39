-- Pieces that are written one after the other.
use Rattle.std.proofs.Common.{◌≡◌, ◌+◌, ◌<◌, ◌≤◌, ℕ, List, [], ◌∷◌, ◌++◌, length, map, drop, get_or, sym, ap, ◌∙◌, append_assoc, add-one, drop-cons}
use Rattle.std.specs.Prelude.{flat_map, OnOk, IfOk, Result, Ok, Err}
use Rattle.std.proofs.lemmas.List.{append-nil, drop_all}
use Rattle.xr_defs.specs.Text.{joined, after_blanks}

pub on_ok : {A E : Type 0} (r : Result A E) (P Q : Type 0) → (P → Q) → OnOk r P → OnOk r Q
on_ok (Ok x) P Q f h = f h
on_ok (Err e) P Q f h = tt

pub if_ok : {A E : Type 0} (r : Result A E) (P Q : A → Type 0) → ((x : A) → P x → Q x) → IfOk r P → IfOk r Q
if_ok (Ok x) P Q f h = f x h
if_ok (Err e) P Q f h = tt

pub two_pieces : (old mid new p q whole : List ℕ) → mid ≡ old ++ p → whole ≡ p ++ q → new ≡ mid ++ q → new ≡ old ++ whole
two_pieces old mid new p q whole is_mid is_whole is_new = is_new ∙ ap (λ t. t ++ q) is_mid ∙ append_assoc old p q ∙ ap (λ t. old ++ t) (sym is_whole)

pub joined_is : (between x : List ℕ) (xs : List (List ℕ)) → joined between (x ∷ xs) ≡ x ++ flat_map (λ t. between ++ t) xs
joined_is between x [] = sym (append-nil x)
joined_is between x (y ∷ ys) = ap (λ t. x ++ t) (ap (λ t. between ++ t) (joined_is between y ys) ∙ sym (append_assoc between y (flat_map (λ t. between ++ t) ys)))

-- a row is its first text, and the others each behind a blank
pub row_is : (x : List ℕ) (rest all : List (List ℕ)) (old mid new : List ℕ) → all ≡ x ∷ rest → mid ≡ old ++ x → new ≡ mid ++ after_blanks rest → new ≡ old ++ joined (32 ∷ []) all
row_is x rest all old mid new is_all is_mid is_new = two_pieces old mid new x (after_blanks rest) (joined (32 ∷ []) all) is_mid (ap (joined (32 ∷ [])) is_all ∙ joined_is (32 ∷ []) x rest) is_new

-- ---- texts, a blank before each

-- one more of them
pub one_text_more : {X : Type 0} (f : X → List ℕ) (xs : List X) (i : ℕ) (d x : X) (out mid new whole : List ℕ) → i < length xs → x ≡ get_or xs i d → mid ≡ out ++ 32 ∷ [] → new ≡ mid ++ f x → out ++ after_blanks (map f (drop i xs)) ≡ whole → new ++ after_blanks (map f (drop (i + 1) xs)) ≡ whole
one_text_more f xs i d x out mid new whole lt is_x is_mid is_new so_far =
    let rest : List ℕ = after_blanks (map f (drop (i + 1) xs)) in
    ap (λ t. t ++ rest) (is_new ∙ ap (λ t. t ++ f x) is_mid) ∙ append_assoc (out ++ 32 ∷ []) (f x) rest ∙ append_assoc out (32 ∷ []) (f x ++ rest)
    ∙ ap (λ y. out ++ (32 ∷ (f y ++ rest))) is_x ∙ ap (λ n. out ++ (32 ∷ (f (get_or xs i d) ++ after_blanks (map f (drop n xs))))) (add-one i)
    ∙ ap (λ ys. out ++ after_blanks (map f ys)) (sym (drop-cons xs i d lt)) ∙ so_far

pub no_text_more : {X : Type 0} (f : X → List ℕ) (xs : List X) (i : ℕ) (out whole : List ℕ) → length xs ≤ i → out ++ after_blanks (map f (drop i xs)) ≡ whole → out ≡ whole
no_text_more f xs i out whole le so_far = sym (append-nil out) ∙ ap (λ ys. out ++ after_blanks (map f ys)) (sym (drop_all i xs le)) ∙ so_far

-- one text behind a blank
pub item_pushed : (t old mid new : List ℕ) → mid ≡ old ++ 32 ∷ [] → new ≡ mid ++ t → new ≡ old ++ after_blanks (t ∷ [])
item_pushed t old mid new is_mid is_new = two_pieces old mid new (32 ∷ []) t (after_blanks (t ∷ [])) is_mid (append-nil (32 ∷ t)) is_new

pub three_pieces : (old one two new p q r : List ℕ) → one ≡ old ++ p → two ≡ one ++ q → new ≡ two ++ r → new ≡ old ++ (p ++ (q ++ r))
three_pieces old one two new p q r is_one is_two is_new =
    is_new ∙ ap (λ t. t ++ r) (is_two ∙ ap (λ t. t ++ q) is_one) ∙ append_assoc (old ++ p) q r ∙ append_assoc old p (q ++ r)

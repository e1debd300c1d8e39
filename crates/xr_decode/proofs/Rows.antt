-- Rows of one width, from the first to the last.
use Rattle.std.proofs.Common.{◌≡◌, ◌+◌, ◌-◌, ◌*◌, ◌<◌, ◌≤◌, ℕ, zero, suc, List, [], ◌∷◌, ◌++◌, length, map, take, drop, refl, sym, ap, ◌∙◌, arith, append_assoc, append-nil, Option, Some, None, option_map, length-drop, is_some}
use Rattle.std.proofs.lemmas.List.{drop-drop}
use Rattle.std.specs.List.{range_with_len}
use Rattle.xr_defs.specs.Decoding.{all_there, text_in, row}

-- the texts in n rows from row i on
abbrev pub texts_from : ℕ → List ℕ → ℕ → ℕ → Option (List (List ℕ))
texts_from w raw i n = all_there (map (λ k. text_in (row w raw k)) (range_with_len i n))

with_first : Option (List ℕ) → Option (List (List ℕ)) → Option (List (List ℕ))
with_first None o = None
with_first (Some t) o = option_map (λ ts. t ∷ ts) o

first_of : (t : Option (List ℕ)) (ts : List (Option (List ℕ))) → all_there (t ∷ ts) ≡ with_first t (all_there ts)
unfolding with_first
first_of None ts = refl
first_of (Some t) ts = refl

one_more : (w : ℕ) (raw : List ℕ) (i n : ℕ) → i < n → texts_from w raw i (n - i) ≡ with_first (text_in (row w raw i)) (texts_from w raw (i + 1) (n - (i + 1)))
one_more w raw i n lt =
    let e : n - i ≡ suc (n - (i + 1)) = omega arith in
    ap (texts_from w raw i) e ∙ first_of (text_in (row w raw i)) (map (λ k. text_in (row w raw k)) (range_with_len (i + 1) (n - (i + 1))))

-- the row at the front is no text
pub rows_none : (w : ℕ) (raw : List ℕ) (i n : ℕ) → i < n → text_in (row w raw i) ≡ None → texts_from w raw i (n - i) ≡ None
unfolding with_first
rows_none w raw i n lt e = one_more w raw i n lt ∙ ap (λ t. with_first t (texts_from w raw (i + 1) (n - (i + 1)))) e

-- the row at the front is a text
pub rows_some : (w : ℕ) (raw : List ℕ) (i n : ℕ) (t : List ℕ) → i < n → text_in (row w raw i) ≡ Some t → texts_from w raw i (n - i) ≡ option_map (λ ts. t ∷ ts) (texts_from w raw (i + 1) (n - (i + 1)))
unfolding with_first
rows_some w raw i n t lt e = one_more w raw i n lt ∙ ap (λ t. with_first t (texts_from w raw (i + 1) (n - (i + 1)))) e

pub row_fits : (i n w : ℕ) → i < n → i * w + w ≤ n * w
row_fits i zero w lt = absurd (omega arith)
row_fits zero (suc n) w lt = let a : 0 * w ≡ 0 = grind arith in let b : suc n * w ≡ w + n * w = grind arith in omega arith
row_fits (suc i) (suc n) w lt =
    let a : suc i * w ≡ w + i * w = grind arith in
    let b : suc n * w ≡ w + n * w = grind arith in
    let rest = row_fits i n w (omega arith) in
    omega arith

pub row_inside : (i n w : ℕ) (raw : List ℕ) → length raw ≡ n * w → i < n → w ≤ length (drop (i * w) raw)
row_inside i n w raw long lt = let fits = row_fits i n w lt in omega (arith, length-drop (i * w) raw)

pub next_row : (i w : ℕ) → i * w + w ≡ (i + 1) * w
next_row i w = grind arith

pub onto_end : {X : Type 0} (out : List X) (t : X) (o : Option (List X)) → option_map (λ ts. out ++ ts) (option_map (λ ts. t ∷ ts) o) ≡ option_map (λ ts. (out ++ t ∷ []) ++ ts) o
onto_end out t None = refl
onto_end out t (Some ts) = ap Some (sym (append_assoc out (t ∷ []) ts))

pub nothing_more : {X : Type 0} (out : List X) → option_map (λ ts. out ++ ts) (Some []) ≡ Some out
nothing_more out = ap Some (append-nil out)

-- the text of the row at the front, by how it was cut off
pub row_text : (w i : ℕ) (raw rest front : List ℕ) (t o : Option (List ℕ)) → front ≡ take w rest → rest ≡ drop (i * w) raw → t ≡ text_in front → t ≡ o → text_in (row w raw i) ≡ o
row_text w i raw rest front t o cut at read is = ap text_in (ap (take w) (sym at) ∙ sym cut) ∙ sym read ∙ is

pub rest_more : (w i : ℕ) (raw rest back : List ℕ) → back ≡ drop w rest → rest ≡ drop (i * w) raw → back ≡ drop ((i + 1) * w) raw
rest_more w i raw rest back cut at = cut ∙ ap (drop w) at ∙ drop-drop w (i * w) raw ∙ ap (λ k. drop k raw) (next_row i w)

pub is_some-option_map : {X Y : Type 0} (f : X → Y) (o : Option X) → is_some (option_map f o) ≡ is_some o
is_some-option_map f None = refl
is_some-option_map f (Some x) = refl

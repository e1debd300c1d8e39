-- How many bytes the parts of a header take.
use Rattle.std.proofs.Common.{◌≡◌, ℕ, ◌+◌, ◌*◌, ◌<◌, suc, true, false, cond, eqb, List, [], ◌∷◌, ◌++◌, length, take, get_or, refl, sym, ap, ◌∙◌, append_assoc, arith}
use Rattle.std.proofs.lemmas.Bool.{ne_eqb}
use Rattle.std.proofs.lemmas.List.{append-nil, flat_map_more, length-append, length-replicate, take_more}
use Rattle.std.proofs.lemmas.List.Concat.{length-flat_map}
use Rattle.std.proofs.lemmas.List.Sums.{sum_by_more}
use Rattle.std.specs.List.{flat_map}
use Rattle.std.specs.Int.{to_be_bytes, w32, w64}
use Rattle.xr_files.specs.declared.file.CdfDim.{CdfDim}
use Rattle.xr_files.specs.declared.file.CdfVar.{CdfVar}
use Rattle.xr_files.specs.Classic.{padding, place_width}
use Rattle.xr_files.specs.Files.{padded}
use Rattle.xr_files.specs.Canonical.{name_text, attr_text, count_text, var_text, list_text, number_text, zeros}
use Rattle.cdf_writer.specs.Sizes.{count_bytes, list_front, place_bytes}

pub count_length : (version n : ℕ) → length (count_text version n) ≡ count_bytes version
count_length version n = elim (eqb version 5) as (λ b. length (to_be_bytes (cond b w64 w32) n) ≡ cond b 8 4) [ true ↦ refl | false ↦ refl ]

pub name_length : (version : ℕ) (t : List ℕ) → length (name_text version t) ≡ count_bytes version + padded (length t)
name_length version t =
    let text = t ++ zeros (padding (length t)) in
    length-append (count_text version (length t)) text ∙ omega (arith, count_length version (length t), length-append t (zeros (padding (length t))), length-replicate {A = ℕ} (padding (length t)) 0)

-- an empty list takes as many bytes as the tag and the count of another
pub list_length : {A : Type 0} (version tag : ℕ) (entry : A → List ℕ) (xs : List A) → length (list_text version tag entry xs) ≡ 4 + count_bytes version + length (flat_map entry xs)
list_length version tag entry [] = omega (arith, count_length version 0)
list_length version tag entry (x ∷ xs) =
    let n = length (x ∷ xs) in
    omega (arith, length-append (count_text version n) (flat_map entry (x ∷ xs)), count_length version n)

pub list_is : {A : Type 0} (version tag : ℕ) (entry : A → List ℕ) (xs : List A) → list_text version tag entry xs ≡ list_front version tag (length xs) ++ flat_map entry xs
list_is version tag entry [] = sym (append-nil (number_text 0 ++ count_text version 0))
list_is version tag entry (x ∷ xs) =
    let some : eqb (suc (length xs)) 0 ≡ false = ne_eqb (suc (length xs)) 0 (λ e. omega arith) in
    let n = length (x ∷ xs) in
    sym (append_assoc (number_text tag) (count_text version n) (flat_map entry (x ∷ xs))) ∙ ap (λ b. (number_text (cond b 0 tag) ++ count_text version n) ++ flat_map entry (x ∷ xs)) (sym some)

-- one entry more behind what stands already
pub flat_step : {X : Type 0} (T : X → List ℕ) (xs : List X) (i : ℕ) (x : X) (old front out new : List ℕ) → i < length xs → get_or xs i x ≡ x
    → out ≡ old ++ (front ++ flat_map T (take i xs)) → new ≡ out ++ T x → new ≡ old ++ (front ++ flat_map T (take (i + 1) xs))
flat_step T xs i x old front out new lt is so_far more =
    more ∙ ap (λ l. l ++ T x) so_far ∙ append_assoc old (front ++ flat_map T (take i xs)) (T x)
    ∙ ap (λ l. old ++ l) (flat_map_more T front (take i xs) x)
    ∙ ap (λ y. old ++ (front ++ flat_map T (take i xs ++ y ∷ []))) (sym is)
    ∙ ap (λ l. old ++ (front ++ flat_map T l)) (sym (take_more xs i x lt))

pub flat_length_more : {X A : Type 0} (f : X → List A) (xs : List X) (i : ℕ) (d : X) → i < length xs
    → length (flat_map f (take (i + 1) xs)) ≡ length (flat_map f (take i xs)) + length (f (get_or xs i d))
flat_length_more f xs i d h = omega (arith, length-flat_map f (take (i + 1) xs), length-flat_map f (take i xs), sum_by_more (λ x. length (f x)) xs i d h)

pub place_length : (version n : ℕ) → length (to_be_bytes (place_width version) n) ≡ place_bytes version
place_length version n = elim (eqb version 1) as (λ b. length (to_be_bytes (cond b w32 w64) n) ≡ cond b 4 8) [ true ↦ refl | false ↦ refl ]

pub numbers_length : (version : ℕ) (ids : List ℕ) → length (flat_map (count_text version) ids) ≡ length ids * count_bytes version
numbers_length version [] = omega arith
numbers_length version (n ∷ ids) =
    let more : suc (length ids) * count_bytes version ≡ count_bytes version + length ids * count_bytes version = grind arith in
    length-append (count_text version n) (flat_map (count_text version) ids) ∙ omega (arith, count_length version n, numbers_length version ids, more)

pub var_length : (version : ℕ) (dims : List CdfDim) (v : CdfVar) (place : ℕ) → length (var_text version dims (v, place))
    ≡ length (name_text version v.name) + (length v.dims * count_bytes version + (length (list_text version 12 (attr_text version) v.attrs) + (4 + 2 * count_bytes version + place_bytes version)))
var_length version dims v place = simp (length-append, numbers_length, place_length, count_length) (omega arith)

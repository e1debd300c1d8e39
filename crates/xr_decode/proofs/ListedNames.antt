-- The names of a map, and one more.
use Rattle.std.proofs.Common.{◌≡◌, ℕ, Bool, true, false, cond, List, [], ◌∷◌, ◌++◌, Option, Some, None, sym, ap, ◌∙◌, Bor, ◌==◌, ◌+◌, ◌<◌, not, length, filter, map, take, get_or, append_assoc, append-nil}
use Rattle.std.specs.List.{flat_map}
use Rattle.std.proofs.lemmas.List.{map-append, take_more, flat_map_more}
use Rattle.xr_files.specs.declared.file.CdfVar.{CdfVar}
use Rattle.std.proofs.lemmas.List.Elements.{filter-append}
use Rattle.std.specs.Prelude.{codes}
use Rattle.std.specs.List.{slice_split}
use Rattle.xr_types.specs.declared.attr.Attr.{Attr}
use Rattle.xr_defs.specs.Decoding.{is_blank, words, text_attr, listed_in}
use Rattle.std.specs.Cmp.Lexicographic.{slice_cmp}
use Rattle.std.specs.Ordering.{nat_cmp}
use Rattle.std.specs.BTreeMap.{BTreeMap, UpdatesBy}
use Rattle.cdf_reader.proofs.KnownNames.{known_more}
use Rattle.xr_decode.specs.Listed.{Lists}

pub listed_more : (old new : BTreeMap (Bor (List ℕ)) (Unit {0})) (name : List ℕ) → UpdatesBy (λ x y. slice_cmp nat_cmp x.now y.now) (λ k. slice_cmp nat_cmp name k.now) old new (Some tt) → (names : List (List ℕ)) → Lists old names → Lists new (names ++ name ∷ [])
listed_more old new name u names h = known_more old new name u names h

-- the parts between blanks that aren't empty are the names that are listed
pub listed_words : (attrs : List Attr) (text : List ℕ) (parts : List (List ℕ)) → text_attr (codes "coordinates") attrs ≡ Some text → parts ≡ slice_split is_blank text → filter (λ w. not (length w == 0)) parts ≡ listed_in attrs
listed_words attrs text parts said are =
    ap (filter (λ w. not (length w == 0))) are ∙ sym (ap (λ (o : Option (List ℕ)). elim o [ None ↦ [] | Some t ↦ words t ]) said)

abbrev is_word : List ℕ → Bool
is_word w = not (length w == 0)

-- the names with one part more
pub word_more : (parts : List (Bor (List ℕ))) (i : ℕ) (d : Bor (List ℕ)) → i < length parts → (names : List (List ℕ))
    → (names ++ filter is_word (map (λ x. x.now) (take i parts))) ++ filter is_word ((get_or parts i d).now ∷ []) ≡ names ++ filter is_word (map (λ x. x.now) (take (i + 1) parts))
word_more parts i d lt names =
    let part = get_or parts i d in
    append_assoc names (filter is_word (map (λ x. x.now) (take i parts))) (filter is_word (part.now ∷ []))
    ∙ ap (λ ws. names ++ ws) (sym (filter-append is_word (map (λ x. x.now) (take i parts)) (part.now ∷ [])))
    ∙ ap (λ ps. names ++ filter is_word ps) (sym (map-append (λ (x : Bor (List ℕ)). x.now) (take i parts) (part ∷ [])))
    ∙ ap (λ ps. names ++ filter is_word (map (λ x. x.now) ps)) (sym (take_more parts i d lt))

pub no_word : (text : List ℕ) (names : List (List ℕ)) → (length text == 0) ≡ true → names ≡ names ++ filter is_word (text ∷ [])
no_word text names e = sym (append-nil names) ∙ ap (λ b. names ++ cond (not b) (text ∷ []) []) (sym e)

pub one_word : (text : List ℕ) (names : List (List ℕ)) → (length text == 0) ≡ false → names ++ text ∷ [] ≡ names ++ filter is_word (text ∷ [])
one_word text names e = ap (λ b. names ++ cond (not b) (text ∷ []) []) (sym e)

-- what one variable more lists
pub listed_by_more : (vs : List CdfVar) (i : ℕ) (v : CdfVar) (attrs : List Attr) → i < length vs → v ≡ get_or vs i v → attrs ≡ v.attrs → (names : List (List ℕ))
    → (names ++ flat_map (λ (w : CdfVar). listed_in w.attrs) (take i vs)) ++ listed_in attrs ≡ names ++ flat_map (λ (w : CdfVar). listed_in w.attrs) (take (i + 1) vs)
listed_by_more vs i v attrs lt is own names =
    let by = λ (w : CdfVar). listed_in w.attrs in
    ap (λ own. (names ++ flat_map by (take i vs)) ++ listed_in own) own
    ∙ flat_map_more by names (take i vs) v
    ∙ ap (λ w. names ++ flat_map by (take i vs ++ w ∷ [])) is
    ∙ ap (λ ws. names ++ flat_map by ws) (sym (take_more vs i v lt))

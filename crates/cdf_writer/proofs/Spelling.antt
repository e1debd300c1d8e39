-- The texts of names, lists, dimensions and attributes spell them.
use Rattle.std.proofs.Common.{◌≡◌, ℕ, suc, ◌+◌, ◌/◌, ◌<◌, ◌≤◌, ◌^◌, true, false, not, cond, eqb, ◌||◌, List, [], ◌∷◌, ◌++◌, length, refl, subst, sym, ap, ◌∙◌, append_assoc, inl, inr, arith}
use Rattle.std.proofs.lemmas.Bool.{and_parts, cases_Bool}
use Rattle.std.proofs.lemmas.List.{append-nil, length-append, length-replicate, map_push}
use Rattle.std.proofs.lemmas.List.Elements.{filter-append}
use Rattle.std.specs.List.{AllByRecursion, filter, flat_map, list_any}
use Rattle.xr_types.specs.declared.attr.Attr.{Attr}
use Rattle.xr_types.specs.declared.attr.NcType.{NcType}
use Rattle.xr_types.specs.declared.attr.NcType.TheVariants.{Byte, Char, Short, Int, Float, Double, UByte, UShort, UInt, Int64, UInt64}
use Rattle.xr_files.specs.declared.file.CdfDim.{CdfDim}
use Rattle.xr_files.specs.Format.{Format, each}
use Rattle.xr_types.specs.Names.{among}
use Rattle.xr_types.specs.Widths.{width}
use Rattle.xr_files.specs.Classic.{word, count, most_count, has_type, name, new_name, nc_type, list, dimension, values, attribute, is_record_dim, is_length, dim_names, attr_names, number_of, padding}
use Rattle.xr_types.specs.Names.{are_distinct}
use Rattle.xr_files.specs.Canonical.{Fits, IsName, IsDim, IsAttr, AreAttrs, attr_text, count_record_dims, count_text, has_types, dim_text, list_text, name_text, number_text, zeros}
use Rattle.xr_files.proofs.Counts.{count_below}
use Rattle.cdf_writer.proofs.Distinct.{AreNew, nothing_seen, seen_more, none_of_none}

pub number_spelled : (n : ℕ) → n < 2 ^ 32 → word.spells n (number_text n)
number_spelled n lt = (omega arith, refl)

pub count_spelled : (version n : ℕ) → n ≤ most_count version → (count version).spells n (count_text version n)
count_spelled version n le = (count_below version n le, refl)

pub name_spelled : (version : ℕ) (text : List ℕ) → IsName version text → (name version).spells text (name_text version text)
unfolding name
name_spelled version text h =
    let n = length text in
    ((n, count_text version n, text ++ zeros (padding n), refl, count_spelled version n h.fits, (text, text, zeros (padding n), refl, (refl, refl), (zeros (padding n), refl, (length-replicate {A = ℕ} (padding n) 0, refl)))), h.name)

-- ---- lists, each entry by those before it

abbrev pub AllSpelled : {A : Type 0} (entry : List A → Format A) (text : A → List ℕ) → List A → List A → Type 0
AllSpelled entry text seen [] = Unit {0}
AllSpelled entry text seen (x ∷ xs) = (entry seen).spells x (text x) × AllSpelled entry text (seen ++ x ∷ []) xs

pub each_spelled : {A : Type 0} (entry : List A → Format A) (text : A → List ℕ) (seen xs : List A) → AllSpelled entry text seen xs → (each (length xs) entry seen).spells (seen ++ xs) (flat_map text xs)
unfolding each
each_spelled entry text seen [] all = (append-nil seen, refl)
each_spelled entry text seen (x ∷ xs) all = (
  x,
  text x,
  flat_map text xs,
  refl,
  all.0,
  subst (λ l. (each (length xs) entry (seen ++ x ∷ [])).spells l (flat_map text xs)) (append_assoc seen (x ∷ []) xs) (each_spelled entry text (seen ++ x ∷ []) xs all.1),
)

pub list_spelled : {A : Type 0} (version tag : ℕ) (entry : List A → Format A) (text : A → List ℕ) (xs : List A) → tag < 2 ^ 32 → eqb tag 0 ≡ false → eqb tag tag ≡ true → Fits version (length xs)
    → AllSpelled entry text [] xs → (list version tag entry).spells xs (list_text version tag text xs)
unfolding list
list_spelled version tag entry text [] tag_fits some same fits all =
    (0, number_text 0, count_text version 0, refl, (number_spelled 0 (omega arith), refl), (0, count_text version 0, [], sym (append-nil (count_text version 0)), (count_spelled version 0 fits, refl), each_spelled entry text [] [] all))
list_spelled version tag entry text (x ∷ xs) tag_fits some same fits all =
    let n = length (x ∷ xs) in
    let own : (eqb tag 0 || eqb tag tag) ≡ true = rw (some, same) refl in
    let counted : (not (eqb tag 0) || eqb n 0) ≡ true = rw some refl in
    (tag, number_text tag, count_text version n ++ flat_map text (x ∷ xs), refl, (number_spelled tag tag_fits, own), (n, count_text version n, flat_map text (x ∷ xs), refl, (count_spelled version n fits, counted), each_spelled entry text [] (x ∷ xs) all))

-- ---- dimensions

one_at_most : (seen : List CdfDim) (d : CdfDim) (ds : List CdfDim) → count_record_dims seen + count_record_dims (d ∷ ds) ≤ 1 → is_length seen d.len ≡ true
one_at_most seen d ds few =
    elim (cases_Bool (is_record_dim d)) [
      | inr n ↦ ap (λ b. not b || not (list_any is_record_dim seen)) n
      | inl y ↦
          let here : count_record_dims (d ∷ ds) ≡ suc (count_record_dims ds) = rw y refl in
          let none : list_any is_record_dim seen ≡ false = none_of_none is_record_dim seen (omega arith) in
          ap (λ b. not b || not (list_any is_record_dim seen)) y ∙ ap (λ b. not true || not b) none
    ]

counted_on : (seen : List CdfDim) (d : CdfDim) (ds : List CdfDim) → count_record_dims (seen ++ d ∷ []) + count_record_dims ds ≡ count_record_dims seen + count_record_dims (d ∷ ds)
counted_on seen d ds =
    let parts = ap length (filter-append is_record_dim seen (d ∷ [])) ∙ length-append (filter is_record_dim seen) (filter is_record_dim (d ∷ [])) in
    let here : length (filter is_record_dim (d ∷ [])) + count_record_dims ds ≡ count_record_dims (d ∷ ds) = elim (is_record_dim d) as (λ b. length (cond b (d ∷ []) []) + count_record_dims ds ≡ length (cond b (d ∷ filter is_record_dim ds) (filter is_record_dim ds))) [ true ↦ omega arith | false ↦ omega arith ] in
    omega (arith, parts, here)

pub dims_spelled : (version : ℕ) (seen ds : List CdfDim) → AllByRecursion (IsDim version) ds → AreNew (dim_names seen) (dim_names ds) → are_distinct (dim_names ds) ≡ true → count_record_dims seen + count_record_dims ds ≤ 1 → AllSpelled (dimension version) (dim_text version) seen ds
unfolding dimension new_name
dims_spelled version seen [] each new distinct few = tt
dims_spelled version seen (d ∷ ds) each new distinct few =
    let apart = and_parts (not (among (dim_names ds) d.name)) (are_distinct (dim_names ds)) distinct in
    let on = subst (λ l. AreNew l (dim_names ds)) (sym (map_push (λ (e : CdfDim). e.name) seen d)) (seen_more (dim_names seen) d.name (dim_names ds) new.1 apart.0) in (
      (d.name, name_text version d.name, count_text version d.len, refl, (name_spelled version d.name each.0.name, new.0), (d.len, refl, (count_spelled version d.len each.0.fits, one_at_most seen d ds few))),
      dims_spelled version (seen ++ d ∷ []) ds each.1 on apart.1 (omega (arith, counted_on seen d ds, few)),
    )

-- ---- attributes

pub type_spelled : (version : ℕ) (kind : NcType) → has_type version kind ≡ true → (nc_type version).spells kind (number_text (number_of kind))
unfolding nc_type
type_spelled version Byte has = (1, refl, (number_spelled 1 (omega arith), has))
type_spelled version Char has = (2, refl, (number_spelled 2 (omega arith), has))
type_spelled version Short has = (3, refl, (number_spelled 3 (omega arith), has))
type_spelled version Int has = (4, refl, (number_spelled 4 (omega arith), has))
type_spelled version Float has = (5, refl, (number_spelled 5 (omega arith), has))
type_spelled version Double has = (6, refl, (number_spelled 6 (omega arith), has))
type_spelled version UByte has = (7, refl, (number_spelled 7 (omega arith), has))
type_spelled version UShort has = (8, refl, (number_spelled 8 (omega arith), has))
type_spelled version UInt has = (9, refl, (number_spelled 9 (omega arith), has))
type_spelled version Int64 has = (10, refl, (number_spelled 10 (omega arith), has))
type_spelled version UInt64 has = (11, refl, (number_spelled 11 (omega arith), has))

values_spelled : (version : ℕ) (a : Attr) → IsAttr version a → has_type version a.kind ≡ true
    → (values version a.name).spells a (number_text (number_of a.kind) ++ (count_text version (length a.raw / width a.kind) ++ (a.raw ++ zeros (padding (length a.raw)))))
unfolding values
values_spelled version a h has =
    let n = length a.raw / width a.kind in (
      a.kind,
      number_text (number_of a.kind),
      count_text version n ++ (a.raw ++ zeros (padding (length a.raw))),
      refl,
      type_spelled version a.kind has,
      (
        n,
        count_text version n,
        a.raw ++ zeros (padding (length a.raw)),
        refl,
        count_spelled version n h.fits,
        (
          a.raw,
          a.raw,
          zeros (padding (length a.raw)),
          refl,
          (h.whole, refl),
          (zeros (padding (length a.raw)), refl, (length-replicate {A = ℕ} (padding (length a.raw)) 0 ∙ ap padding h.whole, refl)),
        ),
      ),
    )

attrs_spelled : (version : ℕ) (seen attrs : List Attr) → AllByRecursion (IsAttr version) attrs → has_types version attrs ≡ true → AreNew (attr_names seen) (attr_names attrs) → are_distinct (attr_names attrs) ≡ true
    → AllSpelled (attribute version) (attr_text version) seen attrs
unfolding attribute new_name
attrs_spelled version seen [] each has new distinct = tt
attrs_spelled version seen (a ∷ others) each has new distinct =
    let apart = and_parts (not (among (attr_names others) a.name)) (are_distinct (attr_names others)) distinct in
    let types = and_parts (has_type version a.kind) (has_types version others) has in
    let on = subst (λ l. AreNew l (attr_names others)) (sym (map_push (λ (e : Attr). e.name) seen a)) (seen_more (attr_names seen) a.name (attr_names others) new.1 apart.0) in (
      (
        a.name,
        name_text version a.name,
        number_text (number_of a.kind) ++ (count_text version (length a.raw / width a.kind) ++ (a.raw ++ zeros (padding (length a.raw)))),
        refl,
        (name_spelled version a.name each.0.name, new.0),
        values_spelled version a each.0 types.0,
      ),
      attrs_spelled version (seen ++ a ∷ []) others each.1 types.1 on apart.1,
    )

pub attr_list_spelled : (version : ℕ) (attrs : List Attr) → AreAttrs version attrs → has_types version attrs ≡ true → (list version 12 (attribute version)).spells attrs (list_text version 12 (attr_text version) attrs)
attr_list_spelled version attrs h has =
    list_spelled version 12 (attribute version) (attr_text version) attrs (omega arith) refl refl h.fits (attrs_spelled version [] attrs h.each has (nothing_seen (attr_names attrs)) h.distinct)

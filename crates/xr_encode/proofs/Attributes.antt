-- The attributes of a variable, put one behind the other.
use Rattle.std.proofs.Common.{◌≡◌, ◌<◌, ◌≤◌, ◌+◌, ℕ, ℤ, pos, Bool, true, false, cond, List, [], ◌∷◌, ◌++◌, map, Option, Some, None, Ok, refl, sym, ap, ◌∙◌, append_assoc, drop, get_or, arith}
use Rattle.std.specs.Prelude.{◌&&◌, ◌||◌, not, unwrap_or, is_none, is_some, IfSome, length, ◌==◌, codes}
use Rattle.std.specs.List.{join_with_byte}
use Rattle.std.proofs.lemmas.List.{at_drop_more}
use Rattle.xr_types.specs.declared.attr.Attr.{Attr}
use Rattle.xr_types.specs.declared.attr.NcType.{NcType}
use Rattle.xr_defs.specs.declared.write_options.WriteOptions.{WriteOptions}
use Rattle.xr_types.specs.Results.{◌>>=◌, unless}
use Rattle.xr_defs.specs.Decoding.{is_attr, own_fill, fill_numbers, attr_numbers, the_one}
use Rattle.xr_defs.specs.Encoding.{Stored, type_of, holds, first_of, fill_for, own_attr, fill_added, check_fit, text_attr, dtype_added, coordinates_added, attrs_of}
use Rattle.xr_encode.specs.declared.outline.Outline.{Outline}
use Rattle.xr_encode.specs.Outlines.{without_cells}
use Rattle.xr_encode.specs.Attributes.{fill_of_type, fill_in_use, written_anew, option_in_use, fill_given}

-- a name more behind a blank
pub join_more : (t name : List ℕ) (rest : List (List ℕ)) → join_with_byte 32 (((t ++ 32 ∷ []) ++ name) ∷ rest) ≡ join_with_byte 32 (t ∷ name ∷ rest)
join_more t name [] = append_assoc t (32 ∷ []) name
join_more t name (next ∷ rest) = append_assoc (t ++ 32 ∷ []) name (32 ∷ join_with_byte 32 (next ∷ rest)) ∙ append_assoc t (32 ∷ []) (name ++ (32 ∷ join_with_byte 32 (next ∷ rest)))

-- ---- what the check of fill numbers tells

passed : {E : Type 0} (a b : Bool) (e f : E) → (unless a e >>= λ u. unless b f) ≡ Ok tt → (a ≡ true) × (b ≡ true)
unfolding unless
passed true true e f is = (refl, refl)
passed true false e f is = cc
passed false b e f is = cc

pub fits_type : (options : WriteOptions) (o : Stored) → check_fit options o ≡ Ok tt → (not o.masked || holds (type_of options.version o.kind) (unwrap_or (fill_for options o) (pos 0))) ≡ true
unfolding check_fit
fits_type options o ok = (passed _ _ _ _ ok).1

pub where_masked : (masked holds : Bool) → (not masked || holds) ≡ true → masked ≡ true → holds ≡ true
where_masked true holds e m = e
where_masked false holds e m = cc

-- a number that is in use is one of the type
pub holds_in_use : (options : WriteOptions) (o : Stored) (n : ℤ) → check_fit options o ≡ Ok tt → o.masked ≡ true → fill_for options o ≡ Some n → holds (type_of options.version o.kind) n ≡ true
holds_in_use options o n ok masked is = ap (λ f. holds (type_of options.version o.kind) (unwrap_or f (pos 0))) (sym is) ∙ where_masked o.masked (holds (type_of options.version o.kind) (unwrap_or (fill_for options o) (pos 0))) (fits_type options o ok) masked

-- ---- the attributes that it has

own_first : (ns ms : List ℤ) (n : ℤ) → first_of (the_one ns) ≡ Some n → first_of (the_one ns ++ ms) ≡ Some n
own_first [] ms n e = cc
own_first (m ∷ []) ms n e = e
own_first (m ∷ k ∷ ns) ms n e = cc

own_is_used : (options : WriteOptions) (o : Outline) (n : ℤ) → first_of (own_fill o.attrs) ≡ Some n → fill_for options (without_cells o) ≡ Some n
own_is_used options o n e = ap (λ f. elim f [ Some m ↦ Some m | None ↦ options.fill ]) (own_first (attr_numbers (codes "_FillValue") o.attrs) (attr_numbers (codes "missing_value") o.attrs) n e)

masked_use : (options : WriteOptions) (o : Outline) (masked : Bool) (f : Option ℤ) → check_fit options (without_cells o) ≡ Ok tt → o.masked ≡ masked → first_of (own_fill o.attrs) ≡ f → IfSome (cond masked f None) (λ n. holds (type_of options.version o.kind) n ≡ true)
masked_use options o false f ok m e = tt
masked_use options o true None ok m e = tt
masked_use options o true (Some n) ok m e = holds_in_use options (without_cells o) n ok m (own_is_used options o n e)

pub own_holds : (options : WriteOptions) (o : Outline) → check_fit options (without_cells o) ≡ Ok tt → IfSome (fill_in_use o) (λ n. holds (type_of options.version o.kind) n ≡ true)
own_holds options o ok = masked_use options o o.masked (first_of (own_fill o.attrs)) ok refl refl

never : {X : Type 0} (b : Bool) (x y : X) → cond (b && false) x y ≡ y
never true x y = refl
never false x y = refl

always : {X : Type 0} (b : Bool) (x y : X) → cond (b && true) x y ≡ cond b x y
always true x y = refl
always false x y = refl

anew : (t : NcType) (masked : Bool) (ns ms : List ℤ) (a : Attr) → cond (masked && is_attr (codes "_FillValue") a && not (length (the_one ns) == 0)) (fill_of_type t (unwrap_or (first_of (the_one ns ++ ms)) (pos 0))) a ≡ written_anew t (cond masked (first_of (the_one ns)) None) a
anew t false ns ms a = refl
anew t true [] ms a = never (is_attr (codes "_FillValue") a) (fill_of_type t (unwrap_or (first_of ms) (pos 0))) a
anew t true (n ∷ []) ms a = always (is_attr (codes "_FillValue") a) (fill_of_type t n) a
anew t true (n ∷ m ∷ ns) ms a = never (is_attr (codes "_FillValue") a) (fill_of_type t (unwrap_or (first_of ms) (pos 0))) a

pub own_is : (options : WriteOptions) (o : Outline) (a : Attr) → own_attr options (without_cells o) a ≡ written_anew (type_of options.version o.kind) (fill_in_use o) a
own_is options o a = anew (type_of options.version o.kind) o.masked (attr_numbers (codes "_FillValue") o.attrs) (attr_numbers (codes "missing_value") o.attrs) a

pub own_are : (options : WriteOptions) (o : Outline) (attrs : List Attr) → map (written_anew (type_of options.version o.kind) (fill_in_use o)) attrs ≡ map (own_attr options (without_cells o)) attrs
own_are options o [] = refl
own_are options o (a ∷ attrs) =
    ap (λ b. b ∷ map (written_anew (type_of options.version o.kind) (fill_in_use o)) attrs) (sym (own_is options o a)) ∙ ap (λ bs. own_attr options (without_cells o) a ∷ bs) (own_are options o attrs)

-- ---- the option's number

given : (t : NcType) (masked : Bool) (fills : List ℤ) (option : Option ℤ) → cond (masked && is_none (first_of fills) && is_some option) (fill_of_type t (unwrap_or option (pos 0)) ∷ []) [] ≡ fill_given t (cond (masked && is_none (first_of fills) && is_some option) option None)
given t false fills option = refl
given t true (n ∷ fills) option = refl
given t true [] None = refl
given t true [] (Some n) = refl

pub option_is : (options : WriteOptions) (o : Outline) → fill_given (type_of options.version o.kind) (option_in_use options o) ≡ fill_added options (without_cells o)
option_is options o = sym (given (type_of options.version o.kind) o.masked (fill_numbers o.attrs) options.fill)

used : (options : WriteOptions) (o : Outline) (masked : Bool) (fills : List ℤ) (option : Option ℤ) → check_fit options (without_cells o) ≡ Ok tt → o.masked ≡ masked → fill_numbers o.attrs ≡ fills → options.fill ≡ option
    → IfSome (cond (masked && is_none (first_of fills) && is_some option) option None) (λ n. holds (type_of options.version o.kind) n ≡ true)
used options o false fills option ok m f e = tt
used options o true (k ∷ fills) option ok m f e = tt
used options o true [] None ok m f e = tt
used options o true [] (Some n) ok m f e = holds_in_use options (without_cells o) n ok m (ap (λ ns. elim (first_of ns) [ Some k ↦ Some k | None ↦ options.fill ]) f ∙ e)

pub option_holds : (options : WriteOptions) (o : Outline) → check_fit options (without_cells o) ≡ Ok tt → IfSome (option_in_use options o) (λ n. holds (type_of options.version o.kind) n ≡ true)
option_holds options o ok = used options o o.masked (fill_numbers o.attrs) options.fill ok refl refl refl

-- ---- what is put one behind the other

pub joined_more : (rest : List (List ℕ)) (i : ℕ) (t more name whole : List ℕ) → i < length rest → name ≡ get_or rest i name → more ≡ (t ++ 32 ∷ []) ++ name → join_with_byte 32 (t ∷ drop i rest) ≡ whole → join_with_byte 32 (more ∷ drop (i + 1) rest) ≡ whole
joined_more rest i t more name whole lt is put so_far =
    ap (λ m. join_with_byte 32 (m ∷ drop (i + 1) rest)) put ∙ join_more t name (drop (i + 1) rest)
    ∙ ap (λ n. join_with_byte 32 (t ∷ n ∷ drop (i + 1) rest)) is ∙ sym (at_drop_more (λ ns. join_with_byte 32 (t ∷ ns)) rest i name lt) ∙ so_far

pub listed : (names : List (List ℕ)) (first raw : List ℕ) (a : Attr) → 1 ≤ length names → first ≡ get_or names 0 first → raw ≡ join_with_byte 32 (first ∷ drop 1 names) → a ≡ text_attr (codes "coordinates") raw → a ∷ [] ≡ coordinates_added names
listed [] first raw a some is text made = absurd (omega arith)
listed (n ∷ names) first raw a some is text made = ap (λ b. b ∷ []) made ∙ ap (λ t. text_attr (codes "coordinates") t ∷ []) (text ∙ ap (λ m. join_with_byte 32 (m ∷ names)) is)

-- where no number is in use, each attribute stays
kept : (t : NcType) (attrs : List Attr) → map (written_anew t None) attrs ≡ attrs
kept t [] = refl
kept t (a ∷ attrs) = ap (λ l. a ∷ l) (kept t attrs)

pub attrs_made : (options : WriteOptions) (o : Outline) (t : NcType) (own option : Option ℤ) (a b b' c d e : List Attr) → t ≡ type_of options.version o.kind → a ≡ [] → own ≡ fill_in_use o → option ≡ option_in_use options o → b ≡ a ++ map (written_anew t own) o.attrs → b' ≡ b ++ map (written_anew t None) o.coding → c ≡ b' ++ dtype_added o.kind
    → d ≡ c ++ fill_given t option → e ≡ d ++ coordinates_added o.lists → e ≡ attrs_of options (without_cells o)
attrs_made options o t own option a b b' c d e is_t is_a is_own is_option is_b is_b' is_c is_d is_e =
    let mine : List Attr = map (own_attr options (without_cells o)) o.attrs in
    let b_is : b ≡ mine = is_b ∙ ap (λ l. l ++ map (written_anew t own) o.attrs) is_a ∙ ap (λ n. map (written_anew t n) o.attrs) is_own ∙ ap (λ u. map (written_anew u (fill_in_use o)) o.attrs) is_t ∙ own_are options o o.attrs in
    let given_is : fill_given t option ≡ fill_added options (without_cells o) = ap (fill_given t) is_option ∙ ap (λ u. fill_given u (option_in_use options o)) is_t ∙ option_is options o in
    let coded : b' ≡ mine ++ o.coding = is_b' ∙ ap (λ l. b ++ l) (kept t o.coding) ∙ ap (λ l. l ++ o.coding) b_is in
    let more : List Attr = fill_added options (without_cells o) ++ coordinates_added o.lists in
    is_e ∙ ap (λ l. l ++ coordinates_added o.lists) (is_d ∙ ap (λ l. c ++ l) given_is ∙ ap (λ l. l ++ fill_added options (without_cells o)) (is_c ∙ ap (λ l. l ++ dtype_added o.kind) coded))
    ∙ append_assoc ((mine ++ o.coding) ++ dtype_added o.kind) (fill_added options (without_cells o)) (coordinates_added o.lists) ∙ append_assoc (mine ++ o.coding) (dtype_added o.kind) more ∙ append_assoc mine o.coding (dtype_added o.kind ++ more)

-- A file that bytes spell is readable.
use Rattle.std.proofs.Common.{◌≡◌, ◌*◌, ◌/◌, ◌<◌, ℕ, zero, suc, true, false, List, [], ◌∷◌, ◌++◌, length, drop, map, refl, sym, ap, subst, ◌∙◌, arith, Ok}
use Rattle.std.specs.Prelude.{◌||◌, ◌==◌, not, nat_lt, All}
use Rattle.std.specs.Str.{bytes_eq}
use Rattle.std.specs.List.{list_all, AllByRecursion}
use Rattle.std.proofs.lemmas.Bool.{and_parts, and_from, or_parts, or_from, not-true, not_from_false, ltb-true}
use Rattle.std.proofs.Math.Dec.{eqb-suc-zero}
use Rattle.std.proofs.lemmas.List.{map-append}
use Rattle.std.proofs.lemmas.List.Elements.{All-nil, All-push, All-cons, All-head, All-tail, recursion_from_All}
use Rattle.std.proofs.lemmas.Slice.Eq.{bytes_eq-Decides}
use Rattle.std.proofs.lemmas.Bool.Decides.{same_from_decides}
use Rattle.xr_types.specs.declared.attr.Attr.{Attr}
use Rattle.xr_types.specs.declared.attr.NcType.{NcType}
use Rattle.xr_types.specs.declared.attr.NcType.TheVariants.{Byte, Char, Short, Int, Float, Double, UByte, UShort, UInt, Int64, UInt64}
use Rattle.xr_files.specs.declared.file.CdfDim.{CdfDim}
use Rattle.xr_files.specs.declared.file.CdfFile.{CdfFile}
use Rattle.xr_files.specs.declared.file.VarHead.{VarHead}
use Rattle.xr_files.specs.Format.{Format, each}
use Rattle.xr_types.specs.Names.{among}
use Rattle.xr_types.specs.Widths.{width}
use Rattle.xr_files.specs.Classic.{Header, header, list, name, new_name, dimension, attribute, values, dim_number, var_head, variable, is_record_dim, dim_at, dim_names, attr_names, var_names, is_name}
use Rattle.xr_types.specs.Names.{are_distinct}
use Rattle.xr_files.specs.Canonical as canonical
use Rattle.xr_types.specs.Points.{size}
use Rattle.xr_files.specs.Files.{shape_of, file_in, file_of, var_of, is_inside, all_inside, records_of, Spells}
use Rattle.xr_files.proofs.FileLaws.{given_is_spelled}
use Rattle.xr_files.proofs.FormatLaws.{IsBytes}
use Rattle.xr_defs.specs.WellFormed.{IsAttribute, AreAttributes}
use Rattle.xr_decode.specs.Readable.{IsReadable, IsReadableVar}
use Rattle.xr_decode.specs.Readable as readable
use Rattle.xr_decode.proofs.Lengths.{AreIds, values_whole}

-- ---- lists

-- what holds of no entries and is kept by each more holds of all
each_keeps : {A : Type 0} (P : List A → Type 0) (f : List A → Format A) → ((seen : List A) (a : A) (t : List ℕ) → P seen → (f seen).spells a t → P (seen ++ a ∷ [])) → (n : ℕ) (seen xs : List A) (t : List ℕ) → P seen → (each n f seen).spells xs t → P xs
unfolding each
each_keeps P f step zero seen xs t so s = subst P (sym s.0) so
each_keeps P f step (suc n) seen xs t so s = each_keeps P f step n (seen ++ s.0 ∷ []) xs s.2 (step seen s.0 s.1 so s.4) s.5

list_keeps : {A : Type 0} (P : List A → Type 0) (version tag : ℕ) (f : List A → Format A) → ((seen : List A) (a : A) (t : List ℕ) → P seen → (f seen).spells a t → P (seen ++ a ∷ [])) → (xs : List A) (t : List ℕ) → P [] → (list version tag f).spells xs t → P xs
unfolding list
list_keeps P version tag f step xs t so s =
    let inner = s.5 in
    each_keeps P f step inner.0 [] xs inner.2 so inner.5

-- ---- names

new_is_name : (version : ℕ) (names : List (List ℕ)) (text t : List ℕ) → (new_name version names).spells text t → (is_name text ≡ true) × (among names text ≡ false)
unfolding new_name name
new_is_name version names text t s = (s.0.1, not-true (among names text) s.1)

swap : (a b : List ℕ) → bytes_eq a b ≡ bytes_eq b a
swap a b = same_from_decides (bytes_eq a b) (bytes_eq b a) (bytes_eq-Decides a b) ((λ e. sym ((bytes_eq-Decides b a).0 e)), (λ e. (bytes_eq-Decides b a).1 (sym e)))

among_push : (names : List (List ℕ)) (n m : List ℕ) → among names m ≡ false → bytes_eq m n ≡ false → among (names ++ n ∷ []) m ≡ false
among_push [] n m e other = or_from (bytes_eq m n) false other refl
among_push (k ∷ names) n m e other =
    let parts = or_parts (bytes_eq m k) (among names m) e in or_from (bytes_eq m k) (among (names ++ n ∷ []) m) parts.0 (among_push names n m parts.1 other)

-- one more name that is new
distinct_push : (names : List (List ℕ)) (n : List ℕ) → are_distinct names ≡ true → among names n ≡ false → are_distinct (names ++ n ∷ []) ≡ true
distinct_push [] n e new = refl
distinct_push (k ∷ names) n e new =
    let parts = and_parts (not (among names k)) (are_distinct names) e in
    let apart = or_parts (bytes_eq n k) (among names n) new in
    and_from (not (among (names ++ n ∷ []) k)) (are_distinct (names ++ n ∷ []))
    (not_from_false (among (names ++ n ∷ []) k) (among_push names n k (not-true (among names k) parts.0) (swap k n ∙ apart.0))) (distinct_push names n parts.1 apart.1)

-- entries of different names, and one more
named_more : {A : Type 0} (name_of : A → List ℕ) (seen : List A) (a : A) → are_distinct (map name_of seen) ≡ true → among (map name_of seen) (name_of a) ≡ false → are_distinct (map name_of (seen ++ a ∷ [])) ≡ true
named_more name_of seen a e new = ap are_distinct (map-append name_of seen (a ∷ [])) ∙ distinct_push (map name_of seen) (name_of a) e new

-- ---- dimensions

record AreDims (dims : List CdfDim) : Type 0 where
  pub named : All (λ (d : CdfDim). is_name d.name ≡ true) dims
  pub distinct : are_distinct (dim_names dims) ≡ true

dims_more : (version : ℕ) (seen : List CdfDim) (d : CdfDim) (t : List ℕ) → AreDims seen → (dimension version seen).spells d t → AreDims (seen ++ d ∷ [])
unfolding dimension
dims_more version seen d t so s =
    let text : List ℕ = s.0 in
    let n = new_is_name version (dim_names seen) text s.1 s.4 in
    let same : text ≡ d.name = ap (λ (e : CdfDim). e.name) s.5.1 in
    record {
      named = All-push (λ (e : CdfDim). is_name e.name ≡ true) seen d so.named (subst (λ u. is_name u ≡ true) same n.0);
      distinct = named_more (λ (e : CdfDim). e.name) seen d so.distinct (subst (λ u. among (dim_names seen) u ≡ false) same n.1);
    }

-- ---- attributes

whole_by : (kind : NcType) (k n : ℕ) → k ≡ n * width kind → k ≡ (k / width kind) * width kind
whole_by Byte k n e = omega arith
whole_by Char k n e = omega arith
whole_by Short k n e = omega arith
whole_by Int k n e = omega arith
whole_by Float k n e = omega arith
whole_by Double k n e = omega arith
whole_by UByte k n e = omega arith
whole_by UShort k n e = omega arith
whole_by UInt k n e = omega arith
whole_by Int64 k n e = omega arith
whole_by UInt64 k n e = omega arith

record AreAttrs (attrs : List Attr) : Type 0 where
  pub each_of : All IsAttribute attrs
  pub distinct : are_distinct (attr_names attrs) ≡ true

attribute_is : (version : ℕ) (text : List ℕ) (a : Attr) (t : List ℕ) → is_name text ≡ true → (values version text).spells a t → IsAttribute a × (text ≡ a.name)
unfolding values
attribute_is version text a t named s =
    let kind : NcType = s.0 in
    let counted = s.5 in
    let n : ℕ = counted.0 in
    let with_raw = counted.5 in
    let raw : List ℕ = with_raw.0 in
    let long : length raw ≡ n * width kind = with_raw.4.0 in
    let is : record { name = text; kind = kind; raw = raw } ≡ a = with_raw.5.1 in
    (subst IsAttribute is (record { name = named; whole = whole_by kind (length raw) n long }), ap (λ (b : Attr). b.name) is)

attrs_more : (version : ℕ) (seen : List Attr) (a : Attr) (t : List ℕ) → AreAttrs seen → (attribute version seen).spells a t → AreAttrs (seen ++ a ∷ [])
unfolding attribute
attrs_more version seen a t so s =
    let text : List ℕ = s.0 in
    let n = new_is_name version (attr_names seen) text s.1 s.4 in
    let is = attribute_is version text a s.2 n.0 s.5 in
    record {
      each_of = All-push IsAttribute seen a so.each_of is.0;
      distinct = named_more (λ (b : Attr). b.name) seen a so.distinct (subst (λ u. among (attr_names seen) u ≡ false) is.1 n.1);
    }

attributes_are : (version : ℕ) (attrs : List Attr) (t : List ℕ) → (list version 12 (attribute version)).spells attrs t → AreAttributes attrs
attributes_are version attrs t s =
    let are = list_keeps AreAttrs version 12 (attribute version) (attrs_more version) attrs t (record { each_of = All-nil IsAttribute; distinct = refl }) s in
    record { each = recursion_from_All IsAttribute attrs are.each_of; distinct = are.distinct }

-- ---- the dimensions of a variable

behind : (dims : List CdfDim) (seen : List ℕ) (i : ℕ) → All (λ j. is_record_dim (dim_at dims j) ≡ false) (drop 1 seen) → (length seen == 0 || not (is_record_dim (dim_at dims i))) ≡ true → All (λ j. is_record_dim (dim_at dims j) ≡ false) (drop 1 (seen ++ i ∷ []))
behind dims [] i so e = All-nil (λ j. is_record_dim (dim_at dims j) ≡ false)
behind dims (j ∷ seen) i so e =
    let z : (length (j ∷ seen) == 0) ≡ false = eqb-suc-zero (length seen) in
    let f : (false || not (is_record_dim (dim_at dims i))) ≡ true = rw z at e in
    All-push (λ j. is_record_dim (dim_at dims j) ≡ false) seen i so (not-true (is_record_dim (dim_at dims i)) f)

ids_more : (version : ℕ) (dims : List CdfDim) (seen : List ℕ) (i : ℕ) (t : List ℕ) → AreIds dims seen → (dim_number version dims seen).spells i t → AreIds dims (seen ++ i ∷ [])
unfolding dim_number
ids_more version dims seen i t so s =
    let parts = and_parts (nat_lt i (length dims)) _ s.1 in
    record {
      below = All-push (λ j. j < length dims) seen i so.below (ltb-true i (length dims) parts.0);
      fixed = behind dims seen i so.fixed parts.1;
    }

no_ids : (dims : List CdfDim) → AreIds dims []
no_ids dims = record { below = All-nil (λ i. i < length dims); fixed = All-nil (λ i. is_record_dim (dim_at dims i) ≡ false) }

-- ---- variables

record IsHead (dims : List CdfDim) (v : VarHead) : Type 0 where
  pub named : is_name v.name ≡ true
  pub ids : AreIds dims v.dims
  pub attrs : AreAttributes v.attrs

record AreHeads (dims : List CdfDim) (vs : List VarHead) : Type 0 where
  pub each_of : All (IsHead dims) vs
  pub distinct : are_distinct (var_names vs) ≡ true

head_is : (version : ℕ) (dims : List CdfDim) (text : List ℕ) (v : VarHead) (t : List ℕ) → is_name text ≡ true → (var_head version dims text).spells v t → IsHead dims v × (text ≡ v.name)
unfolding var_head
head_is version dims text v t named s =
    let ranked = s.5 in
    let ids : List ℕ = ranked.0 in
    let are : AreIds dims ids = each_keeps (AreIds dims) (dim_number version dims) (ids_more version dims) s.0 [] ids ranked.1 (no_ids dims) ranked.4 in
    let with_attrs = ranked.5 in
    let attrs : AreAttributes with_attrs.0 = attributes_are version with_attrs.0 with_attrs.1 with_attrs.4 in
    let with_kind = with_attrs.5 in
    let with_size = with_kind.5 in
    let placed = with_size.5 in
    let is : record { name = text; dims = ids; attrs = with_attrs.0; kind = with_kind.0; begin = placed.0 } ≡ v = placed.1 in
    (subst (IsHead dims) is (record { named = named; ids = are; attrs = attrs }), ap (λ (w : VarHead). w.name) is)

vars_more : (version : ℕ) (dims : List CdfDim) (seen : List VarHead) (v : VarHead) (t : List ℕ) → AreHeads dims seen → (variable version dims seen).spells v t → AreHeads dims (seen ++ v ∷ [])
unfolding variable
vars_more version dims seen v t so s =
    let n = new_is_name version (var_names seen) s.0 s.1 s.4 in
    let is = head_is version dims s.0 v s.2 n.0 s.5 in
    record {
      each_of = All-push (IsHead dims) seen v so.each_of is.0;
      distinct = named_more (λ (w : VarHead). w.name) seen v so.distinct (subst (λ u. among (var_names seen) u ≡ false) is.1 n.1);
    }

-- ---- the header

record IsSound (h : Header) : Type 0 where
  pub dims : AreDims h.dims
  pub attrs : AreAttributes h.attrs
  pub vars : AreHeads h.dims h.vars

spelled_is_sound : (version : ℕ) (h : Header) (t : List ℕ) → (header version).spells h t → IsSound h
unfolding header
spelled_is_sound version h t s =
    let with_dims = s.5 in
    let dims : List CdfDim = with_dims.0 in
    let are : AreDims dims = list_keeps AreDims version 10 (dimension version) (dims_more version) dims with_dims.1 (record { named = All-nil (λ (d : CdfDim). is_name d.name ≡ true); distinct = refl }) with_dims.4 in
    let with_attrs = with_dims.5 in
    let attrs : AreAttributes with_attrs.0 = attributes_are version with_attrs.0 with_attrs.1 with_attrs.4 in
    let last = with_attrs.5 in
    let vars : List VarHead = last.0 in
    let heads : AreHeads dims vars = list_keeps (AreHeads dims) version 11 (variable version dims) (vars_more version dims) vars with_attrs.2 (record { each_of = All-nil (IsHead dims); distinct = refl }) last.2 in
    let is : record { numrecs = s.0; dims = dims; attrs = with_attrs.0; vars = vars } ≡ h = last.1 in
    subst IsSound is (record { dims = are; attrs = attrs; vars = heads })

-- ---- the file

vars_readable : (f : CdfFile) (bytes : List ℕ) (h : Header) (r : ℕ) (vs : List VarHead) → f.dims ≡ h.dims → f.numrecs ≡ r → All (IsHead h.dims) vs → list_all (is_inside h r (length bytes)) vs ≡ true → All (IsReadableVar f) (map (var_of bytes h r) vs)
vars_readable f bytes h r [] dims records all inside = All-nil (IsReadableVar f)
vars_readable f bytes h r (v ∷ vs) dims records all inside =
    let head = All-head (IsHead h.dims) v vs all in
    let parts = and_parts (is_inside h r (length bytes) v) (list_all (is_inside h r (length bytes)) vs) inside in
    All-cons (IsReadableVar f) (var_of bytes h r v) (map (var_of bytes h r) vs)
    (record {
      name = head.named;
      below = subst (λ (ds : List CdfDim). All (λ i. i < length ds) v.dims) (sym dims) head.ids.below;
      attrs = head.attrs;
      whole = λ e. values_whole bytes h r v head.ids parts.0
          ∙ ap (λ (ds : List CdfDim). size (shape_of ds r v.dims) * width v.kind) (sym dims) ∙ ap (λ n. size (shape_of f.dims n v.dims) * width v.kind) (sym records);
    })
    (vars_readable f bytes h r vs dims records (All-tail (IsHead h.dims) v vs all) parts.1)

names_of : (bytes : List ℕ) (h : Header) (r : ℕ) (vs : List VarHead) → readable.var_names (map (var_of bytes h r) vs) ≡ var_names vs
names_of bytes h r [] = refl
names_of bytes h r (v ∷ vs) = ap (λ ns. v.name ∷ ns) (names_of bytes h r vs)

sound_is_readable : (version : ℕ) (bytes : List ℕ) (h : Header) → IsSound h → all_inside h (length bytes) ≡ true → IsReadable (file_of version bytes h)
sound_is_readable version bytes h s inside =
    record {
      dims = s.dims.named;
      dims_distinct = s.dims.distinct;
      attrs = s.attrs;
      vars = vars_readable (file_of version bytes h) bytes h (records_of h (length bytes)) h.vars refl refl s.vars.each_of inside;
      vars_distinct = ap are_distinct (names_of bytes h (records_of h (length bytes)) h.vars) ∙ s.vars.distinct;
    }

pub spelled_readable : (bytes : List ℕ) (f : CdfFile) → Spells bytes f → IsReadable f
spelled_readable bytes f s =
    subst IsReadable (sym s.file) (sound_is_readable f.version bytes s.head (spelled_is_sound f.version s.head s.text s.spelled) s.inside)

pub spelled_is_readable : (bytes : List ℕ) (f : CdfFile) → IsBytes bytes → file_in bytes ≡ Ok f → IsReadable f
spelled_is_readable bytes f fits e = spelled_readable bytes f (given_is_spelled bytes f fits e)

-- ---- a file whose parts fit together

attrs_fit : (version : ℕ) (attrs : List Attr) → canonical.AreAttrs version attrs → AreAttributes attrs
attrs_fit version attrs a = record { each = by attrs a.each; distinct = a.distinct }
  where
    by : (xs : List Attr) → AllByRecursion (canonical.IsAttr version) xs → AllByRecursion IsAttribute xs
    by [] h = tt
    by (x ∷ xs) h = (record { name = h.0.name.name; whole = h.0.whole }, by xs h.1)

all_of : {X : Type 0} (P Q : X → Type 0) (xs : List X) → ((x : X) → P x → Q x) → AllByRecursion P xs → All Q xs
all_of P Q [] g h = All-nil Q
all_of P Q (x ∷ xs) g h = All-cons Q x xs (g x h.0) (all_of P Q xs g h.1)

pub file_readable : (f : CdfFile) → canonical.IsFile f → IsReadable f
file_readable f is =
    record {
      dims = all_of (canonical.IsDim f.version) (λ (d : CdfDim). is_name d.name ≡ true) f.dims (λ d h. h.name.name) is.dims;
      dims_distinct = is.dims_distinct;
      attrs = attrs_fit f.version f.attrs is.attrs;
      vars = all_of (canonical.IsVar f) (IsReadableVar f) f.vars (λ v h. record {
        name = h.name.name;
        below = all_of (λ i. i < length f.dims) (λ i. i < length f.dims) v.dims (λ i h. h) h.dims;
        attrs = attrs_fit f.version v.attrs h.attrs;
        whole = λ e. h.raw;
      }) is.vars;
      vars_distinct = is.vars_distinct;
    }

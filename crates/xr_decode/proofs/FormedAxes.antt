-- The index of a dimension has a label for each position, and its labels are as they have to be.
use Rattle.std.proofs.Common.{◌≡◌, ◌*◌, ℕ, Bool, true, false, cond, ◌&&◌, List, [], ◌∷◌, length, map, Option, Some, None, option_map, refl, sym, ap, subst, ◌∙◌, arith}
use Rattle.std.specs.Prelude.{◌==◌, ℤ, unwrap_or, codes}
use Rattle.std.specs.Str.{bytes_eq}
use Rattle.std.specs.List.{range_with_len}
use Rattle.std.proofs.lemmas.Bool.{and_parts, eqb-true}
use Rattle.std.proofs.lemmas.List.FromFn.{length-map-range_with_len}
use Rattle.xr_types.specs.declared.attr.NcType.{NcType}
use Rattle.xr_types.specs.declared.attr.NcType.TheVariants.{Byte, Char, Short, Int, Float, Double, UByte, UShort, UInt, Int64, UInt64}
use Rattle.xr_types.specs.declared.attr.Attr.{Attr}
use Rattle.xr_types.specs.declared.axis.LabelList.{LabelList}
use Rattle.xr_types.specs.declared.axis.LabelList.TheVariants.{Numbers, Times, Texts}
use Rattle.xr_types.specs.declared.axis.TimeCoding.{TimeCoding}
use Rattle.xr_files.specs.declared.file.CdfVar.{CdfVar}
use Rattle.xr_files.specs.declared.file.CdfFile.{CdfFile}
use Rattle.xr_times.specs.Times.{decoded}
use Rattle.xr_defs.specs.Building.{is_integer_kind}
use Rattle.xr_files.specs.Classic.{dim_at}
use Rattle.xr_files.specs.Files.{positions}
use Rattle.xr_types.specs.Points.{size}
use Rattle.xr_arrays.specs.Numbers.{cells_kind, numbers_of, is_whole}
use Rattle.xr_defs.specs.Values.{label_count}
use Rattle.xr_defs.specs.Decoding.{is_integer, is_char, all_there, text_in, row, rows_of, var_shape, is_named_as_first, coding_of, times_counted, times_of, numbers_or_times, number_labels, text_labels, or_else, labels_in, unlisted, uncoded, without_text_attr}
use Rattle.stored_cells.proofs.Lengths.{numbers-length}
use Rattle.xr_defs.specs.WellFormed.{IsIndex, AreAttributes, AreLabels}
use Rattle.xr_decode.specs.Readable.{IsReadableVar}
use Rattle.xr_decode.specs.Stored.{AreBytes}
use Rattle.xr_decode.proofs.Counted.{are_times, there-length, times-length}
use Rattle.xr_decode.proofs.FormedCells.{without_formed}
use Rattle.xr_decode.proofs.Members.{bytes_same}
use Rattle.xr_decode.proofs.Ranges.{numbers_fit}

-- ---- the first dimension

-- what a variable that is named as its first dimension has
pub record HasFirst (f : CdfFile) (v : CdfVar) : Type 0 where
  pub first : ℕ
  pub others : List ℕ
  pub dims : v.dims ≡ first ∷ others
  pub named : (dim_at f.dims first).name ≡ v.name

first_by : (f : CdfFile) (name : List ℕ) (ids : List ℕ) → elim (map (λ i. (dim_at f.dims i).name) ids) [ [] ↦ false | d ∷ ds ↦ bytes_eq d name ] ≡ true → (i : ℕ) × (rest : List ℕ) × (ids ≡ i ∷ rest) × ((dim_at f.dims i).name ≡ name)
first_by f name [] e = absurd cc
first_by f name (i ∷ ids) e = (i, ids, refl, bytes_same (dim_at f.dims i).name name e)

first_of : (f : CdfFile) (v : CdfVar) → is_named_as_first f v ≡ true → HasFirst f v
first_of f v e = let w = first_by f v.name v.dims e in record { first = w.0; others = w.1; dims = w.2; named = w.3 }

-- ---- labels

integer_kind : (kind : NcType) → is_integer kind ≡ true → (is_integer_kind (cells_kind kind) ≡ true) × (is_whole kind ≡ true)
integer_kind Byte e = (refl, refl)
integer_kind Char e = absurd cc
integer_kind Short e = (refl, refl)
integer_kind Int e = (refl, refl)
integer_kind Float e = absurd cc
integer_kind Double e = absurd cc
integer_kind UByte e = (refl, refl)
integer_kind UShort e = (refl, refl)
integer_kind UInt e = (refl, refl)
integer_kind Int64 e = (refl, refl)
integer_kind UInt64 e = (refl, refl)

-- labels of a variable, over a dimension of so many positions
pub record AreLabelsOf (f : CdfFile) (v : CdfVar) (l : LabelList) : Type 0 where
  pub first : HasFirst f v
  pub count : label_count l ≡ positions f.numrecs (dim_at f.dims first.first)
  pub range : AreLabels l

alone : (i : ℕ) (rest : List ℕ) → length (i ∷ rest) ≡ 1 → rest ≡ []
alone i [] e = refl
alone i (j ∷ rest) e = absurd (omega arith)

-- labels of a variable of one dimension: as many as its numbers
one_formed : (f : CdfFile) (v : CdfVar) (l : LabelList) → HasFirst f v → IsReadableVar f v → is_whole v.kind ≡ true → (length v.dims == 1) ≡ true → label_count l ≡ length (numbers_of v.kind v.raw) → AreLabels l → AreLabelsOf f v l
one_formed f v l h r whole one count range =
    let single : h.others ≡ [] = alone h.first h.others (ap length (sym h.dims) ∙ eqb-true (length v.dims) 1 one) in
    let size_is : length (numbers_of v.kind v.raw) ≡ positions f.numrecs (dim_at f.dims h.first) * 1 =
    numbers-length v.kind v.raw (size (var_shape f v)) whole (r.whole whole) ∙ ap (λ ids. size (map (λ i. positions f.numrecs (dim_at f.dims i)) ids)) (h.dims ∙ ap (λ ids. h.first ∷ ids) single) in
    record { first = h; count = count ∙ size_is ∙ omega arith; range = range }

-- its numbers, or the times for which they stand
numbers_formed : (f : CdfFile) (v : CdfVar) → HasFirst f v → IsReadableVar f v → AreBytes v.raw → is_integer v.kind ≡ true → (length v.dims == 1) ≡ true → AreLabelsOf f v (numbers_or_times v (numbers_of v.kind v.raw))
unfolding times_of times_counted
numbers_formed f v h r bytes integer one = by (times_of v.attrs ns) refl
  where
    ns : List ℤ
    ns = numbers_of v.kind v.raw

    whole : is_whole v.kind ≡ true
    whole = (integer_kind v.kind integer).1

    counted : (coding : TimeCoding) (o : Option (List ℤ)) (l : LabelList) → all_there (map (decoded coding.units) ns) ≡ o → option_map (Times coding) o ≡ Some l → AreLabelsOf f v l
    counted coding None l are e = absurd cc
    counted coding (Some ts) l are e =
        let same : Times coding ts ≡ l = cc in
        subst (AreLabelsOf f v) same (one_formed f v (Times coding ts) h r whole one (times-length coding.units ns ts are) (are_times coding.units ns ts are))

    coded : (o : Option TimeCoding) (l : LabelList) → elim o [ None ↦ None | Some coding ↦ times_counted coding ns ] ≡ Some l → AreLabelsOf f v l
    coded None l e = absurd cc
    coded (Some coding) l e = counted coding (all_there (map (decoded coding.units) ns)) l refl e

    by : (o : Option LabelList) → times_of v.attrs ns ≡ o → AreLabelsOf f v (unwrap_or o (Numbers (cells_kind v.kind) ns))
    by None e = one_formed f v (Numbers (cells_kind v.kind) ns) h r whole one refl ((integer_kind v.kind integer).0, numbers_fit v.kind v.raw whole bytes)
    by (Some l) e = coded (coding_of v.attrs) l e

rows_count : (shape raw : List ℕ) (n : ℕ) (rest : List ℕ) (texts : List (List ℕ)) → shape ≡ n ∷ rest → rows_of shape raw ≡ Some texts → length texts ≡ n
rows_count [] raw n rest texts is e = absurd cc
rows_count (k ∷ []) raw n rest texts is e = absurd cc
rows_count (k ∷ w ∷ []) raw n rest texts is e =
    let same : k ≡ n = cc in
    there-length (map (λ i. text_in (row w raw i)) (range_with_len 0 k)) texts e ∙ length-map-range_with_len (λ i. text_in (row w raw i)) 0 k ∙ same
rows_count (k ∷ w ∷ u ∷ more) raw n rest texts is e = absurd cc

texts_formed : (f : CdfFile) (v : CdfVar) (texts : List (List ℕ)) → HasFirst f v → rows_of (var_shape f v) v.raw ≡ Some texts → AreLabelsOf f v (Texts texts)
texts_formed f v texts h e =
    record {
      first = h;
      count = rows_count (var_shape f v) v.raw (positions f.numrecs (dim_at f.dims h.first)) _ texts (ap (map (λ i. positions f.numrecs (dim_at f.dims i))) h.dims) e;
      range = tt;
    }

labels_by : (f : CdfFile) (v : CdfVar) (l : LabelList) → HasFirst f v → IsReadableVar f v → AreBytes v.raw → or_else (number_labels v) (text_labels f v) ≡ Some l → AreLabelsOf f v l
labels_by f v l h r bytes e = numbers (is_integer v.kind && length v.dims == 1) refl e
  where
    from_rows : (o : Option (List (List ℕ))) → rows_of (var_shape f v) v.raw ≡ o → option_map Texts o ≡ Some l → AreLabelsOf f v l
    from_rows None is e = absurd cc
    from_rows (Some texts) is e = let same : Texts texts ≡ l = cc in subst (AreLabelsOf f v) same (texts_formed f v texts h is)

    texts : (b : Bool) → cond b (option_map Texts (rows_of (var_shape f v) v.raw)) None ≡ Some l → AreLabelsOf f v l
    texts true e = from_rows (rows_of (var_shape f v) v.raw) refl e
    texts false e = absurd cc

    numbers : (b : Bool) → (is_integer v.kind && length v.dims == 1) ≡ b → or_else (cond b (Some (numbers_or_times v (numbers_of v.kind v.raw))) None) (text_labels f v) ≡ Some l → AreLabelsOf f v l
    numbers true is e =
        let parts = and_parts (is_integer v.kind) (length v.dims == 1) is in
        let same : numbers_or_times v (numbers_of v.kind v.raw) ≡ l = cc in
        subst (AreLabelsOf f v) same (numbers_formed f v h r bytes parts.0 parts.1)
    numbers false is e = texts (is_char v.kind) e

pub labels_formed : (f : CdfFile) (v : CdfVar) (l : LabelList) → IsReadableVar f v → AreBytes v.raw → labels_in f v ≡ Some l → AreLabelsOf f v l
unfolding labels_in
labels_formed f v l r bytes e = by (is_named_as_first f v) refl e
  where
    by : (b : Bool) → is_named_as_first f v ≡ b → cond b (or_else (number_labels v) (text_labels f v)) None ≡ Some l → AreLabelsOf f v l
    by true is e = labels_by f v l (first_of f v is) r bytes e
    by false is e = absurd cc

uncoded_formed : (l : LabelList) (attrs : List Attr) → AreAttributes attrs → AreAttributes (uncoded l attrs)
uncoded_formed (Times coding ts) attrs are = without_formed _ (without_text_attr (codes "units") attrs) (without_formed _ attrs are)
uncoded_formed (Numbers kind ns) attrs are = are
uncoded_formed (Texts ts) attrs are = are

pub index_formed : (f : CdfFile) (v : CdfVar) (l : LabelList) (n : ℕ) → IsReadableVar f v → AreLabelsOf f v l → label_count l ≡ n → IsIndex n (record { list = l; attrs = uncoded l (unlisted v.attrs) })
index_formed f v l n r are count = record { whole = count; range = are.range; attrs = uncoded_formed l (unlisted v.attrs) (without_formed _ v.attrs r.attrs) }

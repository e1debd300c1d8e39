-- The label at a position, by the list's kind.
use Rattle.std.proofs.Common.{◌≡◌, ◌<◌, ℕ, ℤ, pos, List, length, get_or, ap, subst, ◌∙◌, [], arith, refl}
use Rattle.std.proofs.lemmas.List.{get_or-map, length-map}
use Rattle.xr_types.specs.declared.axis.Label.TheVariants.{Int, Time, Text}
use Rattle.xr_types.specs.declared.axis.LabelList.{LabelList}
use Rattle.xr_types.specs.declared.axis.LabelList.TheVariants.{Numbers, Times, Texts}
use Rattle.xr_types.specs.declared.axis.TimeCoding.{TimeCoding}
use Rattle.xr_types.specs.declared.kind.DType.{DType}
use Rattle.xr_arrays.specs.Labels.{labels_of, label_at, order}
use Rattle.std.specs.Ordering.{is_lt, int_cmp, nat_cmp}
use Rattle.std.specs.Cmp.Lexicographic.{slice_cmp}

pub numbers_at : (list : LabelList) (kind : DType) (xs : List ℤ) (p : ℕ) (d : ℤ) → list ≡ Numbers kind xs → p < length (labels_of list) → label_at (labels_of list) p ≡ Int (get_or xs p d)
numbers_at list kind xs p d e h =
    let short : p < length xs = omega (arith, simp length-map at (subst (λ l. p < length (labels_of l)) e h)) in
    ap (λ l. label_at (labels_of l) p) e ∙ get_or-map Int xs p d _ short

pub times_at : (list : LabelList) (coding : TimeCoding) (xs : List ℤ) (p : ℕ) (d : ℤ) → list ≡ Times coding xs → p < length (labels_of list) → label_at (labels_of list) p ≡ Time (get_or xs p d)
times_at list coding xs p d e h =
    let short : p < length xs = omega (arith, simp length-map at (subst (λ l. p < length (labels_of l)) e h)) in
    ap (λ l. label_at (labels_of l) p) e ∙ get_or-map Time xs p d _ short

pub texts_at : (list : LabelList) (xs : List (List ℕ)) (p : ℕ) (d : List ℕ) → list ≡ Texts xs → p < length (labels_of list) → label_at (labels_of list) p ≡ Text (get_or xs p d)
texts_at list xs p d e h =
    let short : p < length xs = omega (arith, simp length-map at (subst (λ l. p < length (labels_of l)) e h)) in
    ap (λ l. label_at (labels_of l) p) e ∙ get_or-map Text xs p d _ short

pub numbers_by : (list : LabelList) (kind : DType) (xs : List ℤ) → list ≡ Numbers kind xs → (p q : ℕ) → p < length (labels_of list) → q < length (labels_of list) → is_lt (order (label_at (labels_of list) p) (label_at (labels_of list) q)) ≡ is_lt (int_cmp (get_or xs p (pos 0)) (get_or xs q (pos 0)))
numbers_by list kind xs e p q s t = rw (numbers_at list kind xs p (pos 0) e s, numbers_at list kind xs q (pos 0) e t) refl

pub times_by : (list : LabelList) (coding : TimeCoding) (xs : List ℤ) → list ≡ Times coding xs → (p q : ℕ) → p < length (labels_of list) → q < length (labels_of list) → is_lt (order (label_at (labels_of list) p) (label_at (labels_of list) q)) ≡ is_lt (int_cmp (get_or xs p (pos 0)) (get_or xs q (pos 0)))
times_by list coding xs e p q s t = rw (times_at list coding xs p (pos 0) e s, times_at list coding xs q (pos 0) e t) refl

pub texts_by : (list : LabelList) (xs : List (List ℕ)) → list ≡ Texts xs → (p q : ℕ) → p < length (labels_of list) → q < length (labels_of list) → is_lt (order (label_at (labels_of list) p) (label_at (labels_of list) q)) ≡ is_lt (slice_cmp nat_cmp (get_or xs p []) (get_or xs q []))
texts_by list xs e p q s t = rw (texts_at list xs p [] e s, texts_at list xs q [] e t) refl

-- A label that is found where none stands twice is the one.
use Rattle.std.proofs.Common.{◌≡◌, ℕ, ℤ, pos, ◌<◌, true, false, List, length, get_or, Ok, sym, subst, ◌∙◌, ap, arith}
use Rattle.std.specs.Ordering.{is_eq}
use Rattle.std.proofs.lemmas.Cmp.{tied_itself}
use Rattle.std.proofs.lemmas.List.{length-map}
use Rattle.xr_types.specs.declared.axis.Label.{Label}
use Rattle.xr_types.specs.declared.axis.Label.TheVariants.{Int, Time}
use Rattle.xr_types.specs.declared.axis.LabelList.{LabelList}
use Rattle.xr_types.specs.declared.axis.LabelList.TheVariants.{Numbers, Times}
use Rattle.xr_types.specs.declared.axis.TimeCoding.{TimeCoding}
use Rattle.xr_types.specs.declared.kind.DType.{DType}
use Rattle.xr_arrays.specs.Labels.{labels_of, label_at, same, repeats, place, sole}
use Rattle.xr_arrays.proofs.LabelLaws.{order_total, at_most-trans}
use Rattle.xr_arrays.proofs.LabelPlaces.{positions_one, repeats_two}
use Rattle.label_index.proofs.Finding.{is_false, same_both, same_most, same_least}
use Rattle.label_index.proofs.Rows.{numbers_at, times_at}

same_itself : (x : Label) → same x x ≡ true
same_itself x = ap is_eq (tied_itself order_total x)

pub same_number : (list : LabelList) (kind : DType) (xs : List ℤ) (p : ℕ) (n : ℤ) → list ≡ Numbers kind xs → p < length xs → get_or xs p (pos 0) ≡ n → (p < length (labels_of list)) × (same (label_at (labels_of list) p) (Int n) ≡ true)
same_number list kind xs p n e s h =
    let short : p < length (labels_of (Numbers kind xs)) = omega (arith, length-map xs Int, s) in
    let within : p < length (labels_of list) = subst (λ l. p < length (labels_of l)) (sym e) short in
    (within, ap (λ x. same x (Int n)) (numbers_at list kind xs p (pos 0) e within ∙ ap Int h) ∙ same_itself (Int n))

pub same_time : (list : LabelList) (coding : TimeCoding) (xs : List ℤ) (p : ℕ) (n : ℤ) → list ≡ Times coding xs → p < length xs → get_or xs p (pos 0) ≡ n → (p < length (labels_of list)) × (same (label_at (labels_of list) p) (Time n) ≡ true)
same_time list coding xs p n e s h =
    let short : p < length (labels_of (Times coding xs)) = omega (arith, length-map xs Time, s) in
    let within : p < length (labels_of list) = subst (λ l. p < length (labels_of l)) (sym e) short in
    (within, ap (λ x. same x (Time n)) (times_at list coding xs p (pos 0) e within ∙ ap Time h) ∙ same_itself (Time n))

same_join : (x y label : Label) → same x label ≡ true → same y label ≡ true → same x y ≡ true
same_join x y label e f = same_both x y
    (at_most-trans x label y (same_most x label e) (same_least y label f))
    (at_most-trans y label x (same_most y label f) (same_least x label e))

pub unique_place : (xs : List Label) (label : Label) (p : ℕ) → repeats xs ≡ false → p < length xs → same (label_at xs p) label ≡ true → place xs label ≡ Ok p
unique_place xs label p once s here = ap sole (positions_one (λ x. same x label) xs p s here
    (λ q up. is_false (same (label_at xs q) label) (λ e. sym (repeats_two xs q p up s (same_join (label_at xs q) (label_at xs p) label e here)) ∙ once))
    (λ q up t. is_false (same (label_at xs q) label) (λ e. sym (repeats_two xs p q up t (same_join (label_at xs p) (label_at xs q) label here e)) ∙ once)))

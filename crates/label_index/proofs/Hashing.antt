-- What slots that find each number say of the positions that hold a label.
use Rattle.std.proofs.Common.{◌≡◌, ℕ, ℤ, pos, ◌<◌, ◌%◌, ◌^◌, ◌==◌, ◌&&◌, nat_lt, Bool, true, false, not, List, [], ◌∷◌, length, get_or, take, drop, Option, Some, None, Ok, Err, refl, sym, subst, ◌∙◌, ap, arith, if◌then◌else◌}
use Rattle.std.specs.Ordering.{int_eq}
use Rattle.std.proofs.lemmas.Bool.Decides.{Decides-int_eq}
use Rattle.std.proofs.lemmas.Option.{none-some}
use Rattle.xr_types.specs.declared.axis.Label.{Label}
use Rattle.xr_types.specs.declared.axis.Label.TheVariants.{Int, Time, Text}
use Rattle.xr_types.specs.declared.axis.LabelList.{LabelList}
use Rattle.xr_types.specs.declared.axis.LabelList.TheVariants.{Numbers, Times, Texts}
use Rattle.xr_types.specs.declared.fault.Fault.TheVariants.{NoSuchLabel}
use Rattle.xr_arrays.specs.Labels.{labels_of, label_at, same, repeats, place, sole, is_kin}
use Rattle.xr_arrays.proofs.LabelPlaces.{positions_none, repeats_none}
use Rattle.label_index.specs.Slots.{numbers_of, number_of, home, holds, seek, look, IsHashed}
use Rattle.std.specs.Global.{Vec}
use Rattle.label_index.specs.declared.place.Places.{Places}
use Rattle.label_index.specs.declared.place.Places.TheVariants.{Hashed}
use Rattle.label_index.specs.Places.{IsPlaced}
use Rattle.label_index.proofs.Finding.{is_false, both_left, both_right, below_from}
use Rattle.label_index.proofs.Guessing.{unique_place}
use Rattle.label_index.proofs.Rows.{numbers_at, times_at}

abbrev value : ℕ → Option ℕ → ℕ
value d (Some p) = p
value d None = d

-- the answer at a slot
abbrev answer : Bool → Bool → ℕ → Option ℕ → Option ℕ
answer empty held p rest = if empty then None else (if held then Some p else rest)

answer_is : (P : ℕ → Type 0) (empty held : Bool) (q p : ℕ) (rest : Option ℕ) → (held ≡ true → P q) → (rest ≡ Some p → P p) → answer empty held q rest ≡ Some p → P p
answer_is P true held q p rest here behind h = absurd (none-some p h)
answer_is P false true q p rest here behind h = subst P (ap (value 0) h) (here refl)
answer_is P false false q p rest here behind h = behind h

seek_is : (P : ℕ → Type 0) (test : ℕ → Bool) → ((slot : ℕ) → test slot ≡ true → P (slot % 2 ^ 25)) → (slots : List ℕ) (p : ℕ) → seek test slots ≡ Some p → P p
seek_is P test each [] p h = absurd (none-some p h)
seek_is P test each (slot ∷ rest) p h = answer_is P (slot == 0) (test slot) (slot % 2 ^ 25) p (seek test rest) (each slot) (seek_is P test each rest p) h

-- a number that is found stands there
pub look_is : (xs : List ℤ) (slots : List ℕ) (n : ℤ) (p : ℕ) → look xs slots n ≡ Some p → (p < length xs) × (get_or xs p (pos 0) ≡ n)
unfolding look
look_is xs slots n p h = seek_is (λ q. (q < length xs) × (get_or xs q (pos 0) ≡ n)) (holds xs n)
    (λ slot e.
    let both : (nat_lt (slot % 2 ^ 25) (length xs) && int_eq (get_or xs (slot % 2 ^ 25) (pos 0)) n) ≡ true = both_right _ _ e in
    (below_from (both_left _ _ both), (Decides-int_eq (get_or xs (slot % 2 ^ 25) (pos 0)) n).0 (both_right _ _ both)))
    (take 256 (drop (home n (length slots)) slots)) p h

-- a label of the list's kind is the one at a position exactly where their numbers are equal
pub kin_same : (list : LabelList) (label : Label) (p : ℕ) → is_kin list label ≡ true → length (numbers_of list) ≡ length (labels_of list) → p < length (labels_of list) → same (label_at (labels_of list) p) label ≡ int_eq (get_or (numbers_of list) p (pos 0)) (number_of label)
kin_same (Numbers kind xs) (Int n) p kin all s = ap (λ x. same x (Int n)) (numbers_at (Numbers kind xs) kind xs p (pos 0) refl s)
kin_same (Times coding xs) (Time t) p kin all s = ap (λ x. same x (Time t)) (times_at (Times coding xs) coding xs p (pos 0) refl s)
kin_same (Texts xs) (Text t) p kin all s = absurd (omega (arith, all, s))
kin_same (Numbers kind xs) (Time t) p kin all s = absurd (cc)
kin_same (Numbers kind xs) (Text t) p kin all s = absurd (cc)
kin_same (Times coding xs) (Int n) p kin all s = absurd (cc)
kin_same (Times coding xs) (Text t) p kin all s = absurd (cc)
kin_same (Texts xs) (Int n) p kin all s = absurd (cc)
kin_same (Texts xs) (Time t) p kin all s = absurd (cc)

two_same : (list : LabelList) (p q : ℕ) → length (numbers_of list) ≡ length (labels_of list) → p < length (labels_of list) → q < length (labels_of list) → same (label_at (labels_of list) p) (label_at (labels_of list) q) ≡ int_eq (get_or (numbers_of list) p (pos 0)) (get_or (numbers_of list) q (pos 0))
two_same (Numbers kind xs) p q all s t = ap (λ x. same x (label_at (labels_of (Numbers kind xs)) q)) (numbers_at (Numbers kind xs) kind xs p (pos 0) refl s) ∙ ap (λ y. same (Int (get_or xs p (pos 0))) y) (numbers_at (Numbers kind xs) kind xs q (pos 0) refl t)
two_same (Times coding xs) p q all s t = ap (λ x. same x (label_at (labels_of (Times coding xs)) q)) (times_at (Times coding xs) coding xs p (pos 0) refl s) ∙ ap (λ y. same (Time (get_or xs p (pos 0))) y) (times_at (Times coding xs) coding xs q (pos 0) refl t)
two_same (Texts xs) p q all s t = absurd (omega (arith, all, s))

-- where each number is found at its own position, none stands twice
pub hashed_once : (list : LabelList) (slots : List ℕ) → IsHashed list slots → repeats (labels_of list) ≡ false
hashed_once list slots h = repeats_none (labels_of list) (λ p q up s. is_false (same (label_at (labels_of list) p) (label_at (labels_of list) q)) (λ e.
    let low : p < length (labels_of list) = omega arith in
    let equal : get_or (numbers_of list) p (pos 0) ≡ get_or (numbers_of list) q (pos 0) = (Decides-int_eq (get_or (numbers_of list) p (pos 0)) (get_or (numbers_of list) q (pos 0))).0 (sym (two_same list p q h.all low s) ∙ e) in
    let first : look (numbers_of list) slots (get_or (numbers_of list) p (pos 0)) ≡ Some p = h.finds p (omega (arith, h.all)) in
    let second : look (numbers_of list) slots (get_or (numbers_of list) q (pos 0)) ≡ Some q = h.finds q (omega (arith, h.all)) in
    let one : p ≡ q = ap (value 0) (sym first ∙ ap (look (numbers_of list) slots) equal ∙ second) in
    absurd (omega (arith, one, up))))

pub hashed_one : (list : LabelList) (slots : List ℕ) (label : Label) (p : ℕ) → IsHashed list slots → is_kin list label ≡ true → look (numbers_of list) slots (number_of label) ≡ Some p → place (labels_of list) label ≡ Ok p
hashed_one list slots label p h kin found =
    let there = look_is (numbers_of list) slots (number_of label) p found in
    let within : p < length (labels_of list) = omega (arith, h.all, there.0) in
    unique_place (labels_of list) label p (hashed_once list slots h) within (kin_same list label p kin h.all within ∙ (Decides-int_eq (get_or (numbers_of list) p (pos 0)) (number_of label)).1 there.1)

pub hashed_none : (list : LabelList) (slots : List ℕ) (label : Label) → IsHashed list slots → is_kin list label ≡ true → look (numbers_of list) slots (number_of label) ≡ None → place (labels_of list) label ≡ Err NoSuchLabel
hashed_none list slots label h kin none = ap sole (positions_none (λ x. same x label) (labels_of list) (λ p s. is_false (same (label_at (labels_of list) p) label) (λ e.
    let equal : get_or (numbers_of list) p (pos 0) ≡ number_of label = (Decides-int_eq (get_or (numbers_of list) p (pos 0)) (number_of label)).0 (sym (kin_same list label p kin h.all s) ∙ e) in
    let found : look (numbers_of list) slots (get_or (numbers_of list) p (pos 0)) ≡ Some p = h.finds p (omega (arith, h.all)) in
    absurd (none-some p (sym none ∙ ap (look (numbers_of list) slots) (sym equal) ∙ found)))))

pub placed_once : (list : LabelList) (places : Places) (slots : Vec ℕ) → places ≡ Hashed slots → IsPlaced list places → true ≡ not (repeats (labels_of list))
placed_once list places slots e h = let placed : IsPlaced list (Hashed slots) = subst (IsPlaced list) e h in sym (ap not (hashed_once list slots.items placed.0))

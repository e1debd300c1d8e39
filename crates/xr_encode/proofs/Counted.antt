-- Times as whole counts of the unit in which they are written.
use Rattle.std.proofs.Common.{◌≡◌, ◌<◌, ◌%◌, ℕ, zero, suc, ℤ, pos, negsuc, ◌+ℤ◌, ◌-ℤ◌, ◌*ℤ◌, Bool, true, false, cond, List, [], ◌∷◌, length, map, get_or, Option, Some, None, refl, sym, ap, subst, ◌∙◌, All, arith}
use Rattle.std.specs.Prelude.{◌==◌, ◌&&◌, unsigned_abs, is_some}
use Rattle.std.proofs.lemmas.Bool.{and_parts}
use Rattle.std.proofs.lemmas.Int.{ints}
use Rattle.std.proofs.lemmas.List.Elements.{All-cons, All-nil}
use Rattle.xr_types.specs.declared.axis.TimeUnit.{TimeUnit}
use Rattle.xr_types.specs.declared.axis.TimeUnit.TheVariants.{Days, Hours, Minutes, Seconds}
use Rattle.xr_types.specs.declared.axis.Units.{Units}
use Rattle.xr_arrays.specs.Elements.{floor_quotient}
use Rattle.xr_times.specs.Times.{unit_seconds}
use Rattle.xr_times.specs.Counts.{is_count, are_counts, IsCount, written_unit}
use Rattle.xr_types.specs.declared.attr.Attr.{Attr}
use Rattle.xr_types.specs.declared.axis.LabelList.{LabelList}
use Rattle.xr_types.specs.declared.axis.LabelList.TheVariants.{Times}
use Rattle.xr_types.specs.declared.axis.TimeCoding.{TimeCoding}
use Rattle.xr_defs.specs.Encoding.{Stored, count_of, stored_labels}
use Rattle.xr_encode.specs.declared.outline.Outline.{Outline}
use Rattle.xr_encode.specs.Outlines.{filled_with, outline_of}

-- ---- a whole count

quotient : (u : TimeUnit) (z n : ℤ) → n *ℤ pos (unit_seconds u) ≡ z → floor_quotient z (pos (unit_seconds u)) ≡ n
quotient Days (pos a) n e = omega (arith, ints)
quotient Days (negsuc a) n e = omega (arith, ints)
quotient Hours (pos a) n e = omega (arith, ints)
quotient Hours (negsuc a) n e = omega (arith, ints)
quotient Minutes (pos a) n e = omega (arith, ints)
quotient Minutes (negsuc a) n e = omega (arith, ints)
quotient Seconds (pos a) n e = omega (arith, ints)
quotient Seconds (negsuc a) n e = omega (arith, ints)

far : (r t m : ℤ) → r +ℤ m ≡ t → m ≡ t -ℤ r
far r t m e = omega (arith, ints)

-- a count from which the time comes is the one that is written
count_is : (units : Units) (t : ℤ) (o : Option ℤ) → is_count units.unit units.reference t ≡ true → IsCount units t o → o ≡ Some (count_of units.unit units.reference t)
count_is units t None whole is = let clash : true ≡ false = sym whole ∙ is in absurd cc
count_is units t (Some n) whole is = ap Some (sym (quotient units.unit (t -ℤ units.reference) n (far units.reference t (n *ℤ pos (unit_seconds units.unit)) is.1)))

pub count_at : (units : Units) (ts : List ℤ) (i : ℕ) (o : Option ℤ) → i < length ts → are_counts units.unit units.reference ts ≡ true → IsCount units (get_or ts i (pos 0)) o → o ≡ get_or (map (λ t. Some (count_of units.unit units.reference t)) ts) i o
count_at units [] i o lt whole is = absurd (omega arith)
count_at units (t ∷ ts) zero o lt whole is = count_is units t o (and_parts (is_count units.unit units.reference t) (are_counts units.unit units.reference ts) whole).0 is
count_at units (t ∷ ts) (suc i) o lt whole is = count_at units ts i o (omega arith) (and_parts (is_count units.unit units.reference t) (are_counts units.unit units.reference ts) whole).1 is

-- no count is missing
pub counts_seen : (u : TimeUnit) (r : ℤ) (ts : List ℤ) → All (λ c. is_some c ≡ true) (map (λ t. Some (count_of u r t)) ts)
counts_seen u r [] = All-nil (λ c. is_some c ≡ true)
counts_seen u r (t ∷ ts) = All-cons (λ c. is_some c ≡ true) (Some (count_of u r t)) (map (λ t. Some (count_of u r t)) ts) refl (counts_seen u r ts)

-- ---- the unit

whole_seconds : (r : ℤ) (ts : List ℤ) → are_counts Seconds r ts ≡ true
whole_seconds r [] = refl
whole_seconds r (t ∷ ts) =
    let none : unsigned_abs (t -ℤ r) % 1 ≡ 0 = omega arith in
    ap (λ n. (n == 0) && are_counts Seconds r ts) none ∙ whole_seconds r ts

picked : (test : TimeUnit → Bool) (own : TimeUnit) (a b c d : Bool) → test own ≡ a → test Days ≡ b → test Hours ≡ c → test Minutes ≡ d → test Seconds ≡ true → test (cond a own (cond b Days (cond c Hours (cond d Minutes Seconds)))) ≡ true
picked test own true b c d e f g h i = e
picked test own false true c d e f g h i = f
picked test own false false true d e f g h i = g
picked test own false false false true e f g h i = h
picked test own false false false false e f g h i = i

-- times are whole counts of the unit in which they are written
pub written_whole : (units : Units) (ts : List ℤ) → are_counts (written_unit units ts) units.reference ts ≡ true
written_whole units ts =
    let test : TimeUnit → Bool = λ u. are_counts u units.reference ts in
    picked test units.unit (test units.unit) (test Days) (test Hours) (test Minutes) refl refl refl refl (whole_seconds units.reference ts)

-- ---- an index

-- what holds of its variable, filled with the counts
pub stored_counts : (P : Stored → Type 0) (name : List ℕ) (attrs : List Attr) (coding : TimeCoding) (ts : List ℤ) (list : LabelList) (o : Outline) (u : TimeUnit) (r : ℤ) (times : List ℤ)
    → list ≡ Times coding ts → o ≡ outline_of (stored_labels name attrs list) → u ≡ written_unit coding.units ts → r ≡ coding.units.reference → times ≡ ts → P (filled_with (map (λ t. Some (count_of u r t)) times) o) → P (stored_labels name attrs list)
stored_counts P name attrs coding ts list o u r times is_list is_o is_u is_r is_times holds =
    let whole : Outline = outline_of (stored_labels name attrs (Times coding ts)) in
    subst P
    (ap (filled_with (map (λ t. Some (count_of u r t)) times)) (is_o ∙ ap (λ l. outline_of (stored_labels name attrs l)) is_list)
    ∙ ap (λ v. filled_with (map (λ t. Some (count_of v r t)) times) whole) is_u
    ∙ ap (λ q. filled_with (map (λ t. Some (count_of (written_unit coding.units ts) q t)) times) whole) is_r
    ∙ ap (λ l. filled_with (map (λ t. Some (count_of (written_unit coding.units ts) coding.units.reference t)) l) whole) is_times
    ∙ sym (ap (stored_labels name attrs) is_list))
    holds

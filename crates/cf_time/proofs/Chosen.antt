-- Tests read off answers that are there or not.
use Rattle.std.proofs.Common.{◌≡◌, ◌≤◌, ℕ, Bool, true, false, Option, Some, None, refl, sym, ◌∙◌, ap, if◌then◌else◌}
use Rattle.xr_types.specs.declared.axis.Calendar.{Calendar}
use Rattle.xr_times.specs.Times.{IsDate, month_days}

pub some_if : {A : Type 0} (b : Bool) (v x : A) → Some x ≡ (if b then Some v else None) → b ≡ true
some_if true v x h = refl
some_if false v x h = absurd (cc)

pub none_if : {A : Type 0} (b : Bool) (v : A) → None ≡ (if b then Some v else None) → b ≡ false
none_if true v h = absurd (cc)
none_if false v h = refl

pub chosen : {A : Type 0} (a b c v : Bool) (x : Option A) → a ≡ true → b ≡ true → c ≡ v → (if a then (if b then (if c then x else None) else None) else None) ≡ (if v then x else None)
chosen a b c v x f g h =
    ap (λ k. if k then (if b then (if c then x else None) else None) else None) f
    ∙ ap (λ k. if k then (if c then x else None) else None) g ∙ ap (λ k. if k then x else None) h

pub some_is : {A : Type 0} (b : Bool) (v x : A) → Some x ≡ (if b then Some v else None) → x ≡ v
some_is true v x h = cc
some_is false v x h = absurd (cc)

pub none_first : {A : Type 0} (a : Bool) (x : Option A) → a ≡ false → None ≡ (if a then x else None)
none_first a x f = sym (ap (λ k. if k then x else None) f)

pub none_second : {A : Type 0} (a b : Bool) (x : Option A) → a ≡ true → b ≡ false → None ≡ (if a then (if b then x else None) else None)
none_second a b x f g = sym (ap (λ k. if k then (if b then x else None) else None) f ∙ ap (λ k. if k then x else None) g)

-- the parts of a date that were read are in their ranges
pub date : (c : Calendar) (y m d : ℕ) → (1 ≤ y) × (y ≤ 9999) → (1 ≤ m) × (m ≤ 12) → (1 ≤ d) × (d ≤ month_days c y m) → IsDate c y m d
date c y m d year month day = record {
  year_from = year.0;
  year_to = year.1;
  month_from = month.0;
  month_to = month.1;
  day_from = day.0;
  day_to = day.1;
}

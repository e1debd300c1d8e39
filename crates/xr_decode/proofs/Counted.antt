-- The times that counts stand for, from the first to the last.
use Rattle.std.proofs.Common.{◌≡◌, ◌+◌, ◌+ℤ◌, ◌*◌, ◌<◌, ◌≤ℤ◌, ◌<ℤ◌, ◌&&◌, ◌||◌, ◌++◌, ℕ, ℤ, suc, pos, Bool, true, false, cond, int_le, int_lt, List, [], ◌∷◌, length, map, drop, get_or, drop-cons, Option, Some, None, option_map, sym, ap, subst, ◌∙◌, append_assoc, refl, add-one, arith}
use Rattle.std.specs.Prelude.{All}
use Rattle.std.proofs.lemmas.Bool.{and_parts}
use Rattle.std.proofs.lemmas.Int.{ints}
use Rattle.std.proofs.lemmas.List.{length-map}
use Rattle.std.proofs.lemmas.List.Elements.{All-nil, All-cons}
use Rattle.xr_types.specs.declared.axis.Calendar.{Calendar}
use Rattle.xr_types.specs.declared.axis.Units.{Units}
use Rattle.xr_times.specs.Times.{IsTime, is_time, is_gregorian, epoch, all_days, counted, decoded}
use Rattle.xr_defs.specs.Decoding.{all_there}

abbrev times_for : Units → List ℤ → Option (List ℤ)
times_for u ns = all_there (map (decoded u) ns)

abbrev with_front : List ℤ → Option (List ℤ) → Option (List ℤ)
with_front done o = option_map (λ ts. done ++ ts) o

first_of : {T : Type 0} (u : Units) (number : T → ℤ) (counts : List T) (i : ℕ) (x : T) (t : Option ℤ) → i < length counts → x ≡ get_or counts i x → decoded u (number x) ≡ t
    → times_for u (map number (drop i counts)) ≡ all_there (t ∷ map (decoded u) (map number (drop (i + 1) counts)))
first_of u number counts i x t lt is e =
    ap (λ xs. times_for u (map number xs)) (drop-cons counts i x lt ∙ ap (λ y. y ∷ drop (suc i) counts) (sym is) ∙ ap (λ k. x ∷ drop k counts) (sym (add-one i)))
    ∙ ap (λ o. all_there (o ∷ map (decoded u) (map number (drop (i + 1) counts)))) e

pub no_time : {T : Type 0} (u : Units) (number : T → ℤ) (counts : List T) (i : ℕ) (x : T) (done : List ℤ) → i < length counts → x ≡ get_or counts i x → decoded u (number x) ≡ None
    → with_front done (times_for u (map number (drop i counts))) ≡ times_for u (map number counts) → times_for u (map number counts) ≡ None
no_time u number counts i x done lt is e so_far = sym so_far ∙ ap (with_front done) (first_of u number counts i x None lt is e)

behind : (done : List ℤ) (t : ℤ) (o : Option (List ℤ)) → with_front done (option_map (λ ts. t ∷ ts) o) ≡ with_front (done ++ t ∷ []) o
behind done t None = refl
behind done t (Some ts) = ap Some (sym (append_assoc done (t ∷ []) ts))

pub one_time : {T : Type 0} (u : Units) (number : T → ℤ) (counts : List T) (i : ℕ) (x : T) (done more : List ℤ) (t : ℤ) → i < length counts → x ≡ get_or counts i x → decoded u (number x) ≡ Some t → more ≡ done ++ t ∷ []
    → with_front done (times_for u (map number (drop i counts))) ≡ times_for u (map number counts) → with_front more (times_for u (map number (drop (i + 1) counts))) ≡ times_for u (map number counts)
one_time u number counts i x done more t lt is e pushed so_far =
    ap (λ ts. with_front ts (times_for u (map number (drop (i + 1) counts)))) pushed
    ∙ sym (ap (with_front done) (first_of u number counts i x (Some t) lt is e) ∙ behind done t (times_for u (map number (drop (i + 1) counts)))) ∙ so_far

-- ---- as many times as counts, each in the years of the calendar

pub there-length : {X : Type 0} (os : List (Option X)) (xs : List X) → all_there os ≡ Some xs → length xs ≡ length os
there-length [] xs e = let none : [] ≡ xs = cc in ap length (sym none)
there-length (None ∷ os) xs e = absurd cc
there-length {X = X} (Some x ∷ os) xs e = by (there-length os) (all_there os) refl e
  where
    by : ((ys : List X) → all_there os ≡ Some ys → length ys ≡ length os) → (o : Option (List X)) → all_there os ≡ o → option_map (λ ys. x ∷ ys) o ≡ Some xs → length xs ≡ length (Some x ∷ os)
    by rest None is e = absurd cc
    by rest (Some ys) is e = let same : x ∷ ys ≡ xs = cc in ap length (sym same) ∙ ap suc (rest ys is)

pub times-length : (u : Units) (ns ts : List ℤ) → times_for u ns ≡ Some ts → length ts ≡ length ns
times-length u ns ts e = there-length (map (decoded u) ns) ts e ∙ length-map ns (decoded u)

from_first : (e t : ℤ) → int_le (pos 0) t ≡ true → pos 0 ≤ℤ t
from_first e t h = grind (arith, ints)

to_last : (t e : ℤ) → int_lt t e ≡ true → t <ℤ e
to_last t e h = grind (arith, ints)

is_one : (c : Calendar) (t : ℤ) → is_time c t ≡ true → IsTime c t
is_one c t e = let parts = and_parts (int_le (pos 0) (t +ℤ pos (epoch c))) (int_lt (t +ℤ pos (epoch c)) (pos (86400 * all_days c))) e in record { from = from_first t (t +ℤ pos (epoch c)) parts.0; to = to_last (t +ℤ pos (epoch c)) (pos (86400 * all_days c)) parts.1 }

time_of_count : (u : Units) (n t : ℤ) → decoded u n ≡ Some t → IsTime u.calendar t
time_of_count u n t e = by (is_time u.calendar (counted u n) && (u.early || is_gregorian (counted u n))) refl e
  where
    by : (b : Bool) → (is_time u.calendar (counted u n) && (u.early || is_gregorian (counted u n))) ≡ b → cond b (Some (counted u n)) None ≡ Some t → IsTime u.calendar t
    by true is e = let same : counted u n ≡ t = cc in subst (IsTime u.calendar) same (is_one u.calendar (counted u n) (and_parts (is_time u.calendar (counted u n)) (u.early || is_gregorian (counted u n)) is).0)
    by false is e = absurd cc

pub are_times : (u : Units) (ns ts : List ℤ) → times_for u ns ≡ Some ts → All (IsTime u.calendar) ts
are_times u [] ts e = let none : [] ≡ ts = cc in subst (All (IsTime u.calendar)) none (All-nil (IsTime u.calendar))
are_times u (n ∷ ns) ts e = by (are_times u ns) (decoded u n) refl (times_for u ns) refl e
  where
    by : ((us : List ℤ) → times_for u ns ≡ Some us → All (IsTime u.calendar) us) → (o : Option ℤ) → decoded u n ≡ o → (rest : Option (List ℤ)) → times_for u ns ≡ rest → all_there (o ∷ map (decoded u) ns) ≡ Some ts → All (IsTime u.calendar) ts
    by others None is rest are e = absurd cc
    by others (Some t) is None are e = let none : all_there (Some t ∷ map (decoded u) ns) ≡ None = ap (option_map (λ ys. t ∷ ys)) are in absurd cc
    by others (Some t) is (Some us) are e =
        let whole : all_there (Some t ∷ map (decoded u) ns) ≡ Some (t ∷ us) = ap (option_map (λ ys. t ∷ ys)) are in
        let same : t ∷ us ≡ ts = cc in
        subst (All (IsTime u.calendar)) same (All-cons (IsTime u.calendar) t us (time_of_count u n t is) (others us are))

-- Texts of time units, and the names of the calendars that are known, are ASCII.
use Rattle.std.proofs.Common.{◌≡◌, ◌+◌, ◌<◌, ◌&&◌, ◌||◌, ℕ, ℤ, zero, suc, Bool, true, false, cond, List, [], ◌∷◌, length, take, drop, Option, Some, None, refl, sym, subst, arith, IsAscii, codes, ⊎_elim, Bor, option_map, IfSome}
use Rattle.std.specs.Prelude.{◌==◌, nat_lt, nat_le}
use Rattle.std.specs.Char.{is_ascii_digit}
use Rattle.std.specs.List.{prefix_len, take_while, list_all}
use Rattle.std.specs.Str.{bytes_eq, is_utf8}
use Rattle.std.specs.Str.Parse.{digits_value}
use Rattle.std.proofs.lemmas.Bool.{and_parts, or_cases, eqb-true, ltb-true}
use Rattle.std.proofs.lemmas.Bool.Decides.{nat_tests}
use Rattle.std.proofs.lemmas.Option.{option_and_then_some}
use Rattle.std.proofs.lemmas.Slice.Eq.{bytes_eq-Decides}
use Rattle.std.proofs.lemmas.Str.{IsUtf8-from_ascii, is_utf8-from_IsUtf8}
use Rattle.xr_types.specs.declared.axis.TimeUnit.{TimeUnit}
use Rattle.xr_types.specs.declared.axis.TimeUnit.TheVariants.{Days, Hours, Minutes, Seconds}
use Rattle.xr_types.specs.declared.axis.Units.{Units}
use Rattle.xr_types.specs.declared.axis.Calendar.{Calendar}
use Rattle.xr_types.specs.declared.axis.Calendar.TheVariants.{Civil, NoLeap, Days360}
use Rattle.xr_times.specs.Times.{time_of}
use Rattle.xr_times.specs.Units.{◌>>=◌, is_blank, is_dark, behind_blanks, behind_byte, number, part, is_date, dated, date, is_whole, clock, second, seconds, time_of_day, behind_mark, marked_time, day_second, reference, unit_named, unit, behind_since, behind_word, calendar_named, units, units_of}

-- ---- lists of bytes

none_here : IsAscii []
none_here i = omega arith

before : (c : ℕ) (t : List ℕ) → c < 128 → IsAscii t → IsAscii (c ∷ t)
before c t low rest zero = low
before c t low rest (suc i) = rest i

joined : (n : ℕ) (t : List ℕ) → IsAscii (take n t) → IsAscii (drop n t) → IsAscii t
joined zero t front back = back
joined (suc n) [] front back = front
joined (suc n) (c ∷ t) front back = before c t (front 0) (joined n t (λ i. front (suc i)) back)

passing : (p : ℕ → Bool) → ((c : ℕ) → p c ≡ true → c < 128) → (t : List ℕ) → IsAscii (take (prefix_len p t) t)
passing p low [] = none_here
passing p low (c ∷ t) = by (passing p low t) (p c) refl
  where
    by : IsAscii (take (prefix_len p t) t) → (b : Bool) → p c ≡ b → IsAscii (take (cond b (1 + prefix_len p t) 0) (c ∷ t))
    by rest true e =
        let one : suc (prefix_len p t) ≡ 1 + prefix_len p t = omega arith in
        subst (λ n. IsAscii (take n (c ∷ t))) one (before c (take (prefix_len p t) t) (low c e) rest)
    by rest false e = none_here

all_low : (t : List ℕ) → list_all (λ c. nat_lt c 128) t ≡ true → IsAscii t
all_low [] e = none_here
all_low (c ∷ t) e = let parts = and_parts (nat_lt c 128) (list_all (λ c. nat_lt c 128) t) e in before c t (ltb-true c 128 parts.0) (all_low t parts.1)

-- a word that is one of two
either : (w a b : List ℕ) → IsAscii a → IsAscii b → (bytes_eq w a || bytes_eq w b) ≡ true → IsAscii w
either w a b low_a low_b e = ⊎_elim (λ is. subst IsAscii (sym ((bytes_eq-Decides w a).0 is)) low_a) (λ is. subst IsAscii (sym ((bytes_eq-Decides w b).0 is)) low_b) (or_cases (bytes_eq w a) (bytes_eq w b) e)

-- what is chosen is this one, or one of the others
chosen : {X P : Type 0} (b : Bool) (x : X) (others : Option X) (y : X) → (b ≡ true → P) → (others ≡ Some y → P) → cond b (Some x) others ≡ Some y → P
chosen true x others y here there e = here refl
chosen false x others y here there e = there e

-- ---- parts at the front of a text

blank_low : (c : ℕ) → is_blank c ≡ true → c < 128
blank_low c e = ⊎_elim (λ is. omega (arith, eqb-true c 32 is)) (λ is. omega (arith, eqb-true c 9 is)) (or_cases (c == 32) (c == 9) e)

digit_low : (c : ℕ) → is_ascii_digit c ≡ true → c < 128
digit_low c e = grind (arith, nat_tests)

behind_blanks_low : (t u : List ℕ) → behind_blanks t ≡ Some u → IsAscii u → IsAscii t
behind_blanks_low t u e low = by (prefix_len is_blank t == 0) e
  where
    by : (b : Bool) → cond b None (Some (drop (prefix_len is_blank t) t)) ≡ Some u → IsAscii t
    by true e = absurd cc
    by false e = let same : u ≡ drop (prefix_len is_blank t) t = cc in joined (prefix_len is_blank t) t (passing is_blank blank_low t) (subst IsAscii same low)

behind_byte_low : (c : ℕ) (t u : List ℕ) → c < 128 → behind_byte c t ≡ Some u → IsAscii u → IsAscii t
behind_byte_low c [] u is e low = absurd cc
behind_byte_low c (x ∷ t) u is e low = by (x == c) refl e
  where
    by : (b : Bool) → (x == c) ≡ b → cond b (Some t) None ≡ Some u → IsAscii (x ∷ t)
    by true k e = let same : u ≡ t = cc in before x t (omega (arith, eqb-true x c k)) (subst IsAscii same low)
    by false k e = absurd cc

number_low : (least most : ℕ) (t : List ℕ) (x : ℕ × List ℕ) → number least most t ≡ Some x → IsAscii x.1 → IsAscii t
number_low least most t x e low = by (nat_le least (prefix_len is_ascii_digit t) && nat_le (prefix_len is_ascii_digit t) most) e
  where
    by : (b : Bool) → cond b (Some (digits_value 10 (take_while is_ascii_digit t), drop (prefix_len is_ascii_digit t) t)) None ≡ Some x → IsAscii t
    by true e = let same : x.1 ≡ drop (prefix_len is_ascii_digit t) t = cc in joined (prefix_len is_ascii_digit t) t (passing is_ascii_digit digit_low t) (subst IsAscii same low)
    by false e = absurd cc

part_low : (c : ℕ) (t : List ℕ) (x : ℕ × List ℕ) → c < 128 → part c t ≡ Some x → IsAscii x.1 → IsAscii t
unfolding part
part_low c t x is e low = option_and_then_some (number 1 2) (behind_byte c t) x e (λ u at k. behind_byte_low c t u is at (number_low 1 2 u x k low))

-- ---- the reference

dated_low : (c : Calendar) (y m d : ℕ) (t : List ℕ) (x : (ℕ × ℕ × ℕ) × List ℕ) → dated c y m d t ≡ Some x → IsAscii x.1 → IsAscii t
dated_low c y m d t x e low = by (is_date c y m d) e
  where
    by : (b : Bool) → cond b (Some ((y, m, d), t)) None ≡ Some x → IsAscii t
    by true e = let same : x.1 ≡ t = cc in subst IsAscii same low
    by false e = absurd cc

date_low : (c : Calendar) (t : List ℕ) (x : (ℕ × ℕ × ℕ) × List ℕ) → date c t ≡ Some x → IsAscii x.1 → IsAscii t
unfolding date
date_low c t x e low =
    option_and_then_some (λ (y : ℕ × List ℕ). part 45 y.1 >>= (λ m. part 45 m.1 >>= (λ d. dated c y.0 m.0 d.0 d.1))) (number 4 4 t) x e (λ y at_year e.
    option_and_then_some (λ (m : ℕ × List ℕ). part 45 m.1 >>= (λ d. dated c y.0 m.0 d.0 d.1)) (part 45 y.1) x e (λ m at_month e.
    option_and_then_some (λ (d : ℕ × List ℕ). dated c y.0 m.0 d.0 d.1) (part 45 m.1) x e (λ d at_day e.
    number_low 4 4 t y at_year (part_low 45 y.1 m (omega arith) at_month (part_low 45 m.1 d (omega arith) at_day (dated_low c y.0 m.0 d.0 d.1 x e low))))))

zeros_low : (t : List ℕ) → list_all (λ z. z == 48) t ≡ true → IsAscii t
zeros_low [] e = none_here
zeros_low (c ∷ t) e = let parts = and_parts (c == 48) (list_all (λ z. z == 48) t) e in before c t (omega (arith, eqb-true c 48 parts.0)) (zeros_low t parts.1)

whole_low : (t : List ℕ) → is_whole t ≡ true → IsAscii t
whole_low [] e = none_here
whole_low (c ∷ t) e =
    let zeros = and_parts ((c == 46) && nat_lt 0 (length t)) (list_all (λ z. z == 48) t) e in
    let point = and_parts (c == 46) (nat_lt 0 (length t)) zeros.0 in
    before c t (omega (arith, eqb-true c 46 point.0)) (zeros_low t zeros.1)

second_low : (h m : ℕ) (t : List ℕ) (n : ℕ) → second h m t ≡ Some n → IsAscii t
unfolding second
second_low h m t n e =
    option_and_then_some (λ (s : ℕ × List ℕ). cond (is_whole s.1) (clock h m s.0) None) (part 58 t) n e (λ s at e. part_low 58 t s (omega arith) at (by s (is_whole s.1) refl e))
  where
    by : (s : ℕ × List ℕ) (b : Bool) → is_whole s.1 ≡ b → cond b (clock h m s.0) None ≡ Some n → IsAscii s.1
    by s true whole e = whole_low s.1 whole
    by s false whole e = absurd cc

seconds_low : (h m : ℕ) (t : List ℕ) (n : ℕ) → seconds h m t ≡ Some n → IsAscii t
seconds_low h m [] n e = none_here
seconds_low h m (c ∷ t) n e = second_low h m (c ∷ t) n e

time_of_day_low : (t : List ℕ) (n : ℕ) → time_of_day t ≡ Some n → IsAscii t
unfolding time_of_day
time_of_day_low t n e =
    option_and_then_some (λ (h : ℕ × List ℕ). part 58 h.1 >>= (λ m. seconds h.0 m.0 m.1)) (number 1 2 t) n e (λ h at_hour e.
    option_and_then_some (λ (m : ℕ × List ℕ). seconds h.0 m.0 m.1) (part 58 h.1) n e (λ m at_minute e.
    number_low 1 2 t h at_hour (part_low 58 h.1 m (omega arith) at_minute (seconds_low h.0 m.0 m.1 n e))))

mark_low : (t u : List ℕ) → behind_mark t ≡ Some u → IsAscii u → IsAscii t
mark_low [] u e low = absurd cc
mark_low (c ∷ t) u e low = by (c == 84) refl e
  where
    by : (b : Bool) → (c == 84) ≡ b → cond b (Some t) (behind_blanks (c ∷ t)) ≡ Some u → IsAscii (c ∷ t)
    by true k e = let same : u ≡ t = cc in before c t (omega (arith, eqb-true c 84 k)) (subst IsAscii same low)
    by false k e = behind_blanks_low (c ∷ t) u e low

day_second_low : (t : List ℕ) (n : ℕ) → day_second t ≡ Some n → IsAscii t
unfolding marked_time
day_second_low [] n e = none_here
day_second_low (c ∷ t) n e = option_and_then_some time_of_day (behind_mark (c ∷ t)) n e (λ u at e. mark_low (c ∷ t) u at (time_of_day_low u n e))

reference_low : (c : Calendar) (t : List ℕ) (r : ℤ) → reference c t ≡ Some r → IsAscii t
unfolding reference
reference_low c t r e =
    option_and_then_some (λ (d : (ℕ × ℕ × ℕ) × List ℕ). day_second d.1 >>= (λ s. Some (time_of c d.0.0 d.0.1 d.0.2 0 0 s))) (date c t) r e (λ d at_date e.
    option_and_then_some (λ s. Some (time_of c d.0.0 d.0.1 d.0.2 0 0 s)) (day_second d.1) r e (λ s at_second e.
    date_low c t d at_date (day_second_low d.1 s at_second)))

-- ---- the whole text

unit_named_low : (w : List ℕ) (u : TimeUnit) → unit_named w ≡ Some u → IsAscii w
unit_named_low w u =
    chosen (bytes_eq w (codes "day") || bytes_eq w (codes "days")) Days _ u (either w (codes "day") (codes "days") (all_low (codes "day") refl) (all_low (codes "days") refl))
    (chosen (bytes_eq w (codes "hour") || bytes_eq w (codes "hours")) Hours _ u (either w (codes "hour") (codes "hours") (all_low (codes "hour") refl) (all_low (codes "hours") refl))
    (chosen (bytes_eq w (codes "minute") || bytes_eq w (codes "minutes")) Minutes _ u (either w (codes "minute") (codes "minutes") (all_low (codes "minute") refl) (all_low (codes "minutes") refl))
    (chosen (bytes_eq w (codes "second") || bytes_eq w (codes "seconds")) Seconds None u (either w (codes "second") (codes "seconds") (all_low (codes "second") refl) (all_low (codes "seconds") refl))
    (λ e. absurd cc))))

unit_low : (t : List ℕ) (x : TimeUnit × List ℕ) → unit t ≡ Some x → IsAscii x.1 → IsAscii t
unfolding unit
unit_low t x e low =
    option_and_then_some (λ u. Some (u, drop (prefix_len is_dark t) t)) (unit_named (take_while is_dark t)) x e (λ u at e.
    let same : x.1 ≡ drop (prefix_len is_dark t) t = cc in
    joined (prefix_len is_dark t) t (unit_named_low (take_while is_dark t) u at) (subst IsAscii same low))

since_low : (t u : List ℕ) → behind_since t ≡ Some u → IsAscii u → IsAscii t
since_low t u e low = by (bytes_eq (take_while is_dark t) (codes "since")) refl e
  where
    by : (b : Bool) → bytes_eq (take_while is_dark t) (codes "since") ≡ b → cond b (Some (drop (prefix_len is_dark t) t)) None ≡ Some u → IsAscii t
    by true k e =
        let same : u ≡ drop (prefix_len is_dark t) t = cc in
        joined (prefix_len is_dark t) t (subst IsAscii (sym ((bytes_eq-Decides (take_while is_dark t) (codes "since")).0 k)) (all_low (codes "since") refl)) (subst IsAscii same low)
    by false k e = absurd cc

word_low : (t u : List ℕ) → behind_word t ≡ Some u → IsAscii u → IsAscii t
unfolding behind_word
word_low t u e low =
    option_and_then_some (λ (a : List ℕ). behind_since a >>= behind_blanks) (behind_blanks t) u e (λ a at_blanks e.
    option_and_then_some behind_blanks (behind_since a) u e (λ b at_since e.
    behind_blanks_low t a at_blanks (since_low a b at_since (behind_blanks_low b u e low))))

calendar_low : (name : List ℕ) (x : Calendar × Bool) → calendar_named (Some name) ≡ Some x → IsAscii name
calendar_low name x =
    chosen (bytes_eq name (codes "standard") || bytes_eq name (codes "gregorian")) (Civil, false) _ x (either name (codes "standard") (codes "gregorian") (all_low (codes "standard") refl) (all_low (codes "gregorian") refl))
    (chosen (bytes_eq name (codes "proleptic_gregorian")) (Civil, true) _ x (λ is. subst IsAscii (sym ((bytes_eq-Decides name (codes "proleptic_gregorian")).0 is)) (all_low (codes "proleptic_gregorian") refl))
    (chosen (bytes_eq name (codes "noleap") || bytes_eq name (codes "365_day")) (NoLeap, true) _ x (either name (codes "noleap") (codes "365_day") (all_low (codes "noleap") refl) (all_low (codes "365_day") refl))
    (chosen (bytes_eq name (codes "360_day")) (Days360, true) None x (λ is. subst IsAscii (sym ((bytes_eq-Decides name (codes "360_day")).0 is)) (all_low (codes "360_day") refl))
    (λ e. absurd cc))))

-- the calendar is known
abbrev IsKnown : Option (List ℕ) → Type 0
IsKnown name = (x : Calendar × Bool) × (calendar_named name ≡ Some x)

both_read : (t : List ℕ) (name : Option (List ℕ)) (u : Units) → units_of t name ≡ Some u → IsAscii t × IsKnown name
unfolding units_of
both_read t name u e =
    option_and_then_some (λ (a : TimeUnit × List ℕ). behind_word a.1 >>= (λ v. calendar_named name >>= (λ c. reference c.0 v >>= (λ r. units a.0 r c.0 c.1)))) (unit t) u e (λ a at_unit e.
    option_and_then_some (λ v. calendar_named name >>= (λ c. reference c.0 v >>= (λ r. units a.0 r c.0 c.1))) (behind_word a.1) u e (λ v at_word e.
    option_and_then_some (λ (c : Calendar × Bool). reference c.0 v >>= (λ r. units a.0 r c.0 c.1)) (calendar_named name) u e (λ c at_calendar e.
    option_and_then_some (λ r. units a.0 r c.0 c.1) (reference c.0 v) u e (λ r at_reference e.
    (unit_low t a at_unit (word_low a.1 v at_word (reference_low c.0 v r at_reference)), (c, at_calendar))))))

is_text : (t : List ℕ) → IsAscii t → is_utf8 t ≡ true
is_text t low = is_utf8-from_IsUtf8 t (IsUtf8-from_ascii t low)

pub units_text : (t : List ℕ) (name : Option (List ℕ)) (u : Units) → units_of t name ≡ Some u → is_utf8 t ≡ true
units_text t name u e = is_text t (both_read t name u e).0

pub name_text : (t : List ℕ) (name : Option (Bor (List ℕ))) (u : Units) → units_of t (option_map (λ n. n.now) name) ≡ Some u → IfSome name (λ n. is_utf8 n.now ≡ true)
name_text t None u e = tt
name_text t (Some n) u e = let known = (both_read t (Some n.now) u e).1 in is_text n.now (calendar_low n.now known.0 known.1)

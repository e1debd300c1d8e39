-- Which rank has the greatest label not above one, the least not below it, or the nearest.
use Rattle.std.proofs.Common.{◌≡◌, ℕ, ℤ, ◌<◌, ◌≤◌, ◌+◌, ◌-◌, ◌-ℤ◌, ◌≤ℤ◌, ◌<ℤ◌, Bool, true, false, not, ◌&&◌, ◌||◌, ◌==◌, nat_lt, List, [], ◌∷◌, length, refl, sym, subst, ◌∙◌, ap, arith, inl, inr, unsigned_abs, pos}
use Rattle.std.specs.Ordering.{is_le, int_cmp}
use Rattle.std.specs.List.{list_all}
use Rattle.std.proofs.lemmas.Bool.{cases_eq, cases_lt}
use Rattle.std.proofs.lemmas.Bool.Decides.{nat_tests}
use Rattle.std.proofs.lemmas.Int.{ints}
use Rattle.xr_types.specs.declared.axis.Label.{Label}
use Rattle.xr_types.specs.declared.axis.Label.TheVariants.{Int, Time, Text}
use Rattle.xr_types.specs.declared.axis.LabelList.{LabelList}
use Rattle.xr_types.specs.declared.axis.LabelList.TheVariants.{Numbers, Times, Texts}
use Rattle.xr_types.specs.declared.operation.Near.TheVariants.{Pad, Backfill, Nearest}
use Rattle.xr_arrays.specs.Labels.{labels_of, label_at, at_most, below, repeats, distance, is_near, near, is_kin, is_text}
use Rattle.xr_arrays.proofs.LabelLaws.{below_is, at_most-refl, one_way}
use Rattle.xr_arrays.proofs.LabelPlaces.{positions_none, list_all_holds, list_all_fails}
use Rattle.label_index.specs.declared.rank.Ranks.{Ranks}
use Rattle.label_index.specs.Ranks.{position, IsRanked, ranked}
use Rattle.label_index.proofs.Rows.{numbers_at, times_at}
use Rattle.label_index.proofs.Finding.{is_false, each_ranked, ranked_one, not_below, is_below, same_both, repeats_ranked}

or_right : (b : Bool) → (b || true) ≡ true
or_right true = refl
or_right false = refl

and_no : (b : Bool) → (b && false) ≡ false
and_no true = refl
and_no false = refl

both : (a b : Bool) → a ≡ true → b ≡ true → (a && b) ≡ true
both a b g h = ap (λ c. c && b) g ∙ h

-- labels of which none stands twice ascend strictly
pub strict : (xs : List Label) (ranks : Ranks) (r : IsRanked xs ranks) → repeats xs ≡ false → (j k : ℕ) → j < k → k < length xs → at_most (ranked xs ranks k) (ranked xs ranks j) ≡ false
strict xs ranks r once j k up within = is_false (at_most (ranked xs ranks k) (ranked xs ranks j)) (λ e.
    sym (repeats_ranked xs ranks r j k up within (same_both (ranked xs ranks j) (ranked xs ranks k) (r.ascends j k (omega arith) within) e)) ∙ once)

-- not at most it: it is below
above : (x label : Label) → at_most x label ≡ false → below label x ≡ true
above x label h = below_is label x ∙ ap not h

not_above : (x label : Label) → at_most x label ≡ true → below label x ≡ false
not_above x label h = below_is label x ∙ ap not h

-- ---- the greatest not above

pub pad_none : (xs : List Label) (ranks : Ranks) (r : IsRanked xs ranks) (label : Label) → ((k : ℕ) → k < length xs → at_most (ranked xs ranks k) label ≡ false) → near Pad xs label ≡ []
pad_none xs ranks r label behind = positions_none (is_near Pad label xs) xs (each_ranked xs ranks r (is_near Pad label xs) false (λ k s. ap (λ b. b && list_all (λ x. below label x || at_most x (ranked xs ranks k)) xs) (behind k s)))

pub pad_one : (xs : List Label) (ranks : Ranks) (r : IsRanked xs ranks) (label : Label) (m : ℕ) → repeats xs ≡ false → m < length xs → at_most (ranked xs ranks m) label ≡ true → ((k : ℕ) → m < k → k < length xs → at_most (ranked xs ranks k) label ≡ false) → near Pad xs label ≡ position ranks (length xs) m ∷ []
pad_one xs ranks r label m once within here behind = ranked_one xs ranks r (is_near Pad label xs) m within
    (both (at_most (ranked xs ranks m) label) _ here (list_all_holds (λ x. below label x || at_most x (ranked xs ranks m)) xs (each_ranked xs ranks r (λ x. below label x || at_most x (ranked xs ranks m)) true (λ k s.
    elim (cases_lt m k) [
      | inl higher ↦ ap (λ b. b || at_most (ranked xs ranks k) (ranked xs ranks m)) (above (ranked xs ranks k) label (behind k higher s))
      | inr lower ↦ ap (λ b. below label (ranked xs ranks k) || b) (r.ascends k m lower within) ∙ or_right (below label (ranked xs ranks k))
    ]))))
    (λ k s. ap (λ b. at_most (ranked xs ranks k) label && b) (list_all_fails (λ x. below label x || at_most x (ranked xs ranks k)) xs (position ranks (length xs) m) (r.inside m within)
    (ap (λ b. b || at_most (ranked xs ranks m) (ranked xs ranks k)) (not_above (ranked xs ranks m) label here) ∙ strict xs ranks r once k m s within)) ∙ and_no (at_most (ranked xs ranks k) label))
    (λ k s t. ap (λ b. b && list_all (λ x. below label x || at_most x (ranked xs ranks k)) xs) (behind k s t))

-- ---- the least not below

pub backfill_none : (xs : List Label) (ranks : Ranks) (r : IsRanked xs ranks) (label : Label) → ((k : ℕ) → k < length xs → below (ranked xs ranks k) label ≡ true) → near Backfill xs label ≡ []
backfill_none xs ranks r label before = positions_none (is_near Backfill label xs) xs (each_ranked xs ranks r (is_near Backfill label xs) false (λ k s. ap (λ b. b && list_all (λ x. below x label || at_most (ranked xs ranks k) x) xs) (is_below (ranked xs ranks k) label (before k s))))

pub backfill_one : (xs : List Label) (ranks : Ranks) (r : IsRanked xs ranks) (label : Label) (m : ℕ) → repeats xs ≡ false → m < length xs → below (ranked xs ranks m) label ≡ false → ((k : ℕ) → k < m → below (ranked xs ranks k) label ≡ true) → near Backfill xs label ≡ position ranks (length xs) m ∷ []
backfill_one xs ranks r label m once within here before = ranked_one xs ranks r (is_near Backfill label xs) m within
    (both (at_most label (ranked xs ranks m)) _ (not_below (ranked xs ranks m) label here) (list_all_holds (λ x. below x label || at_most (ranked xs ranks m) x) xs (each_ranked xs ranks r (λ x. below x label || at_most (ranked xs ranks m) x) true (λ k s.
    elim (cases_lt k m) [
      | inl lower ↦ ap (λ b. b || at_most (ranked xs ranks m) (ranked xs ranks k)) (before k lower)
      | inr higher ↦ ap (λ b. below (ranked xs ranks k) label || b) (r.ascends m k higher s) ∙ or_right (below (ranked xs ranks k) label)
    ]))))
    (λ k s. ap (λ b. b && list_all (λ x. below x label || at_most (ranked xs ranks k) x) xs) (is_below (ranked xs ranks k) label (before k s)))
    (λ k s t. ap (λ b. at_most label (ranked xs ranks k) && b) (list_all_fails (λ x. below x label || at_most (ranked xs ranks k) x) xs (position ranks (length xs) m) (r.inside m within)
    (ap (λ b. b || at_most (ranked xs ranks k) (ranked xs ranks m)) here ∙ strict xs ranks r once m k s t)) ∙ and_no (at_most label (ranked xs ranks k)))

-- ---- the nearest

abbrev far : List Label → Ranks → Label → ℕ → ℕ
far xs ranks label k = distance (ranked xs ranks k) label

abbrev nearer : Label → Label → Label → Bool
nearer label y x = nat_lt (distance y label) (distance x label) || ((distance y label == distance x label) && at_most x y)

nearer_by : (label y x : Label) → distance y label < distance x label → nearer label y x ≡ true
nearer_by label y x h = grind (arith, nat_tests)

nearer_tie : (label y x : Label) → distance y label ≤ distance x label → at_most x y ≡ true → nearer label y x ≡ true
nearer_tie label y x h g = grind (arith, nat_tests)

farther_by : (label y x : Label) → distance x label < distance y label → nearer label y x ≡ false
farther_by label y x h = grind (arith, nat_tests)

farther_tie : (label y x : Label) → distance x label ≤ distance y label → at_most x y ≡ false → nearer label y x ≡ false
farther_tie label y x h g = grind (arith, nat_tests)

pub nearest_one : (xs : List Label) (ranks : Ranks) (r : IsRanked xs ranks) (label : Label) (m : ℕ) → repeats xs ≡ false → m < length xs → ((k : ℕ) → k < m → distance (ranked xs ranks m) label ≤ distance (ranked xs ranks k) label) → ((k : ℕ) → m < k → k < length xs → distance (ranked xs ranks m) label < distance (ranked xs ranks k) label) → near Nearest xs label ≡ position ranks (length xs) m ∷ []
nearest_one xs ranks r label m once within lower higher = ranked_one xs ranks r (is_near Nearest label xs) m within
    (list_all_holds (nearer label (ranked xs ranks m)) xs (each_ranked xs ranks r (nearer label (ranked xs ranks m)) true (λ k s.
    elim (cases_lt m k) [
      | inl up ↦ nearer_by label (ranked xs ranks m) (ranked xs ranks k) (higher k up s)
      | inr down ↦ elim (cases_eq k m) [
        | inl e ↦ subst (λ j. nearer label (ranked xs ranks m) (ranked xs ranks j) ≡ true) (sym e) (nearer_tie label (ranked xs ranks m) (ranked xs ranks m) (omega arith) (at_most-refl (ranked xs ranks m)))
        | inr d ↦ nearer_tie label (ranked xs ranks m) (ranked xs ranks k) (lower k (omega arith)) (r.ascends k m down within)
      ]
    ])))
    (λ k s. list_all_fails (nearer label (ranked xs ranks k)) xs (position ranks (length xs) m) (r.inside m within)
    (farther_tie label (ranked xs ranks k) (ranked xs ranks m) (lower k s) (strict xs ranks r once k m s within)))
    (λ k s t. list_all_fails (nearer label (ranked xs ranks k)) xs (position ranks (length xs) m) (r.inside m within)
    (farther_by label (ranked xs ranks k) (ranked xs ranks m) (higher k s t)))

-- numbers, or times
pub is_alike : Label → Label → Bool
is_alike (Int a) (Int b) = true
is_alike (Time a) (Time b) = true
is_alike x y = false

int_at_most : (a b : ℤ) → is_le (int_cmp a b) ≡ true → a ≤ℤ b
int_at_most a b h = grind (arith, ints)

int_above : (a b : ℤ) → is_le (int_cmp a b) ≡ false → b <ℤ a
int_above a b h = grind (arith, ints)

int_far_below : (a b l : ℤ) → a ≤ℤ b → b ≤ℤ l → unsigned_abs (b -ℤ l) ≤ unsigned_abs (a -ℤ l)
int_far_below a b l g h = omega (arith, ints)

int_far_above : (a b l : ℤ) → l ≤ℤ b → b ≤ℤ a → unsigned_abs (b -ℤ l) ≤ unsigned_abs (a -ℤ l)
int_far_above a b l g h = omega (arith, ints)

int_farther : (a b l : ℤ) → l ≤ℤ b → b <ℤ a → unsigned_abs (b -ℤ l) < unsigned_abs (a -ℤ l)
int_farther a b l g h = omega (arith, ints)

far_below : (x y label : Label) → is_alike x label ≡ true → is_alike y label ≡ true → at_most x y ≡ true → at_most y label ≡ true → distance y label ≤ distance x label
unfolding is_alike
far_below (Int a) (Int b) (Int l) p q g h = int_far_below a b l (int_at_most a b g) (int_at_most b l h)
far_below (Time a) (Time b) (Time l) p q g h = int_far_below a b l (int_at_most a b g) (int_at_most b l h)
far_below (Int a) (Time b) (Int l) p q g h = absurd (cc)
far_below (Int a) (Text b) (Int l) p q g h = absurd (cc)
far_below (Int a) y (Time l) p q g h = absurd (cc)
far_below (Int a) y (Text l) p q g h = absurd (cc)
far_below (Time a) (Int b) (Time l) p q g h = absurd (cc)
far_below (Time a) (Text b) (Time l) p q g h = absurd (cc)
far_below (Time a) y (Int l) p q g h = absurd (cc)
far_below (Time a) y (Text l) p q g h = absurd (cc)
far_below (Text a) y l p q g h = absurd (cc)

far_above : (x y label : Label) → is_alike x label ≡ true → is_alike y label ≡ true → at_most label y ≡ true → at_most y x ≡ true → distance y label ≤ distance x label
unfolding is_alike
far_above (Int a) (Int b) (Int l) p q g h = int_far_above a b l (int_at_most l b g) (int_at_most b a h)
far_above (Time a) (Time b) (Time l) p q g h = int_far_above a b l (int_at_most l b g) (int_at_most b a h)
far_above (Int a) (Time b) (Int l) p q g h = absurd (cc)
far_above (Int a) (Text b) (Int l) p q g h = absurd (cc)
far_above (Int a) y (Time l) p q g h = absurd (cc)
far_above (Int a) y (Text l) p q g h = absurd (cc)
far_above (Time a) (Int b) (Time l) p q g h = absurd (cc)
far_above (Time a) (Text b) (Time l) p q g h = absurd (cc)
far_above (Time a) y (Int l) p q g h = absurd (cc)
far_above (Time a) y (Text l) p q g h = absurd (cc)
far_above (Text a) y l p q g h = absurd (cc)

farther : (x y label : Label) → is_alike x label ≡ true → is_alike y label ≡ true → at_most label y ≡ true → at_most x y ≡ false → distance y label < distance x label
unfolding is_alike
farther (Int a) (Int b) (Int l) p q g h = int_farther a b l (int_at_most l b g) (int_above a b h)
farther (Time a) (Time b) (Time l) p q g h = int_farther a b l (int_at_most l b g) (int_above a b h)
farther (Int a) (Time b) (Int l) p q g h = absurd (cc)
farther (Int a) (Text b) (Int l) p q g h = absurd (cc)
farther (Int a) y (Time l) p q g h = absurd (cc)
farther (Int a) y (Text l) p q g h = absurd (cc)
farther (Time a) (Int b) (Time l) p q g h = absurd (cc)
farther (Time a) (Text b) (Time l) p q g h = absurd (cc)
farther (Time a) y (Int l) p q g h = absurd (cc)
farther (Time a) y (Text l) p q g h = absurd (cc)
farther (Text a) y l p q g h = absurd (cc)

-- each label of a list is a number or a time where the list takes such a label
pub alike_at : (list : LabelList) (label : Label) (p : ℕ) → is_kin list label ≡ true → is_text label ≡ false → p < length (labels_of list) → is_alike (label_at (labels_of list) p) label ≡ true
unfolding is_alike
alike_at (Numbers kind xs) (Int l) p k t s = ap (λ x. is_alike x (Int l)) (numbers_at (Numbers kind xs) kind xs p (pos 0) refl s)
alike_at (Times coding xs) (Time l) p k t s = ap (λ x. is_alike x (Time l)) (times_at (Times coding xs) coding xs p (pos 0) refl s)
alike_at (Numbers kind xs) (Time l) p k t s = absurd (cc)
alike_at (Numbers kind xs) (Text l) p k t s = absurd (cc)
alike_at (Times coding xs) (Int l) p k t s = absurd (cc)
alike_at (Times coding xs) (Text l) p k t s = absurd (cc)
alike_at (Texts xs) (Int l) p k t s = absurd (cc)
alike_at (Texts xs) (Time l) p k t s = absurd (cc)
alike_at (Texts xs) (Text l) p k t s = absurd (cc)

abbrev AllAlike : List Label → Ranks → Label → Type 0
AllAlike xs ranks label = (k : ℕ) → k < length xs → is_alike (ranked xs ranks k) label ≡ true

below_most : (x label : Label) → below x label ≡ true → at_most x label ≡ true
below_most x label h = one_way label x (is_below x label h)

-- the last rank of the labels below, where none is nearer behind it
pub nearest_low : (xs : List Label) (ranks : Ranks) (r : IsRanked xs ranks) (label : Label) (m : ℕ) → AllAlike xs ranks label → repeats xs ≡ false → m < length xs → ((k : ℕ) → k < m + 1 → below (ranked xs ranks k) label ≡ true) → ((k : ℕ) → m + 1 ≤ k → k < length xs → below (ranked xs ranks k) label ≡ false) → (m + 1 < length xs → distance (ranked xs ranks m) label < distance (ranked xs ranks (m + 1)) label) → near Nearest xs label ≡ position ranks (length xs) m ∷ []
nearest_low xs ranks r label m alike once within before behind gap = nearest_one xs ranks r label m once within
    (λ k s. far_below (ranked xs ranks k) (ranked xs ranks m) label (alike k (omega arith)) (alike m within) (r.ascends k m (omega arith) within) (below_most (ranked xs ranks m) label (before m (omega arith))))
    (λ k s t.
    let next : m + 1 < length xs = omega arith in
    let first : distance (ranked xs ranks m) label < distance (ranked xs ranks (m + 1)) label = gap next in
    let rest : distance (ranked xs ranks (m + 1)) label ≤ distance (ranked xs ranks k) label = far_above (ranked xs ranks k) (ranked xs ranks (m + 1)) label (alike k t) (alike (m + 1) next) (not_below (ranked xs ranks (m + 1)) label (behind (m + 1) (omega arith) next)) (r.ascends (m + 1) k (omega arith) t) in
    omega arith)

-- the first rank of the labels that aren't below, where none is nearer before it
pub nearest_high : (xs : List Label) (ranks : Ranks) (r : IsRanked xs ranks) (label : Label) (m : ℕ) → AllAlike xs ranks label → repeats xs ≡ false → m < length xs → ((k : ℕ) → k < m → below (ranked xs ranks k) label ≡ true) → ((k : ℕ) → m ≤ k → k < length xs → below (ranked xs ranks k) label ≡ false) → (0 < m → distance (ranked xs ranks m) label ≤ distance (ranked xs ranks (m - 1)) label) → near Nearest xs label ≡ position ranks (length xs) m ∷ []
nearest_high xs ranks r label m alike once within before behind gap = nearest_one xs ranks r label m once within
    (λ k s.
    let last : m - 1 < length xs = omega arith in
    let first : distance (ranked xs ranks m) label ≤ distance (ranked xs ranks (m - 1)) label = gap (omega arith) in
    let rest : distance (ranked xs ranks (m - 1)) label ≤ distance (ranked xs ranks k) label = far_below (ranked xs ranks k) (ranked xs ranks (m - 1)) label (alike k (omega arith)) (alike (m - 1) last) (r.ascends k (m - 1) (omega arith) last) (below_most (ranked xs ranks (m - 1)) label (before (m - 1) (omega arith))) in
    omega arith)
    (λ k s t. farther (ranked xs ranks k) (ranked xs ranks m) label (alike k t) (alike m within) (not_below (ranked xs ranks m) label (behind m (omega arith) within)) (strict xs ranks r once m k s t))

pub nearest_none : (xs : List Label) (label : Label) → length xs ≡ 0 → near Nearest xs label ≡ []
nearest_none xs label h = positions_none (is_near Nearest label xs) xs (λ p s. absurd (omega arith))

pub alike_ranked : (list : LabelList) (ranks : Ranks) (r : IsRanked (labels_of list) ranks) (label : Label) → is_kin list label ≡ true → is_text label ≡ false → AllAlike (labels_of list) ranks label
alike_ranked list ranks r label kin number k s = alike_at list label (position ranks (length (labels_of list)) k) kin number (r.inside k s)

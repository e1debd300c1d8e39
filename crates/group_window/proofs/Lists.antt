-- Lists of positions by their places, and one after the other.
use Rattle.std.proofs.Common.{◌≡◌, ◌<◌, ◌≤◌, ◌+◌, ◌-◌, ◌==◌, ℕ, zero, suc, Bool, true, false, cond, List, [], ◌∷◌, ◌++◌, length, length-append, map, take, drop, get_or, filter, refl, sym, ap, ◌∙◌, arith}
use Rattle.std.specs.Prelude.{slice_set, nat_lt}
use Rattle.std.specs.List.{range_with_len}
use Rattle.std.proofs.lemmas.Bool.{eqb-true}
use Rattle.std.proofs.lemmas.Bool.Decides.{nat_tests}
use Rattle.xr_arrays.specs.FeedPositions.{cut, AreEnds}
use Rattle.xr_groups.specs.Groups.{bin_lists, places_of}
use Rattle.group_window.specs.Lists.{all_in, ends_from, of_place}

-- ---- one after the other

range_more : (from n : ℕ) → range_with_len from (suc n) ≡ range_with_len from n ++ (from + n) ∷ []
range_more from zero = let e : from ≡ from + 0 = omega arith in ap (λ i. i ∷ []) e
range_more from (suc n) = let e : from + 1 + n ≡ from + suc n = omega arith in ap (λ is. from ∷ is) (range_more (from + 1) n ∙ ap (λ i. range_with_len (from + 1) n ++ i ∷ []) e)

map_both : {X Y : Type 0} (f : X → Y) (xs ys : List X) → map f (xs ++ ys) ≡ map f xs ++ map f ys
map_both f [] ys = refl
map_both f (x ∷ xs) ys = ap (λ zs. f x ∷ zs) (map_both f xs ys)

abbrev pub nothing : ℕ → List ℕ
nothing j = []

pub one_more_empty : (n : ℕ) → map (λ (j : ℕ). nothing j) (range_with_len 0 n) ++ [] ∷ [] ≡ map (λ (j : ℕ). nothing j) (range_with_len 0 (n + 1))
one_more_empty n =
    let next : n + 1 ≡ suc n = omega arith in
    sym (ap (λ m. map nothing (range_with_len 0 m)) next ∙ ap (map nothing) (range_more 0 n) ∙ map_both nothing (range_with_len 0 n) ((0 + n) ∷ []))

drop_front : (ps rest : List ℕ) → drop (length ps) (ps ++ rest) ≡ rest
drop_front [] rest = refl
drop_front (p ∷ ps) rest = drop_front ps rest

take_front : (ps rest : List ℕ) → take (length ps) (ps ++ rest) ≡ ps
take_front [] rest = refl
take_front (p ∷ ps) rest = ap (λ qs. p ∷ qs) (take_front ps rest)

glued : (a b c : List ℕ) → (a ++ b) ++ c ≡ a ++ (b ++ c)
glued [] b c = refl
glued (x ∷ a) b c = ap (λ ys. x ∷ ys) (glued a b c)

-- lists that stand behind some positions are found by their ends
cut_behind : (front : List ℕ) (ls : List (List ℕ)) → cut (front ++ all_in ls) (length front) (ends_from (length front) ls) ≡ ls
cut_behind front [] = refl
cut_behind front (l ∷ ls) =
    let long = length-append front l in
    let first : take (length front + length l - length front) (drop (length front) (front ++ (l ++ all_in ls))) ≡ l =
    ap (λ n. take n (drop (length front) (front ++ (l ++ all_in ls)))) (omega arith) ∙ ap (take (length l)) (drop_front front (l ++ all_in ls)) ∙ take_front l (all_in ls) in
    let rest : cut (front ++ (l ++ all_in ls)) (length front + length l) (ends_from (length front + length l) ls) ≡ ls =
    ap (λ n. cut (front ++ (l ++ all_in ls)) n (ends_from n ls)) (sym long) ∙ ap (λ ps. cut ps (length (front ++ l)) (ends_from (length (front ++ l)) ls)) (sym (glued front l (all_in ls))) ∙ cut_behind (front ++ l) ls in
    ap (λ x. x ∷ cut (front ++ (l ++ all_in ls)) (length front + length l) (ends_from (length front + length l) ls)) first ∙ ap (λ xs. l ∷ xs) rest

ends_behind : (e n : ℕ) (ls : List (List ℕ)) → n ≡ e + length (all_in ls) → AreEnds n e (ends_from e ls)
ends_behind e n [] is = tt
ends_behind e n (l ∷ ls) is =
    let both = length-append l (all_in ls) in
    (omega arith, omega (arith, is, both), ends_behind (e + length l) n ls (omega (arith, is, both)))

pub joined_are : (ls : List (List ℕ)) (ps ends : List ℕ) → ps ≡ all_in ls → ends ≡ ends_from 0 ls → cut ps 0 ends ≡ ls
joined_are ls ps ends e f = rw (e, f) (cut_behind [] ls)

pub joined_ends : (ls : List (List ℕ)) (ps ends : List ℕ) → ps ≡ all_in ls → ends ≡ ends_from 0 ls → AreEnds (length ps) 0 ends
joined_ends ls ps ends e f = rw (e, f) (ends_behind 0 (length (all_in ls)) ls (omega arith))

-- ---- by places

same_on : {X : Type 0} (f g : ℕ → X) (from n : ℕ) → ((i : ℕ) → from ≤ i → i < from + n → f i ≡ g i) → map f (range_with_len from n) ≡ map g (range_with_len from n)
same_on f g from zero same = refl
same_on f g from (suc n) same = ap (λ x. x ∷ map f (range_with_len (from + 1) n)) (same from (omega arith) (omega arith)) ∙ ap (λ xs. g from ∷ xs) (same_on f g (from + 1) n (λ i lo hi. same i (omega arith) (omega arith)))

pub left_on : (f g : ℕ → Bool) (from n : ℕ) → ((i : ℕ) → from ≤ i → i < from + n → f i ≡ g i) → filter f (range_with_len from n) ≡ filter g (range_with_len from n)
left_on f g from zero same = refl
left_on f g from (suc n) same =
    ap (λ b. cond b (from ∷ filter f (range_with_len (from + 1) n)) (filter f (range_with_len (from + 1) n))) (same from (omega arith) (omega arith))
    ∙ ap (λ xs. cond (g from) (from ∷ xs) xs) (left_on f g (from + 1) n (λ i lo hi. same i (omega arith) (omega arith)))

filter_both : {X : Type 0} (f : X → Bool) (xs ys : List X) → filter f (xs ++ ys) ≡ filter f xs ++ filter f ys
filter_both f [] ys = refl
filter_both f (x ∷ xs) ys = by (f x) (filter_both f xs ys)
  where
    by : (b : Bool) → filter f (xs ++ ys) ≡ filter f xs ++ filter f ys → cond b (x ∷ filter f (xs ++ ys)) (filter f (xs ++ ys)) ≡ cond b (x ∷ filter f xs) (filter f xs) ++ filter f ys
    by true e = ap (λ zs. x ∷ zs) e
    by false e = e

before_last : (ps : List ℕ) (x i : ℕ) → i < length ps → get_or (ps ++ x ∷ []) i 0 ≡ get_or ps i 0
before_last [] x i here = absurd (omega arith)
before_last (p ∷ ps) x zero here = refl
before_last (p ∷ ps) x (suc i) here = before_last ps x i (omega arith)

at_last : (ps : List ℕ) (x : ℕ) → get_or (ps ++ x ∷ []) (length ps) 0 ≡ x
at_last [] x = refl
at_last (p ∷ ps) x = at_last ps x

abbrev one_if : Bool → ℕ → List ℕ
one_if b i = cond b (i ∷ []) []

places_more : (ps : List ℕ) (x j : ℕ) → places_of (ps ++ x ∷ []) j ≡ places_of ps j ++ one_if (x == j) (length ps)
unfolding places_of
places_more ps x j =
    let long = length-append ps (x ∷ []) in
    let long1 : length (ps ++ x ∷ []) ≡ suc (length ps) = omega (arith, long) in
    let zero_plus : 0 + length ps ≡ length ps = omega arith in
    let test = λ (p : ℕ). get_or (ps ++ x ∷ []) p 0 == j in
    ap (λ n. filter test (range_with_len 0 n)) long1 ∙ ap (filter test) (range_more 0 (length ps)) ∙ filter_both test (range_with_len 0 (length ps)) ((0 + length ps) ∷ [])
    ∙ ap (λ xs. xs ++ filter test ((0 + length ps) ∷ [])) (left_on test (λ p. get_or ps p 0 == j) 0 (length ps) (λ i lo hi. ap (λ y. y == j) (before_last ps x i (omega arith))))
    ∙ ap (λ n. places_of ps j ++ cond (get_or (ps ++ x ∷ []) n 0 == j) (n ∷ []) []) zero_plus ∙ ap (λ y. places_of ps j ++ one_if (y == j) (length ps)) (at_last ps x)

differs : (i j : ℕ) → i < j → (i == j) ≡ false
differs i j less = grind (arith, nat_tests, less)

pub differs_above : (i j : ℕ) → j < i → (i == j) ≡ false
differs_above i j less = grind (arith, nat_tests, less)

pub same_as_itself : (i : ℕ) → (i == i) ≡ true
same_as_itself i = grind (arith, nat_tests)

is_same : (i j : ℕ) → (i == j) ≡ true → i ≡ j
is_same i j e = eqb-true i j e

set_on : (f : ℕ → List ℕ) (v : List ℕ) (from n x : ℕ) → x < n → slice_set (map f (range_with_len from n)) x v ≡ map (λ j. cond (from + x == j) v (f j)) (range_with_len from n)
set_on f v from zero x here = absurd (omega arith)
set_on f v from (suc n) zero here =
    let own : (from + 0 == from) ≡ true = ap (λ i. i == from) (omega arith) ∙ same_as_itself from in
    ap (λ w. w ∷ map f (range_with_len (from + 1) n)) (sym (ap (λ b. cond b v (f from)) own))
    ∙ ap (λ ws. cond (from + 0 == from) v (f from) ∷ ws) (same_on f (λ j. cond (from + 0 == j) v (f j)) (from + 1) n (λ j lo hi. sym (ap (λ b. cond b v (f j)) (differs (from + 0) j (omega arith)))))
set_on f v from (suc n) (suc x) here =
    ap (λ w. w ∷ slice_set (map f (range_with_len (from + 1) n)) x v) (sym (ap (λ b. cond b v (f from)) (differs_above (from + suc x) from (omega arith))))
    ∙ ap (λ ws. cond (from + suc x == from) v (f from) ∷ ws) (set_on f v (from + 1) n x (omega arith) ∙ ap (λ y. map (λ j. cond (y == j) v (f j)) (range_with_len (from + 1) n)) (omega arith))

got_on : (f : ℕ → List ℕ) (from n x : ℕ) → x < n → get_or (map f (range_with_len from n)) x [] ≡ f (from + x)
got_on f from zero x here = absurd (omega arith)
got_on f from (suc n) zero here = ap f (omega arith)
got_on f from (suc n) (suc x) here = got_on f (from + 1) n x (omega arith) ∙ ap f (omega arith)

range_length : (from n : ℕ) → length (range_with_len from n) ≡ n
range_length from zero = refl
range_length from (suc n) = ap suc (range_length (from + 1) n)

map_length : {X Y : Type 0} (f : X → Y) (xs : List X) → length (map f xs) ≡ length xs
map_length f [] = refl
map_length f (x ∷ xs) = ap suc (map_length f xs)

nil_behind : (xs : List ℕ) → xs ++ [] ≡ xs
nil_behind [] = refl
nil_behind (x ∷ xs) = ap (λ ys. x ∷ ys) (nil_behind xs)

lt_parts : (x n : ℕ) (b : Bool) → nat_lt x n ≡ b → cond b (x < n) (n ≤ x)
lt_parts x n true e = grind (arith, e)
lt_parts x n false e = grind (arith, e)

placed : (count : ℕ) (ps : List ℕ) (x : ℕ) → of_place (bin_lists count ps) x (length ps) ≡ bin_lists count (ps ++ x ∷ [])
unfolding bin_lists
placed count ps x =
    let f = places_of ps in
    let long : length (map f (range_with_len 0 count)) ≡ count = map_length f (range_with_len 0 count) ∙ range_length 0 count in
    ap (λ n. cond (nat_lt x n) (slice_set (map f (range_with_len 0 count)) x (get_or (map f (range_with_len 0 count)) x [] ++ length ps ∷ [])) (map f (range_with_len 0 count))) long
    ∙ by (nat_lt x count) (lt_parts x count (nat_lt x count) refl)
  where
    one : (j : ℕ) (b : Bool) → (x == j) ≡ b → cond b (places_of ps x ++ length ps ∷ []) (places_of ps j) ≡ places_of ps j ++ one_if b (length ps)
    one j true e = ap (λ y. places_of ps y ++ length ps ∷ []) (is_same x j e)
    one j false e = sym (nil_behind (places_of ps j))

    by : (b : Bool) → cond b (x < count) (count ≤ x)
        → cond b (slice_set (map (places_of ps) (range_with_len 0 count)) x (get_or (map (places_of ps) (range_with_len 0 count)) x [] ++ length ps ∷ [])) (map (places_of ps) (range_with_len 0 count)) ≡ map (places_of (ps ++ x ∷ [])) (range_with_len 0 count)
    by true here =
        ap (λ l. slice_set (map (places_of ps) (range_with_len 0 count)) x (l ++ length ps ∷ [])) (got_on (places_of ps) 0 count x here ∙ ap (places_of ps) (omega arith))
        ∙ set_on (places_of ps) (places_of ps x ++ length ps ∷ []) 0 count x here
        ∙ same_on (λ j. cond (0 + x == j) (places_of ps x ++ length ps ∷ []) (places_of ps j)) (places_of (ps ++ x ∷ [])) 0 count
        (λ j lo hi. ap (λ y. cond (y == j) (places_of ps x ++ length ps ∷ []) (places_of ps j)) (omega arith) ∙ one j (x == j) refl ∙ sym (places_more ps x j))
    by false past =
        same_on (places_of ps) (places_of (ps ++ x ∷ [])) 0 count (λ j lo hi. sym (places_more ps x j ∙ ap (λ b. places_of ps j ++ one_if b (length ps)) (differs_above x j (omega arith)) ∙ nil_behind (places_of ps j)))

take_length : (ps : List ℕ) (i : ℕ) → i ≤ length ps → length (take i ps) ≡ i
take_length ps zero le = refl
take_length [] (suc i) le = absurd (omega arith)
take_length (p ∷ ps) (suc i) le = ap suc (take_length ps i (omega arith))

take_more : (ps : List ℕ) (i : ℕ) → i < length ps → take (i + 1) ps ≡ take i ps ++ get_or ps i 0 ∷ []
take_more [] i lt = absurd (omega arith)
take_more (p ∷ ps) zero lt = refl
take_more (p ∷ ps) (suc i) lt = let next : suc i + 1 ≡ suc (i + 1) = omega arith in ap (λ n. take n (p ∷ ps)) next ∙ ap (λ qs. p ∷ qs) (take_more ps i (omega arith))

pub placed_next : (count : ℕ) (places : List ℕ) (i x position : ℕ) (lists next : List (List ℕ)) → lists ≡ bin_lists count (take i places) → position ≡ i → i < length places → x ≡ get_or places i 0 → next ≡ of_place lists x position → next ≡ bin_lists count (take (i + 1) places)
placed_next count places i x position lists next e p lt ex en =
    let long = take_length places i (omega arith) in
    en ∙ ap (λ ls. of_place ls x position) e ∙ ap (of_place (bin_lists count (take i places)) x) (p ∙ sym long) ∙ placed count (take i places) x
    ∙ ap (λ y. bin_lists count (take i places ++ y ∷ [])) ex ∙ ap (bin_lists count) (sym (take_more places i lt))

pub none_placed : (count : ℕ) (lists : List (List ℕ)) → lists ≡ map (λ (j : ℕ). nothing j) (range_with_len 0 count) → lists ≡ bin_lists count []
unfolding bin_lists places_of
none_placed count lists e = e

pub take_whole : (ps : List ℕ) (i : ℕ) → length ps ≤ i → take i ps ≡ ps
take_whole [] zero le = refl
take_whole [] (suc i) le = refl
take_whole (p ∷ ps) zero le = absurd (omega arith)
take_whole (p ∷ ps) (suc i) le = ap (λ qs. p ∷ qs) (take_whole ps i (omega arith))

drop_whole : (ls : List (List ℕ)) (i : ℕ) → length ls ≤ i → drop i ls ≡ []
drop_whole [] zero le = refl
drop_whole [] (suc i) le = refl
drop_whole (l ∷ ls) zero le = absurd (omega arith)
drop_whole (l ∷ ls) (suc i) le = drop_whole ls i (omega arith)

module _ (ls : List (List ℕ)) (ps ends : List ℕ) (i : ℕ) (done : length ls ≤ i) (positions : ps ++ all_in (drop i ls) ≡ all_in ls) (stops : ends ++ ends_from (length ps) (drop i ls) ≡ ends_from 0 ls) where
  positions_done : ps ≡ all_in ls
  positions_done = sym (ap (λ r. ps ++ all_in r) (drop_whole ls i done) ∙ nil_behind ps) ∙ positions

  ends_done : ends ≡ ends_from 0 ls
  ends_done = sym (ap (λ r. ends ++ ends_from (length ps) r) (drop_whole ls i done) ∙ nil_behind ends) ∙ stops

  pub done_are : cut ps 0 ends ≡ ls
  done_are = joined_are ls ps ends positions_done ends_done

  pub done_end : AreEnds (length ps) 0 ends
  done_end = joined_ends ls ps ends positions_done ends_done

pub empties_next : (n : ℕ) (lists next : List (List ℕ)) (new : List ℕ) → next ≡ lists ++ new ∷ [] → lists ≡ map (λ (j : ℕ). nothing j) (range_with_len 0 n) → new ≡ [] → next ≡ map (λ (j : ℕ). nothing j) (range_with_len 0 (n + 1))
empties_next n lists next new e is none = e ∙ ap (λ ls. ls ++ new ∷ []) is ∙ ap (λ (l : List ℕ). map nothing (range_with_len 0 n) ++ l ∷ []) none ∙ one_more_empty n

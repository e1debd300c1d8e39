-- Axes in another order.
use Rattle.std.proofs.Common.{◌≡◌, ◌<◌, ◌≤◌, ◌+◌, ◌-◌, ◌*◌, ◌^◌, ℕ, zero, suc, Bool, true, false, List, [], ◌∷◌, length, min, ◌≢◌, take, set, get_or, replicate, cond, not, ◌||◌, eqb, refl, sym, ap, subst, ◌∙◌, arith, add-one}
use Rattle.std.specs.List.{range_with_len, position_or_len, list_any}
use Rattle.std.proofs.lemmas.List.{length-map, get_or-map, length-set, length-replicate, take_all}
use Rattle.std.proofs.lemmas.List.FromFn.{length-range_with_len, get_or-map-range_with_len}
use Rattle.std.proofs.lemmas.List.Sums.{passes_at_first}
use Rattle.std.proofs.lemmas.Bool.{eqb-true}
use Rattle.xr_types.specs.Points.{size, place, IsPoint}
use Rattle.xr_arrays.specs.Nodes.{IsOrder, moved}
use Rattle.plan_core.specs.Arrangements.{shown, arranged, LieInside}
use Rattle.plan_core.specs.Strides.{reached, strided, Reaches, dot, own_strides, moved_point, moved_sizes, AreMoved, IsMoving}
use Rattle.plan_core.proofs.Tabs.{tab_same, place_below}
use Rattle.plan_core.proofs.Boxes.{reached_dot, dot_own, length-own, first_inside}

-- ---- points

same_length : (s p : List ℕ) → IsPoint s p → length p ≡ length s
same_length [] [] h = refl
same_length [] (i ∷ p) h = absurd h
same_length (n ∷ ns) [] h = absurd h
same_length (n ∷ ns) (i ∷ p) h = ap suc (same_length ns p h.1)

below_at : (s p : List ℕ) (k : ℕ) → IsPoint s p → k < length s → get_or p k 0 < get_or s k 0
below_at [] p k h lt = absurd (omega arith)
below_at (n ∷ ns) [] k h lt = absurd h
below_at (n ∷ ns) (i ∷ p) zero h lt = h.0
below_at (n ∷ ns) (i ∷ p) (suc k) h lt = below_at ns p k h.1 (omega arith)

point_from : (s p : List ℕ) → length p ≡ length s → ((k : ℕ) → k < length s → get_or p k 0 < get_or s k 0) → IsPoint s p
point_from [] [] e h = tt
point_from [] (i ∷ p) e h = absurd (omega arith)
point_from (n ∷ ns) [] e h = absurd (omega arith)
point_from (n ∷ ns) (i ∷ p) e h = (h 0 (omega arith), point_from ns p (omega arith) (λ k lt. h (suc k) (omega arith)))

-- ---- where an axis stands in the order

abbrev pub at_order : List ℕ → ℕ → ℕ
at_order order k = position_or_len (λ o. eqb o k) order

found_step : (b any : Bool) (rest len : ℕ) → (b || any) ≡ true → (any ≡ true → rest < len) → cond (not b) (1 + rest) 0 < suc len
found_step true any rest len h more = omega arith
found_step false any rest len h more = let m = more h in omega (arith, m)

found : (p : ℕ → Bool) (xs : List ℕ) → list_any p xs ≡ true → position_or_len p xs < length xs
found p [] h = absurd cc
found p (x ∷ xs) h = found_step (p x) (list_any p xs) (position_or_len p xs) (length xs) h (found p xs)

pub order_below : (n k : ℕ) (order : List ℕ) → IsOrder n order → k < n → at_order order k < length order
order_below n k order is lt = found (λ o. eqb o k) order (is.1 k lt)

order_holds : (n k : ℕ) (order : List ℕ) → IsOrder n order → k < n → get_or order (at_order order k) 0 ≡ k
order_holds n k order is lt = eqb-true (get_or order (at_order order k) 0) k (passes_at_first (λ o. eqb o k) order 0 (order_below n k order is lt))

moved_at : (order p : List ℕ) (k : ℕ) → k < length order → get_or (moved order p) k 0 ≡ get_or p (at_order order k) 0
moved_at order p k lt = get_or-map-range_with_len (λ k. get_or p (at_order order k) 0) 0 (length order) k k 0 lt (omega arith)

length-moved : (order p : List ℕ) → length (moved order p) ≡ length order
length-moved order p = length-map (range_with_len 0 (length order)) (λ k. get_or p (at_order order k) 0) ∙ length-range_with_len 0 (length order)

pub moving_inside : (s order : List ℕ) → IsOrder (length s) order → LieInside s (moved_sizes order s) (moved_point order)
moving_inside s order is p here =
    point_from s (moved order p) (length-moved order p ∙ is.0)
    (λ k lt.
    let under : k < length order = let e = is.0 in omega (arith, e, lt) in
    let j = at_order order k in
    let at : j < length order = order_below (length s) k order is lt in
    let long : length (moved_sizes order s) ≡ length order = length-map order (λ k. get_or s k 0) in
    let below : get_or p j 0 < get_or (moved_sizes order s) j 0 = below_at (moved_sizes order s) p j here (omega (arith, at, long)) in
    let size_is : get_or (moved_sizes order s) j 0 ≡ get_or s k 0 = get_or-map (λ k. get_or s k 0) order j 0 0 at ∙ ap (λ i. get_or s i 0) (order_holds (length s) k order is lt) in
    let e = moved_at order p k under in
    omega (arith, below, size_is, e))

moved_place : (s order strides p : List ℕ) → AreMoved order (own_strides s) strides → IsPoint (moved_sizes order s) p → reached 0 p strides ≡ place s (moved order p)
moved_place s order strides p are here =
    let z : 0 + dot p strides ≡ dot p strides = omega arith in
    reached_dot 0 p strides ∙ z ∙ are.1 p (same_length (moved_sizes order s) p here ∙ length-map order (λ k. get_or s k 0)) ∙ dot_own s (moved order p)

pub moving_reaches : (s order strides : List ℕ) → IsOrder (length s) order → AreMoved order (own_strides s) strides → Reaches (moved_sizes order s) strides 0 (size s)
moving_reaches s order strides is are p here = subst (λ k. k < size s) (sym (moved_place s order strides p are here)) (place_below s (moved order p) (moving_inside s order is p here))

pub moved_cells : {X : Type 0} (s order strides : List ℕ) (other : X) (xs : List X) → AreMoved order (own_strides s) strides → strided (moved_sizes order s) strides 0 other xs ≡ arranged s (moved_sizes order s) (moved_point order) other xs
moved_cells s order strides other xs are =
    tab_same (moved_sizes order s) (λ p. get_or xs (reached 0 p strides) other) (λ p. shown s xs other (moved_point order p)) (λ p here. ap (λ k. get_or xs k other) (moved_place s order strides p are here))

-- ---- the strides, one axis of the input after the other

dot_set : (p ss : List ℕ) (j x : ℕ) → j < length ss → length p ≡ length ss → dot p (set ss j (get_or ss j 0 + x)) ≡ dot p ss + get_or p j 0 * x
dot_set p [] j x lt e = absurd (omega arith)
dot_set [] (s ∷ ss) j x lt e = absurd (omega arith)
dot_set (i ∷ p) (s ∷ ss) zero x lt e = let d : i * (s + x) ≡ i * s + i * x = grind arith in omega (arith, d)
dot_set (i ∷ p) (s ∷ ss) (suc j) x lt e = let more = dot_set p ss j x (omega arith) (omega arith) in omega (arith, more)

dot_take : (a b : List ℕ) (k : ℕ) → k < length a → k < length b → dot (take (suc k) a) (take (suc k) b) ≡ dot (take k a) (take k b) + get_or a k 0 * get_or b k 0
dot_take [] b k la lb = absurd (omega arith)
dot_take (i ∷ a) [] k la lb = absurd (omega arith)
dot_take (i ∷ a) (s ∷ b) zero la lb = omega arith
dot_take (i ∷ a) (s ∷ b) (suc k) la lb = let more = dot_take a b k (omega arith) (omega arith) in omega (arith, more)

dot_zeros : (p : List ℕ) (n : ℕ) → dot p (replicate n 0) ≡ 0
dot_zeros [] n = refl
dot_zeros (i ∷ p) zero = refl
dot_zeros (i ∷ p) (suc n) = let more = dot_zeros p n in let z : i * 0 ≡ 0 = omega arith in omega (arith, more, z)

-- the strides that the first k axes of the input give
pub record AreSoFar (order own strides : List ℕ) (k : ℕ) : Type 0 where
  pub long : length strides ≡ length order
  pub sums : (p : List ℕ) → length p ≡ length order → dot p strides ≡ dot (take k (moved order p)) (take k own)
  pub small : (j : ℕ) → get_or strides j 0 ≤ k * 2 ^ 50

pub none_so_far : (order own : List ℕ) → AreSoFar order own (replicate (length order) 0) 0
none_so_far order own = record { long = length-replicate (length order) 0; sums = λ p e. dot_zeros p (length order); small = λ j. zeros j (length order) }
  where
    zeros : (j n : ℕ) → get_or (replicate n 0) j 0 ≤ 0 * 2 ^ 50
    zeros j zero = omega arith
    zeros zero (suc n) = omega arith
    zeros (suc j) (suc n) = zeros j n

small_set : (ss : List ℕ) (j x k : ℕ) → ((i : ℕ) → get_or ss i 0 ≤ k * 2 ^ 50) → x ≤ 2 ^ 50 → (i : ℕ) → get_or (set ss j (get_or ss j 0 + x)) i 0 ≤ (k + 1) * 2 ^ 50
small_set [] j x k h le i = omega arith
small_set (s ∷ ss) zero x k h le zero = let a = h 0 in omega (arith, a, le)
small_set (s ∷ ss) zero x k h le (suc i) = let a = h (suc i) in omega (arith, a)
small_set (s ∷ ss) (suc j) x k h le zero = let a = h 0 in omega (arith, a)
small_set (s ∷ ss) (suc j) x k h le (suc i) = small_set ss j x k (λ i. h (suc i)) le i

pub more_so_far : (order own strides more : List ℕ) (k : ℕ) → IsOrder (length own) order → k < length own → get_or own k 0 ≤ 2 ^ 50 → AreSoFar order own strides k → more ≡ set strides (at_order order k) (get_or strides (at_order order k) 0 + get_or own k 0) → AreSoFar order own more (k + 1)
more_so_far order own strides more k is lt small so is_more =
    let j = at_order order k in
    let x = get_or own k 0 in
    let at : j < length order = order_below (length own) k order is lt in
    let long = so.long in
    let next : AreSoFar order own (set strides j (get_or strides j 0 + x)) (k + 1) = record {
      long = length-set strides j (get_or strides j 0 + x) ∙ so.long;
      sums = λ p e.
          let m = moved order p in
          let under : k < length m = let l = length-moved order p in let o = is.0 in omega (arith, l, o, lt) in
          let here : dot p (set strides j (get_or strides j 0 + x)) ≡ dot p strides + get_or p j 0 * x = dot_set p strides j x (omega (arith, at, long)) (omega (arith, e, long)) in
          let there : dot (take (suc k) m) (take (suc k) own) ≡ dot (take k m) (take k own) + get_or m k 0 * x = dot_take m own k under lt in
          here ∙ ap (λ d. d + get_or p j 0 * x) (so.sums p e) ∙ ap (λ d. dot (take k m) (take k own) + d * x) (sym (moved_at order p k (let o = is.0 in omega (arith, o, lt)))) ∙ sym there ∙ ap (λ i. dot (take i m) (take i own)) (sym (add-one k));
      small = small_set strides j x k so.small small;
    } in
    subst (λ (ss : List ℕ). AreSoFar order own ss (k + 1)) (sym is_more) next

pub all_so_far : (order own strides : List ℕ) (k : ℕ) → length order ≡ length own → length own ≤ k → AreSoFar order own strides k → AreMoved order own strides
all_so_far order own strides k long le so = (so.long, λ p e. so.sums p e ∙ ap (λ m. dot m (take k own)) (take_all k (moved order p) (let l = length-moved order p in omega (arith, l, long, le))) ∙ ap (dot (moved order p)) (take_all k own le))

-- ---- what the code has at hand

pub moving_some : (s order sizes : List ℕ) (count : ℕ) → IsMoving s order → sizes ≡ moved_sizes order s → count ≡ min (size sizes) (2 ^ 64 - 1) → count ≢ 0 → 0 < size s
moving_some s order sizes count m is_sizes is some = first_inside s (moved_sizes order s) (moved order) count (moving_inside s order m.each) (is ∙ ap (λ k. min (size k) (2 ^ 64 - 1)) is_sizes) (omega (arith, some))

pub moving_order : (s order own : List ℕ) → IsMoving s order → own ≡ own_strides s → IsOrder (length own) order
moving_order s order own m is = subst (λ n. IsOrder n order) (sym (ap length is ∙ length-own s)) m.each

pub moving_here : (s order own sizes strides : List ℕ) (len : ℕ) → IsMoving s order → sizes ≡ moved_sizes order s → own ≡ own_strides s → AreMoved order own strides → len ≡ size s → Reaches sizes strides 0 len
moving_here s order own sizes strides len m is_sizes is_own are is_len =
    subst (λ (k : List ℕ). Reaches k strides 0 len) (sym is_sizes) (subst (λ k. Reaches (moved_sizes order s) strides 0 k) (sym is_len) (moving_reaches s order strides m.each (subst (λ (k : List ℕ). AreMoved order k strides) is_own are)))

pub moving_lengths : (s order own sizes strides : List ℕ) → sizes ≡ moved_sizes order s → AreMoved order own strides → length strides ≡ length sizes
moving_lengths s order own sizes strides is_sizes are = are.0 ∙ sym (ap length is_sizes ∙ length-map order (λ k. get_or s k 0))

pub moved_here : {X : Type 0} (s order own sizes strides : List ℕ) (other : X) (xs : List X) → sizes ≡ moved_sizes order s → own ≡ own_strides s → AreMoved order own strides → strided sizes strides 0 other xs ≡ arranged s (moved_sizes order s) (moved_point order) other xs
moved_here s order own sizes strides other xs is_sizes is_own are =
    ap (λ (k : List ℕ). strided k strides 0 other xs) is_sizes ∙ moved_cells s order strides other xs (subst (λ (k : List ℕ). AreMoved order k strides) is_own are)

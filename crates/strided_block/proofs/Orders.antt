-- Axes in another order.
use Rattle.std.proofs.Common.{◌≡◌, ◌<◌, ◌≤◌, ◌+◌, ◌*◌, ◌%◌, ℕ, zero, suc, Bool, true, false, List, [], ◌∷◌, length, map, take, get_or, cond, not, ◌||◌, eqb, refl, sym, ap, subst, ◌∙◌, arith, add-one}
use Rattle.std.specs.Prelude.{slice_set}
use Rattle.std.specs.List.{range_with_len, position_or_len, list_any}
use Rattle.std.proofs.lemmas.List.{length-map, get_or-map, take_all}
use Rattle.std.proofs.lemmas.List.FromFn.{length-range_with_len, get_or-map-range_with_len}
use Rattle.std.proofs.lemmas.List.Sums.{passes_at_first}
use Rattle.std.proofs.lemmas.Bool.{eqb-true}
use Rattle.xr_types.specs.Points.{IsPoint}
use Rattle.xr_arrays.specs.Nodes.{IsOrder, moved}
use Rattle.strided_block.specs.Steps.{dot, AreMoved}
use Rattle.strided_block.proofs.Boxes.{point_at}
use Rattle.strided_block.proofs.Steps.{round_step}

point_from : (s p : List ℕ) → length p ≡ length s → ((k : ℕ) → k < length s → get_or p k 0 < get_or s k 0) → IsPoint s p
point_from [] [] e h = tt
point_from [] (i ∷ p) e h = absurd (omega arith)
point_from (n ∷ ns) [] e h = absurd (omega arith)
point_from (n ∷ ns) (i ∷ p) e h = (h 0 (omega arith), point_from ns p (omega arith) (λ k lt. h (suc k) (omega arith)))

-- ---- where an axis stands in the order

abbrev pub at_order : List ℕ → ℕ → ℕ
at_order order k = position_or_len (λ o. eqb o k) order

found_step : (b any : Bool) (rest len : ℕ) → (b || any) ≡ true → (any ≡ true → rest < len) → cond (not b) (1 + rest) 0 < suc len
found_step true any rest len h more = omega arith
found_step false any rest len h more = let m = more h in omega (arith, m)

found : (p : ℕ → Bool) (xs : List ℕ) → list_any p xs ≡ true → position_or_len p xs < length xs
found p [] h = absurd cc
found p (x ∷ xs) h = found_step (p x) (list_any p xs) (position_or_len p xs) (length xs) h (found p xs)

pub order_below : (n k : ℕ) (order : List ℕ) → IsOrder n order → k < n → at_order order k < length order
order_below n k order is lt = found (λ o. eqb o k) order (is.1 k lt)

order_holds : (n k : ℕ) (order : List ℕ) → IsOrder n order → k < n → get_or order (at_order order k) 0 ≡ k
order_holds n k order is lt = eqb-true (get_or order (at_order order k) 0) k (passes_at_first (λ o. eqb o k) order 0 (order_below n k order is lt))

moved_at : (order p : List ℕ) (k : ℕ) → k < length order → get_or (moved order p) k 0 ≡ get_or p (at_order order k) 0
moved_at order p k lt = get_or-map-range_with_len (λ k. get_or p (at_order order k) 0) 0 (length order) k k 0 lt (omega arith)

moved_long : (order p : List ℕ) → length (moved order p) ≡ length order
moved_long order p = length-map (range_with_len 0 (length order)) (λ k. get_or p (at_order order k) 0) ∙ length-range_with_len 0 (length order)

-- a point of the axes in another order is one of the view
pub order_inside : (s order p : List ℕ) → IsOrder (length s) order → IsPoint (map (λ k. get_or s k 0) order) p → IsPoint s (moved order p)
order_inside s order p is here =
    point_from s (moved order p) (moved_long order p ∙ is.0)
    (λ k lt.
    let under : k < length order = let e = is.0 in omega (arith, e, lt) in
    let j = at_order order k in
    let at : j < length order = order_below (length s) k order is lt in
    let long : length (map (λ k. get_or s k 0) order) ≡ length order = length-map order (λ k. get_or s k 0) in
    let below : get_or p j 0 < get_or (map (λ k. get_or s k 0) order) j 0 = point_at (map (λ k. get_or s k 0) order) p j here (omega (arith, at, long)) in
    let size_is : get_or (map (λ k. get_or s k 0) order) j 0 ≡ get_or s k 0 = get_or-map (λ k. get_or s k 0) order j 0 0 at ∙ ap (λ i. get_or s i 0) (order_holds (length s) k order is lt) in
    let e = moved_at order p k under in
    omega (arith, below, size_is, e))

-- ---- the steps, one axis of the view after the other

grouped : (a b c : ℕ) → a + (b + c) ≡ a + b + c
grouped a b c = omega arith

spread : (a i s x d : ℕ) → a + d + i * (s + x) ≡ a + (i * s + d) + i * x
spread a i s x d = grind arith

swapped : (a b c : ℕ) → a + (b + c) ≡ a + c + b
swapped a b c = omega arith

added_last : (a d t : ℕ) → a + d + t ≡ a + t + d
added_last a d t = omega arith

more_steps : (p ss : List ℕ) (j x a : ℕ) → j < length ss → length p ≡ length ss
    → (a + dot p (slice_set ss j ((get_or ss j 0 + x) % 18446744073709551616))) % 18446744073709551616 ≡ (a + dot p ss + get_or p j 0 * x) % 18446744073709551616
more_steps p [] j x a lt e = absurd (omega arith)
more_steps [] (s ∷ ss) j x a lt e = absurd (omega arith)
more_steps (i ∷ p) (s ∷ ss) zero x a lt e =
    let m : ℕ = 18446744073709551616 in
    ap (λ y. y % m) (swapped a (i * ((s + x) % m)) (dot p ss)) ∙ round_step (a + dot p ss) i (s + x) m ∙ ap (λ y. y % m) (spread a i s x (dot p ss))
more_steps (i ∷ p) (s ∷ ss) (suc j) x a lt e =
    let m : ℕ = 18446744073709551616 in
    ap (λ y. y % m) (grouped a (i * s) (dot p (slice_set ss j ((get_or ss j 0 + x) % m)))) ∙ more_steps p ss j x (a + i * s) (omega arith) (omega arith)
    ∙ ap (λ y. (y + get_or p j 0 * x) % m) (sym (grouped a (i * s) (dot p ss)))

dot_take : (a b : List ℕ) (k : ℕ) → k < length a → k < length b → dot (take (suc k) a) (take (suc k) b) ≡ dot (take k a) (take k b) + get_or a k 0 * get_or b k 0
dot_take [] b k la lb = absurd (omega arith)
dot_take (i ∷ a) [] k la lb = absurd (omega arith)
dot_take (i ∷ a) (s ∷ b) zero la lb = omega arith
dot_take (i ∷ a) (s ∷ b) (suc k) la lb = let more = dot_take a b k (omega arith) (omega arith) in omega (arith, more)

no_steps : (p order : List ℕ) → dot p (map (λ k. 0) order) ≡ 0
no_steps [] order = refl
no_steps (i ∷ p) [] = refl
no_steps (i ∷ p) (o ∷ order) = let more = no_steps p order in let z : i * 0 ≡ 0 = omega arith in omega (arith, more, z)

-- the steps that the first k axes of the view give
pub record AreSoFar (order own steps : List ℕ) (k : ℕ) : Type 0 where
  pub long : length steps ≡ length order
  pub sums : (a : ℕ) (p : List ℕ) → length p ≡ length order → (a + dot p steps) % 18446744073709551616 ≡ (a + dot (take k (moved order p)) (take k own)) % 18446744073709551616

pub none_so_far : (order own : List ℕ) → AreSoFar order own (map (λ k. 0) order) 0
none_so_far order own = record { long = length-map order (λ k. 0); sums = λ a p e. ap (λ x. (a + x) % 18446744073709551616) (no_steps p order) }

pub more_so_far : (order own steps more : List ℕ) (k : ℕ) → IsOrder (length own) order → k < length own → AreSoFar order own steps k
    → more ≡ slice_set steps (at_order order k) ((get_or steps (at_order order k) 0 + get_or own k 0) % 18446744073709551616) → AreSoFar order own more (k + 1)
more_so_far order own steps more k is lt so is_more =
    let m : ℕ = 18446744073709551616 in let j = at_order order k in let x = get_or own k 0 in
    let at : j < length order = order_below (length own) k order is lt in let long = so.long in
    let next : AreSoFar order own (slice_set steps j ((get_or steps j 0 + x) % m)) (k + 1) = record {
      long = grind (arith, Rattle.std.proofs.Math.ListN.length-set steps j ((get_or steps j 0 + x) % m)) ∙ so.long;
      sums = λ a p e.
          let all = moved order p in
          let under : k < length all = let l = moved_long order p in let o = is.0 in omega (arith, l, o, lt) in
          let last : get_or all k 0 ≡ get_or p j 0 = moved_at order p k (let o = is.0 in omega (arith, o, lt)) in
          more_steps p steps j x a (omega (arith, at, long)) (omega (arith, e, long))
          ∙ ap (λ y. y % m) (added_last a (dot p steps) (get_or p j 0 * x)) ∙ so.sums (a + get_or p j 0 * x) p e
          ∙ ap (λ y. y % m) (sym (swapped a (dot (take k all) (take k own)) (get_or p j 0 * x)))
          ∙ ap (λ y. (a + (dot (take k all) (take k own) + y * x)) % m) (sym last)
          ∙ ap (λ y. (a + y) % m) (sym (dot_take all own k under lt)) ∙ ap (λ i. (a + dot (take i all) (take i own)) % m) (sym (add-one k));
    } in
    subst (λ (ss : List ℕ). AreSoFar order own ss (k + 1)) (sym is_more) next

pub all_so_far : (order own steps : List ℕ) (k : ℕ) → length order ≡ length own → length own ≤ k → AreSoFar order own steps k → AreMoved order own steps
all_so_far order own steps k long le so = record {
  long = so.long;
  sums = λ a p e. so.sums a p e ∙ ap (λ l. (a + dot l (take k own)) % 18446744073709551616) (take_all k (moved order p) (let l = moved_long order p in omega (arith, l, long, le))) ∙ ap (λ l. (a + dot (moved order p) l) % 18446744073709551616) (take_all k own le);
}

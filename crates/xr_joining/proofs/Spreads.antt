-- The steps by which an array is spread give it spread over the axes.
use Rattle.std.proofs.Common.{◌≡◌, ◌<◌, ◌+◌, ◌==◌, ℕ, zero, suc, Bool, true, false, not, ◌||◌, cond, List, [], ◌∷◌, ◌++◌, length, map, get_or, refl, sym, ap, subst, ◌∙◌, arith}
use Rattle.std.specs.Str.{bytes_eq}
use Rattle.std.specs.List.{range_with_len, position_or_len, list_any, AllByRecursion}
use Rattle.std.proofs.lemmas.Bool.Decides.{nat_tests}
use Rattle.std.proofs.lemmas.Bool.{and_parts, or_parts, not-true}
use Rattle.std.proofs.lemmas.List.{length-map, map-append}
use Rattle.xr_types.specs.declared.axis.Axis.{Axis}
use Rattle.xr_arrays.specs.Arrays.{Array, at, made}
use Rattle.xr_types.specs.Names.{are_distinct}
use Rattle.xr_types.specs.Names.{among}
use Rattle.xr_arrays.specs.Nodes.{moved, widened, without, IsOrder}
use Rattle.xr_types.specs.Points.{IsPoint}
use Rattle.xr_defs.specs.Selecting.{axis_called}
use Rattle.xr_types.specs.Names.{axis_names, shape_over}
use Rattle.xr_defs.specs.Values.{no_axis}
use Rattle.xr_defs.proofs.Spans.{no_more_names}
use Rattle.plan_core.proofs.Tabs.{tab_same}
use Rattle.xr_values.proofs.Named.{bytes_eq_swap}
use Rattle.xr_formulas.specs.declared.chain.Step.{Step}
use Rattle.xr_formulas.specs.declared.chain.Step.TheVariants.{Widen, Reorder}
use Rattle.xr_formulas.specs.Chains.{step_value, steps_value}
use Rattle.xr_operations.specs.Arithmetic.{point_along, position_along}
use Rattle.xr_joining.specs.Spreads.{new_axes, order_in, place_in, spread, spreading, widens, AreSizedIn}
use Rattle.xr_parts.specs.Frames.{IsThere}
use Rattle.xr_parts.proofs.Axes.{called_cons, called_holds, own_axes}
use Rattle.xr_joining.proofs.Cells.{both_points, made_at, read_map}
use Rattle.xr_parts.proofs.Words.{distinct_left, each_left, join, neither, other_name, same_text, AreAbsent}

-- ---- steps one after the other

pub steps_both : (ss ts : List Step) (a : Array) → steps_value (ss ++ ts) a ≡ steps_value ts (steps_value ss a)
steps_both [] ts a = refl
steps_both (s ∷ ss) ts a = steps_both ss ts (step_value s a)

-- ---- axes in front

abbrev pub fronted : List Axis → Array → Array
fronted xs a = steps_value (widens xs) a

pub front_one : (x : Axis) (xs : List Axis) (a : Array) → fronted (x ∷ xs) a ≡ widened (fronted xs a) 0 x.size
front_one x xs a = steps_both (widens xs) (Widen 0 x.size ∷ []) a

pub front_shape : (xs : List Axis) (a : Array) → (fronted xs a).shape ≡ shape_over xs ++ a.shape
front_shape [] a = refl
front_shape (x ∷ xs) a = ap (λ (v : Array). v.shape) (front_one x xs a) ∙ ap (λ s. x.size ∷ s) (front_shape xs a)

pub front_kind : (xs : List Axis) (a : Array) → (fronted xs a).kind ≡ a.kind
front_kind [] a = refl
front_kind (x ∷ xs) a = ap (λ (v : Array). v.kind) (front_one x xs a) ∙ front_kind xs a

front_at : (xs : List Axis) (a : Array) (p q : List ℕ) → IsPoint (shape_over xs) p → IsPoint a.shape q → at (fronted xs a) (p ++ q) ≡ at a q
front_at [] a [] q here there = refl
front_at [] a (i ∷ p) q here there = absurd here
front_at (x ∷ xs) a [] q here there = absurd here
front_at (x ∷ xs) a (i ∷ p) q here there =
    let inner : IsPoint (fronted xs a).shape (p ++ q) = subst (λ s. IsPoint s (p ++ q)) (sym (front_shape xs a)) (both_points (shape_over xs) a.shape p q here.1 there) in
    ap (λ v. at v (i ∷ (p ++ q))) (front_one x xs a) ∙ made_at (fronted xs a).kind (x.size ∷ (fronted xs a).shape) (λ r. at (fronted xs a) (without 0 r)) (i ∷ (p ++ q)) (here.0, inner) ∙ front_at xs a p q here.1 there

-- ---- names by their places

zero_not : (n : ℕ) → (suc n == 0) ≡ false
zero_not n = grind (arith, nat_tests)

not_zero : (n : ℕ) → (0 == suc n) ≡ false
not_zero n = grind (arith, nat_tests)

both_suc : (m n : ℕ) → (suc m == suc n) ≡ (m == n)
both_suc m n = grind (arith, nat_tests)

-- a name has the place of the name that stands there, and no other has
place_is : (ns : List (List ℕ)) (k : ℕ) (name : List ℕ) → are_distinct ns ≡ true → k < length ns → (place_in ns name == k) ≡ bytes_eq name (get_or ns k [])
place_is [] k name d lt = absurd (omega arith)
place_is (n ∷ ns) zero name d lt = by (bytes_eq n name) (bytes_eq_swap name n)
  where
    by : (b : Bool) → bytes_eq name n ≡ b → ((cond b 0 (suc (place_in ns name))) == 0) ≡ bytes_eq name n
    by true e = sym e
    by false e = zero_not (place_in ns name) ∙ sym e
place_is (n ∷ ns) (suc k) name d lt =
    let parts = and_parts (not (among ns n)) (are_distinct ns) d in
    by (bytes_eq n name) refl (not-true (among ns n) parts.0) (place_is ns k name parts.1 (omega arith))
  where
    other : (ms : List (List ℕ)) (j : ℕ) (m : List ℕ) → among ms m ≡ false → j < length ms → bytes_eq m (get_or ms j []) ≡ false
    other [] j m absent here = absurd (omega arith)
    other (o ∷ ms) zero m absent here = (or_parts (bytes_eq m o) (among ms m) absent).0
    other (o ∷ ms) (suc j) m absent here = other ms j m (or_parts (bytes_eq m o) (among ms m) absent).1 (omega arith)

    by : (b : Bool) → bytes_eq n name ≡ b → among ns n ≡ false → (place_in ns name == k) ≡ bytes_eq name (get_or ns k []) → ((cond b 0 (suc (place_in ns name))) == suc k) ≡ bytes_eq name (get_or ns k [])
    by true e absent rest = not_zero k ∙ sym (ap (λ m. bytes_eq m (get_or ns k [])) (sym (same_text n name e)) ∙ other ns k n absent (omega arith))
    by false e absent rest = both_suc (place_in ns name) k ∙ rest

-- where an axis stands among places, its position is the one along it
along_place : (ns : List (List ℕ)) (k : ℕ) (axes : List Axis) (p : List ℕ) → are_distinct ns ≡ true → k < length ns → IsPoint (shape_over axes) p
    → get_or p (position_or_len (λ o. o == k) (order_in ns axes)) 0 ≡ position_along axes p (get_or ns k [])
along_place ns k [] [] d lt here = refl
along_place ns k [] (i ∷ p) d lt here = absurd here
along_place ns k (x ∷ xs) [] d lt here = absurd here
along_place ns k (x ∷ xs) (i ∷ p) d lt here = by (place_in ns x.name == k) (bytes_eq x.name (get_or ns k [])) (place_is ns k x.name d lt) (along_place ns k xs p d lt here.1)
  where
    by : (b c : Bool) → b ≡ c → get_or p (position_or_len (λ o. o == k) (order_in ns xs)) 0 ≡ position_along xs p (get_or ns k [])
        → get_or (i ∷ p) (cond (not b) (1 + position_or_len (λ o. o == k) (order_in ns xs)) 0) 0 ≡ cond c i (position_along xs p (get_or ns k []))
    by true true e rest = refl
    by true false e rest = absurd cc
    by false true e rest = absurd cc
    by false false e rest = (let next : 1 + position_or_len (λ o. o == k) (order_in ns xs) ≡ suc (position_or_len (λ o. o == k) (order_in ns xs)) = omega arith in ap (λ n. get_or (i ∷ p) n 0) next ∙ rest)

-- ---- the axes in front and behind are those of the result

names_get : (xs : List Axis) (k : ℕ) → get_or (axis_names xs) k [] ≡ (get_or xs k no_axis).name
names_get [] k = refl
names_get (x ∷ xs) zero = refl
names_get (x ∷ xs) (suc k) = names_get xs k

size_place : (xs : List Axis) (name : List ℕ) → get_or (shape_over xs) (place_in (axis_names xs) name) 0 ≡ (axis_called xs name).size
size_place [] name = refl
size_place (x ∷ xs) name = by (bytes_eq x.name name) (size_place xs name) ∙ sym (ap (λ (y : Axis). y.size) (called_cons x xs name))
  where
    by : (b : Bool) → get_or (shape_over xs) (place_in (axis_names xs) name) 0 ≡ (axis_called xs name).size
        → get_or (shape_over (x ∷ xs)) (cond b 0 (suc (place_in (axis_names xs) name))) 0 ≡ (cond b x (axis_called xs name)).size
    by true rest = refl
    by false rest = rest

any_place : (ns : List (List ℕ)) (k : ℕ) (xs : List Axis) → are_distinct ns ≡ true → k < length ns → list_any (λ o. o == k) (order_in ns xs) ≡ among (axis_names xs) (get_or ns k [])
any_place ns k [] d lt = refl
any_place ns k (x ∷ xs) d lt =
    ap (λ b. b || list_any (λ o. o == k) (order_in ns xs)) (place_is ns k x.name d lt ∙ bytes_eq_swap x.name (get_or ns k []))
    ∙ ap (λ b. bytes_eq (get_or ns k []) x.name || b) (any_place ns k xs d lt)

module _ (axes own : List Axis) where
  abbrev Sized : Axis → Type 0
  Sized x = (among (axis_names axes) x.name ≡ true) × ((axis_called axes x.name).size ≡ x.size)

  sized_at : (xs : List Axis) (k : ℕ) → AllByRecursion Sized xs → k < length xs → Sized (get_or xs k no_axis)
  sized_at [] k all lt = absurd (omega arith)
  sized_at (x ∷ xs) zero all lt = all.0
  sized_at (x ∷ xs) (suc k) all lt = sized_at xs k all.1 (omega arith)

  abbrev is_new : Axis → Bool
  is_new x = not (among (axis_names own) x.name)

  -- a name of the axes is among those in front or those behind
  all_there : (xs : List Axis) (n : List ℕ) → among (axis_names xs) n ≡ true → among (axis_names (new_axes own xs ++ own)) n ≡ true
  all_there [] n has = absurd cc
  all_there (x ∷ xs) n has = by (bytes_eq n x.name) (among (axis_names own) x.name) refl refl has (all_there xs n)
    where
      behind : (ys : List Axis) → among (axis_names own) n ≡ true → among (axis_names (ys ++ own)) n ≡ true
      behind [] e = e
      behind (y ∷ ys) e = or_yes (bytes_eq n y.name) (behind ys e)
        where
          or_yes : {c : Bool} (b : Bool) → c ≡ true → (b || c) ≡ true
          or_yes true e = refl
          or_yes false e = e

      by : (b o : Bool) → bytes_eq n x.name ≡ b → among (axis_names own) x.name ≡ o → (b || among (axis_names xs) n) ≡ true
          → (among (axis_names xs) n ≡ true → among (axis_names (new_axes own xs ++ own)) n ≡ true)
          → among (axis_names (cond (not o) (x ∷ new_axes own xs) (new_axes own xs) ++ own)) n ≡ true
      by true true e is has rest = behind (new_axes own xs) (ap (among (axis_names own)) (same_text n x.name e) ∙ is)
      by true false e is has rest = ap (λ b. b || among (axis_names (new_axes own xs ++ own)) n) e
      by false true e is has rest = rest has
      by false false e is has rest = ap (λ b. b || among (axis_names (new_axes own xs ++ own)) n) e ∙ rest has

  both_sized : (xs ys : List Axis) → AllByRecursion Sized xs → AllByRecursion Sized ys → AllByRecursion Sized (xs ++ ys)
  both_sized [] ys all more = more
  both_sized (x ∷ xs) ys all more = (all.0, both_sized xs ys all.1 more)

  -- what the array has isn't new
  not_new : (xs : List Axis) (n : List ℕ) → among (axis_names own) n ≡ true → among (axis_names (new_axes own xs)) n ≡ false
  not_new [] n has = refl
  not_new (x ∷ xs) n has = by (among (axis_names own) x.name) refl (not_new xs n has)
    where
      by : (b : Bool) → among (axis_names own) x.name ≡ b → among (axis_names (new_axes own xs)) n ≡ false → among (axis_names (cond (not b) (x ∷ new_axes own xs) (new_axes own xs))) n ≡ false
      by true e rest = rest
      by false e rest = neither (bytes_eq n x.name) (among (axis_names (new_axes own xs)) n) (bytes_eq_swap n x.name ∙ other_name (axis_names own) n x.name has e) rest

  none_new : (ys : List Axis) → AllByRecursion (IsThere own) ys → AreAbsent (axis_names (new_axes own axes)) (axis_names ys)
  none_new [] all = tt
  none_new (y ∷ ys) all = (not_new axes y.name all.0.0, none_new ys all.1)

  named : (xs : List Axis) → AllByRecursion Sized xs → (n : List ℕ) → among (axis_names xs) n ≡ true → among (axis_names axes) n ≡ true
  named xs all n has = let one = called_holds Sized n xs all has in ap (among (axis_names axes)) (sym one.1) ∙ one.0.0

  module _ (d : are_distinct (axis_names axes) ≡ true) (o : are_distinct (axis_names own) ≡ true) (sized : AreSizedIn axes own) where
    abbrev pub whole : List Axis
    whole = new_axes own axes ++ own

    abbrev pub names : List (List ℕ)
    names = axis_names whole

    abbrev pub order : List ℕ
    order = order_in names axes

    pub all_sized : AllByRecursion Sized whole
    all_sized =
        both_sized (new_axes own axes) own
        (each_left (λ (x : Axis). IsThere axes x) Sized is_new (λ x e there. (there.0, ap (λ (y : Axis). y.size) there.1)) axes (own_axes axes d)) sized

    pub all_differ : are_distinct names ≡ true
    all_differ = subst (λ ns. are_distinct ns ≡ true) (sym (map-append (λ (x : Axis). x.name) (new_axes own axes) own)) (join (axis_names (new_axes own axes)) (axis_names own) (record {
      first = distinct_left (λ (x : Axis). x.name) is_new axes d;
      second = o;
      apart = none_new own (own_axes own o);
    }))

    pub long : length whole ≡ length axes
    long =
        let up = no_more_names names (axis_names axes) all_differ (λ n has. named whole all_sized n has) in
        let down = no_more_names (axis_names axes) names d (λ n has. all_there axes n has) in
        let a = length-map whole (λ (x : Axis). x.name) in
        let b = length-map axes (λ (x : Axis). x.name) in
        omega arith

    ranked : length order ≡ length whole
    ranked = length-map axes (λ (x : Axis). place_in names x.name) ∙ sym long

    many : length names ≡ length whole
    many = length-map whole (λ (x : Axis). x.name)

    -- each has a place
    pub ordered : IsOrder (length whole) order
    ordered = (ranked, λ k lt. any_place names k axes all_differ (omega (arith, lt, many)) ∙ ap (among (axis_names axes)) (names_get whole k) ∙ (sized_at whole k all_sized lt).0)

    -- the point of the axes in front and behind
    moved_is : (p : List ℕ) → IsPoint (shape_over axes) p → moved order p ≡ point_along axes whole p
    moved_is p here =
        ap (λ n. map (λ k. get_or p (position_or_len (λ o. o == k) order) 0) (range_with_len 0 n)) ranked
        ∙ read_map (λ k. get_or p (position_or_len (λ o. o == k) order) 0) (λ (x : Axis). position_along axes p x.name) whole no_axis 0
        (λ k lt.
        let same : 0 + k ≡ k = omega arith in
        ap (λ k. get_or p (position_or_len (λ o. o == k) order) 0) same ∙ along_place names k axes p all_differ (omega (arith, lt, many)) here ∙ ap (position_along axes p) (names_get whole k))

    -- ---- the positions are inside

    below : (xs : List Axis) (p : List ℕ) (n : List ℕ) → IsPoint (shape_over xs) p → among (axis_names xs) n ≡ true → position_along xs p n < (axis_called xs n).size
    below [] p n here has = absurd cc
    below (x ∷ xs) [] n here has = absurd here
    below (x ∷ xs) (i ∷ p) n here has = subst (λ (y : Axis). position_along (x ∷ xs) (i ∷ p) n < y.size) (sym (called_cons x xs n)) (by (bytes_eq x.name n) (bytes_eq_swap n x.name) (below xs p n here.1) has)
      where
        by : (b : Bool) → bytes_eq n x.name ≡ b → (among (axis_names xs) n ≡ true → position_along xs p n < (axis_called xs n).size) → (bytes_eq n x.name || among (axis_names xs) n) ≡ true
            → cond b i (position_along xs p n) < (cond b x (axis_called xs n)).size
        by true e rest has = here.0
        by false e rest has = rest (ap (λ b. b || among (axis_names xs) n) (sym e) ∙ has)

    pub inside : (xs : List Axis) (p : List ℕ) → AllByRecursion Sized xs → IsPoint (shape_over axes) p → IsPoint (shape_over xs) (point_along axes xs p)
    inside [] p all here = tt
    inside (x ∷ xs) p all here = (subst (λ n. position_along axes p x.name < n) all.0.1 (below axes p x.name here all.0.0), inside xs p all.1 here)

    -- ---- the array

    module _ (a : Array) (shape : a.shape ≡ shape_over own) where
      front : (fronted (new_axes own axes) a).shape ≡ shape_over whole
      front = front_shape (new_axes own axes) a ∙ ap (λ s. shape_over (new_axes own axes) ++ s) shape ∙ sym (map-append (λ (x : Axis). x.size) (new_axes own axes) own)

      same_shape : map (λ k. get_or (fronted (new_axes own axes) a).shape k 0) order ≡ shape_over axes
      same_shape = ap (λ s. map (λ k. get_or s k 0) order) front ∙ by axes (λ n has. has) (own_axes axes d)
        where
          by : (xs : List Axis) → ((n : List ℕ) → among (axis_names xs) n ≡ true → among (axis_names axes) n ≡ true) → AllByRecursion (IsThere axes) xs → map (λ k. get_or (shape_over whole) k 0) (order_in names xs) ≡ shape_over xs
          by [] sub all = refl
          by (x ∷ xs) sub all =
              let has : among (axis_names axes) x.name ≡ true = all.0.0 in
              let one = called_holds Sized x.name whole all_sized (all_there axes x.name has) in
              let size : (axis_called whole x.name).size ≡ x.size = sym one.0.1 ∙ ap (λ n. (axis_called axes n).size) one.1 ∙ ap (λ (y : Axis). y.size) all.0.1 in
              ap (λ n. n ∷ map (λ k. get_or (shape_over whole) k 0) (order_in names xs)) (size_place whole x.name ∙ size)
              ∙ ap (λ s. x.size ∷ s) (by xs (λ n e. sub n (or_right (bytes_eq n x.name) e)) all.1)
            where
              or_right : {c : Bool} (b : Bool) → c ≡ true → (b || c) ≡ true
              or_right true e = refl
              or_right false e = e

      pub spread_is : steps_value (spreading axes own) a ≡ spread axes own a
      spread_is =
          let w = fronted (new_axes own axes) a in
          steps_both (widens (new_axes own axes)) (Reorder order ∷ []) a
          ∙ ap (λ s. made w.kind s (λ p. at w (moved order p))) same_shape
          ∙ ap (λ k. made k (shape_over axes) (λ p. at w (moved order p))) (front_kind (new_axes own axes) a)
          ∙ ap (λ cs. record { kind = a.kind; shape = shape_over axes; cells = cs }) (tab_same (shape_over axes) (λ p. at w (moved order p)) (λ p. at a (point_along axes own p)) (λ p here.
          ap (at w) (moved_is p here ∙ map-append (λ (x : Axis). position_along axes p x.name) (new_axes own axes) own)
          ∙ front_at (new_axes own axes) a (point_along axes (new_axes own axes) p) (point_along axes own p) (inside (new_axes own axes) p (new_sized) here) (subst (λ s. IsPoint s (point_along axes own p)) (sym shape) (inside own p sized here))))
        where
          new_sized : AllByRecursion Sized (new_axes own axes)
          new_sized = each_left (λ (x : Axis). IsThere axes x) Sized is_new (λ x e there. (there.0, ap (λ (y : Axis). y.size) there.1)) axes (own_axes axes d)

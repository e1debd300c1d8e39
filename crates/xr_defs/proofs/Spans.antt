-- Laws of the span of axes: the axes of each array among them have at most so many points together.
use Rattle.std.proofs.Common.{◌≡◌, ◌≤◌, ◌*◌, ◌+◌, ℕ, Bool, true, false, not, ◌||◌, List, [], ◌∷◌, ◌++◌, length, map, filter, max, refl, sym, ap, ◌∙◌, subst, arith, if◌then◌else◌}
use Rattle.std.proofs.lemmas.Bool.{true≢false, and_parts, and_from, or_left, or_right, or_parts, not-true, not_from_false, false_from_ne_true}
use Rattle.std.proofs.lemmas.Nat.{mul-le}
use Rattle.std.proofs.Math.Nat.{mul_comm, mul_assoc}
use Rattle.std.proofs.lemmas.Slice.Eq.{bytes_eq-Decides}
use Rattle.std.specs.Str.{bytes_eq}
use Rattle.xr_types.specs.declared.axis.Axis.{Axis}
use Rattle.xr_types.specs.Points.{size}
use Rattle.xr_types.specs.Names.{among}
use Rattle.xr_types.specs.Names.{are_distinct}
use Rattle.xr_types.specs.Names.{axis_names, shape_over}
use Rattle.xr_defs.specs.Room.{greatest, once, span}

-- ---- products

-- factor by factor
pub size_up : {X : Type 0} (f g : X → ℕ) (xs : List X) → ((x : X) → f x ≤ g x) → size (map f xs) ≤ size (map g xs)
size_up f g [] le = omega arith
size_up f g (x ∷ xs) le = mul-le (f x) (size (map f xs)) (g x) (size (map g xs)) (le x) (size_up f g xs le)

-- ---- names

both_same : (a b : List ℕ) → bytes_eq a b ≡ true → a ≡ b
both_same a b e = (bytes_eq-Decides a b).0 e

itself : (a : List ℕ) → bytes_eq a a ≡ true
itself a = (bytes_eq-Decides a a).1 refl

other_of : (x y : Bool) → (x || y) ≡ true → x ≡ false → y ≡ true
other_of true y e f = absurd (true≢false f)
other_of false y e f = e

-- each of the first is one of the second
abbrev pub AreAmong : List (List ℕ) → List (List ℕ) → Type 0
AreAmong ns ms = (n : List ℕ) → among ns n ≡ true → among ms n ≡ true

-- those that aren't this one
abbrev others : List ℕ → List (List ℕ) → List (List ℕ)
others m ns = filter (λ n. not (bytes_eq n m)) ns

others_among : (m : List ℕ) (ns : List (List ℕ)) (n : List ℕ) → among (others m ns) n ≡ true → (among ns n ≡ true) × (bytes_eq n m ≡ false)
others_among m [] n e = absurd (true≢false (sym e))
others_among m (k ∷ ns) n e = by (others_among m ns n) (bytes_eq k m) refl e
  where
    first : (among (others m ns) n ≡ true → (among ns n ≡ true) × (bytes_eq n m ≡ false)) → (b : Bool) → bytes_eq n k ≡ b → bytes_eq k m ≡ false → (b || among (others m ns) n) ≡ true → ((b || among ns n) ≡ true) × (bytes_eq n m ≡ false)
    first rest true same other e = (refl, subst (λ a. bytes_eq a m ≡ false) (sym (both_same n k same)) other)
    first rest false same other e = rest e

    by : (among (others m ns) n ≡ true → (among ns n ≡ true) × (bytes_eq n m ≡ false)) → (b : Bool) → bytes_eq k m ≡ b → among (if not b then k ∷ others m ns else others m ns) n ≡ true → (among (k ∷ ns) n ≡ true) × (bytes_eq n m ≡ false)
    by rest true same e = (or_right (bytes_eq n k) (among ns n) (rest e).0, (rest e).1)
    by rest false same e = first rest (bytes_eq n k) refl same e

others_absent : (m : List ℕ) (ns : List (List ℕ)) (n : List ℕ) → among ns n ≡ false → among (others m ns) n ≡ false
others_absent m ns n absent = false_from_ne_true (among (others m ns) n) (λ e. true≢false (sym (others_among m ns n e).0 ∙ absent))

others_distinct : (m : List ℕ) (ns : List (List ℕ)) → are_distinct ns ≡ true → are_distinct (others m ns) ≡ true
others_distinct m [] d = refl
others_distinct m (k ∷ ns) d =
    let parts = and_parts (not (among ns k)) (are_distinct ns) d in
    by (bytes_eq k m) (not-true (among ns k) parts.0) (others_distinct m ns parts.1)
  where
    by : (b : Bool) → among ns k ≡ false → are_distinct (others m ns) ≡ true → are_distinct (if not b then k ∷ others m ns else others m ns) ≡ true
    by true absent rest = rest
    by false absent rest = and_from (not (among (others m ns) k)) (are_distinct (others m ns)) (not_from_false (among (others m ns) k) (others_absent m ns k absent)) rest

-- none of them is the one
others_all : (m : List ℕ) (ns : List (List ℕ)) → among ns m ≡ false → others m ns ≡ ns
others_all m [] absent = refl
others_all m (k ∷ ns) absent =
    let parts = or_parts (bytes_eq m k) (among ns m) absent in
    let differ : bytes_eq k m ≡ false = false_from_ne_true (bytes_eq k m) (λ e. true≢false (sym (subst (λ a. bytes_eq m a ≡ true) (sym (both_same k m e)) (itself m)) ∙ parts.0)) in
    rw differ (ap (λ rest. k ∷ rest) (others_all m ns parts.1))

-- the first, without the second's first
without_first : (m : List ℕ) (ns ms : List (List ℕ)) → AreAmong ns (m ∷ ms) → AreAmong (others m ns) ms
without_first m ns ms sub n e = let there = others_among m ns n e in other_of (bytes_eq n m) (among ms n) (sub n there.0) there.1

none_among : (n : List ℕ) (ns : List (List ℕ)) → AreAmong (n ∷ ns) [] → ⊥
none_among n ns sub = true≢false (sym (sub n (or_left (bytes_eq n n) (among ns n) (itself n))))

-- ---- names that differ are no more than those that they are among

one_out-length : (m : List ℕ) (ns : List (List ℕ)) → are_distinct ns ≡ true → length ns ≤ 1 + length (others m ns)
one_out-length m [] d = omega arith
one_out-length m (k ∷ ns) d =
    let parts = and_parts (not (among ns k)) (are_distinct ns) d in
    by (bytes_eq k m) refl (not-true (among ns k) parts.0) (one_out-length m ns parts.1)
  where
    by : (b : Bool) → bytes_eq k m ≡ b → among ns k ≡ false → length ns ≤ 1 + length (others m ns) → length (k ∷ ns) ≤ 1 + length (if not b then k ∷ others m ns else others m ns)
    by true same absent le = let all : length (others m ns) ≡ length ns = ap length (others_all m ns (subst (λ a. among ns a ≡ false) (both_same k m same) absent)) in omega arith
    by false same absent le = omega arith

pub no_more_names : (ns ms : List (List ℕ)) → are_distinct ns ≡ true → AreAmong ns ms → length ns ≤ length ms
no_more_names [] [] d sub = omega arith
no_more_names (n ∷ ns) [] d sub = absurd (none_among n ns sub)
no_more_names ns (m ∷ ms) d sub =
    let one = one_out-length m ns d in
    let rest = no_more_names (others m ns) ms (others_distinct m ns d) (without_first m ns ms sub) in
    omega arith

-- ---- products over names

one_out : (f : List ℕ → ℕ) (m : List ℕ) (ns : List (List ℕ)) → 1 ≤ f m → are_distinct ns ≡ true → size (map f ns) ≤ f m * size (map f (others m ns))
one_out f m [] pos d = omega arith
one_out f m (k ∷ ns) pos d =
    let parts = and_parts (not (among ns k)) (are_distinct ns) d in
    by (bytes_eq k m) refl (not-true (among ns k) parts.0) (one_out f m ns pos parts.1)
  where
    by : (b : Bool) → bytes_eq k m ≡ b → among ns k ≡ false → size (map f ns) ≤ f m * size (map f (others m ns)) → f k * size (map f ns) ≤ f m * size (map f (if not b then k ∷ others m ns else others m ns))
    by true same absent le =
        let is : k ≡ m = both_same k m same in
        let all : others m ns ≡ ns = others_all m ns (subst (λ a. among ns a ≡ false) is absent) in
        rw (is, all) (omega arith)
    by false same absent le =
        let rest : ℕ = size (map f (others m ns)) in
        let up = mul-le (f k) (size (map f ns)) (f k) (f m * rest) (omega arith) le in
        let turned : f k * (f m * rest) ≡ f m * (f k * rest) = sym (mul_assoc (f k) (f m) rest) ∙ ap (λ a. a * rest) (mul_comm (f k) (f m)) ∙ mul_assoc (f m) (f k) rest in
        omega arith

-- a product over names that differ is no greater than one over names among which they are
pub product_among : (f : List ℕ → ℕ) (ns ms : List (List ℕ)) → ((n : List ℕ) → 1 ≤ f n) → are_distinct ns ≡ true → AreAmong ns ms → size (map f ns) ≤ size (map f (once ms))
product_among f [] [] pos d sub = omega arith
product_among f (n ∷ ns) [] pos d sub = absurd (none_among n ns sub)
product_among f ns (m ∷ ms) pos d sub =
    by (product_among f ns ms pos d) (product_among f (others m ns) ms pos (others_distinct m ns d) (without_first m ns ms sub)) (among ms m) refl
  where
    again : among ms m ≡ true → (n : List ℕ) (b : Bool) → bytes_eq n m ≡ b → (b || among ms n) ≡ true → among ms n ≡ true
    again there n true same e = subst (λ a. among ms a ≡ true) (sym (both_same n m same)) there
    again there n false same e = e

    by : (AreAmong ns ms → size (map f ns) ≤ size (map f (once ms))) → size (map f (others m ns)) ≤ size (map f (once ms)) → (b : Bool) → among ms m ≡ b → size (map f ns) ≤ size (map f (if b then once ms else m ∷ once ms))
    by all rest true there = all (λ n e. again there n (bytes_eq n m) refl (sub n e))
    by all rest false there =
        let one = one_out f m ns (pos m) d in
        let up = mul-le (f m) (size (map f (others m ns))) (f m) (size (map f (once ms))) (omega arith) rest in
        omega arith

-- ---- the greatest size of a name

pub greatest_some : (axes : List Axis) (name : List ℕ) → 1 ≤ greatest axes name
greatest_some [] name = omega arith
greatest_some (x ∷ xs) name = by (bytes_eq name x.name) (greatest_some xs name)
  where
    by : (b : Bool) → 1 ≤ greatest xs name → 1 ≤ (if b then max x.size (greatest xs name) else greatest xs name)
    by true le = omega arith
    by false le = le

-- ---- what a span is above

pub span_above : (f : List ℕ → ℕ) (ns : List (List ℕ)) (axes : List Axis) → are_distinct ns ≡ true → AreAmong ns (axis_names axes) → ((n : List ℕ) → f n ≤ greatest axes n) → size (map f ns) ≤ span axes
unfolding span
span_above f ns axes d sub le =
    let up = size_up f (greatest axes) ns le in
    let over = product_among (greatest axes) ns (axis_names axes) (greatest_some axes) d sub in
    omega arith

once_among : (ns : List (List ℕ)) → AreAmong (once ns) ns
once_among [] n e = e
once_among (m ∷ ns) n e = by (once_among ns n) (among ns m) e
  where
    first : (among (once ns) n ≡ true → among ns n ≡ true) → (b : Bool) → (b || among (once ns) n) ≡ true → (b || among ns n) ≡ true
    first rest true e = refl
    first rest false e = rest e

    by : (among (once ns) n ≡ true → among ns n ≡ true) → (b : Bool) → among (if b then once ns else m ∷ once ns) n ≡ true → (bytes_eq n m || among ns n) ≡ true
    by rest true e = or_right (bytes_eq n m) (among ns n) (rest e)
    by rest false e = first rest (bytes_eq n m) e

once_distinct : (ns : List (List ℕ)) → are_distinct (once ns) ≡ true
once_distinct [] = refl
once_distinct (m ∷ ns) = by (once_distinct ns) (among ns m) refl
  where
    by : are_distinct (once ns) ≡ true → (b : Bool) → among ns m ≡ b → are_distinct (if b then once ns else m ∷ once ns) ≡ true
    by rest true e = rest
    by rest false e = and_from (not (among (once ns) m)) (are_distinct (once ns)) (not_from_false (among (once ns) m) (false_from_ne_true (among (once ns) m) (λ t. true≢false (sym (once_among ns m t) ∙ e)))) rest

-- more names, and greater sizes
pub span_up : (xs ys : List Axis) → AreAmong (axis_names xs) (axis_names ys) → ((n : List ℕ) → greatest xs n ≤ greatest ys n) → span xs ≤ span ys
unfolding span
span_up xs ys sub le = span_above (greatest xs) (once (axis_names xs)) ys (once_distinct (axis_names xs)) (λ n e. sub n (once_among (axis_names xs) n e)) le

-- ---- axes among others

pub front_among : (xs ys : List Axis) → AreAmong (axis_names xs) (axis_names (xs ++ ys))
front_among [] ys n e = absurd (true≢false (sym e))
front_among (x ∷ xs) ys n e = by (bytes_eq n x.name) (front_among xs ys n) e
  where
    by : (b : Bool) → (among (axis_names xs) n ≡ true → among (axis_names (xs ++ ys)) n ≡ true) → (b || among (axis_names xs) n) ≡ true → (b || among (axis_names (xs ++ ys)) n) ≡ true
    by true rest e = refl
    by false rest e = rest e

pub back_among : (xs ys : List Axis) → AreAmong (axis_names ys) (axis_names (xs ++ ys))
back_among [] ys n e = e
back_among (x ∷ xs) ys n e = or_right (bytes_eq n x.name) (among (axis_names (xs ++ ys)) n) (back_among xs ys n e)

pub greatest_both : (xs ys : List Axis) (n : List ℕ) → greatest (xs ++ ys) n ≡ max (greatest xs n) (greatest ys n)
greatest_both [] ys n = let some = greatest_some ys n in omega arith
greatest_both (x ∷ xs) ys n = by (bytes_eq n x.name) (greatest_both xs ys n)
  where
    by : (b : Bool) → greatest (xs ++ ys) n ≡ max (greatest xs n) (greatest ys n)
        → (if b then max x.size (greatest (xs ++ ys) n) else greatest (xs ++ ys) n) ≡ max (if b then max x.size (greatest xs n) else greatest xs n) (greatest ys n)
    by true rest = omega arith
    by false rest = rest

-- the points of axes whose names differ
pub points_below : (xs : List Axis) → size (shape_over xs) ≤ size (map (greatest xs) (axis_names xs))
points_below [] = omega arith
points_below (x ∷ xs) =
    let own : x.size ≤ greatest (x ∷ xs) x.name = rw (itself x.name) (omega arith) in
    let more : (n : List ℕ) → greatest xs n ≤ greatest (x ∷ xs) n = λ n. by (bytes_eq n x.name) (greatest xs n) in
    let rest = points_below xs in
    let up = size_up (greatest xs) (greatest (x ∷ xs)) (axis_names xs) more in
    mul-le x.size (size (shape_over xs)) (greatest (x ∷ xs) x.name) (size (map (greatest (x ∷ xs)) (axis_names xs))) own (omega arith)
  where
    by : (b : Bool) (m : ℕ) → m ≤ (if b then max x.size m else m)
    by true m = omega arith
    by false m = omega arith

-- those of some of the axes, each name once
pub points_above : (xs ys : List Axis) → are_distinct (axis_names xs) ≡ true → AreAmong (axis_names xs) (axis_names ys) → ((n : List ℕ) → greatest xs n ≤ greatest ys n) → size (shape_over xs) ≤ span ys
points_above xs ys d sub le =
    let own = points_below xs in
    let over = span_above (greatest xs) (axis_names xs) ys d sub le in
    omega arith

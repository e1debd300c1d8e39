-- Boxes read by the strides of their list, and axes that stay before those that are folded.
use Rattle.std.proofs.Common.{◌≡◌, ◌<◌, ◌≤◌, ◌+◌, ◌-◌, ◌*◌, ◌^◌, ℕ, zero, suc, List, [], ◌∷◌, ◌++◌, length, drop, get_or, min, Option, refl, sym, ap, ◌∙◌, arith, append_assoc}
use Rattle.std.proofs.lemmas.List.{nil_from_length}
use Rattle.xr_types.specs.Points.{size, place, IsPoint}
use Rattle.plan_core.specs.Arrangements.{shown, arranged}
use Rattle.plan_core.specs.Strides.{reached, strided, Reaches, IsBox, dot, own_strides}
use Rattle.plan_core.proofs.Tabs.{tab-length, place_below}
use Rattle.plan_core.proofs.Takes.{positive, factor}
use Rattle.plan_core.proofs.Strides.{at_axis, first_point, is_first}

pub reached_dot : (start : ℕ) (p ss : List ℕ) → reached start p ss ≡ start + dot p ss
reached_dot start [] ss = omega arith
reached_dot start (i ∷ p) [] = omega arith
reached_dot start (i ∷ p) (s ∷ ss) = reached_dot (start + i * s) p ss ∙ omega arith

pub dot_own : (s p : List ℕ) → dot p (own_strides s) ≡ place s p
dot_own [] [] = refl
dot_own [] (i ∷ p) = refl
dot_own (n ∷ ns) [] = refl
dot_own (n ∷ ns) (i ∷ p) = ap (λ k. i * size ns + k) (dot_own ns p)

pub length-own : (s : List ℕ) → length (own_strides s) ≡ length s
length-own [] = refl
length-own (n ∷ ns) = ap suc (length-own ns)

-- nothing stands in an empty box
pub none_strided : {X : Type 0} (sizes strides : List ℕ) (start count : ℕ) (other : X) (cells : List X) → count ≡ min (size sizes) (2 ^ 64 - 1) → count ≡ 0 → strided sizes strides start other cells ≡ []
none_strided sizes strides start count other cells is none =
    let z : size sizes ≡ 0 = omega arith in
    nil_from_length (strided sizes strides start other cells) (tab-length sizes (λ p. get_or cells (reached start p strides) other) ∙ z)

-- ---- the strides of a list in row order

pub own_more : (s out : List ℕ) (axis stride : ℕ) (base : List ℕ) → axis < length s → stride ≡ size (drop (axis + 1) s) → out ++ own_strides (drop axis s) ≡ base → (out ++ stride ∷ []) ++ own_strides (drop (axis + 1) s) ≡ base
own_more s out axis stride base lt is so_far =
    let here : own_strides (drop axis s) ≡ size (drop (axis + 1) s) ∷ own_strides (drop (axis + 1) s) = ap own_strides (at_axis s axis lt) in
    append_assoc out (stride ∷ []) (own_strides (drop (axis + 1) s)) ∙ ap (λ k. out ++ k ∷ own_strides (drop (axis + 1) s)) is ∙ ap (λ t. out ++ t) (sym here) ∙ so_far

pub behind_small : (s : List ℕ) (axis bound : ℕ) → 0 < size s → size s ≤ bound → size (drop axis s) ≤ bound
behind_small s zero bound some le = le
behind_small [] (suc k) bound some le = le
behind_small (n ∷ ns) (suc k) bound some le =
    let both = positive n (size ns) some in
    let f = factor n (size ns) some in
    behind_small ns k bound both.1 (omega (arith, le, f))

-- ---- what a call has at hand

-- the first cell's box is the whole one
pub whole_box : (sizes strides : List ℕ) (len count : ℕ) → length strides ≡ length sizes → Reaches sizes strides 0 len → len < 2 ^ 63 → count ≡ min (size sizes) (2 ^ 64 - 1) → 0 < count → IsBox sizes strides 0 0 len
whole_box sizes strides len count lengths inside small is some = record { lengths = lengths; axis_is = omega arith; some = omega (arith, is, some); inside = inside; small = small }

pub own_small : (s : List ℕ) (bound : ℕ) → 0 < size s → size s ≤ bound → (k : ℕ) → get_or (own_strides s) k 0 ≤ bound
own_small [] bound some le k = omega arith
own_small (n ∷ ns) bound some le zero = let f = factor n (size ns) some in omega (arith, le, f)
own_small (n ∷ ns) bound some le (suc k) = let both = positive n (size ns) some in let f = factor n (size ns) some in own_small ns bound both.1 (omega (arith, le, f)) k

pub first_inside : (s t : List ℕ) (q : List ℕ → List ℕ) (count : ℕ) → ((p : List ℕ) → IsPoint t p → IsPoint s (q p)) → count ≡ min (size t) (2 ^ 64 - 1) → 0 < count → 0 < size s
first_inside s t q count inside is some = let here = place_below s (q (first_point t)) (inside (first_point t) (is_first t (omega (arith, is, some)))) in omega (arith, here)

pub none_arranged : {X : Type 0} (s t sizes : List ℕ) (point : List ℕ → Option (List ℕ)) (count : ℕ) (hole : X) (xs : List X) → sizes ≡ t → count ≡ min (size sizes) (2 ^ 64 - 1) → count ≡ 0 → arranged s t point hole xs ≡ []
none_arranged s t sizes point count hole xs is_sizes is none =
    let e = is ∙ ap (λ k. min (size k) (2 ^ 64 - 1)) is_sizes in
    let z : size t ≡ 0 = omega arith in
    nil_from_length (arranged s t point hole xs) (tab-length t (λ p. shown s xs hole (point p)) ∙ z)

-- A point as a lead and a rest, and the point at a place.
use Rattle.std.proofs.Common.{◌≡◌, ◌<◌, ◌≤◌, ◌+◌, ◌*◌, ◌/◌, ◌%◌, ℕ, zero, suc, min, List, [], ◌∷◌, ◌++◌, length, get_or, take, drop, refl, sym, ap, subst, ◌∙◌, arith, drop-cons, add-one, append_assoc, length-take}
use Rattle.std.proofs.lemmas.Nat.{div-add-mod', div_below, mod_below}
use Rattle.std.proofs.Math.Nat.{mul_comm}
use Rattle.xr_types.specs.Points.{size, place, IsPoint}
use Rattle.strided_block.specs.Zips.{point_at}
use Rattle.strided_block.proofs.Boxes.{within, place_below, point_drop}

pub lead_point : (ns p : List ℕ) (k : ℕ) → IsPoint ns p → IsPoint (take k ns) (take k p)
lead_point ns p zero i = tt
lead_point [] [] (suc k) i = tt
lead_point [] (c ∷ p) (suc k) i = absurd i
lead_point (n ∷ ns) [] (suc k) i = absurd i
lead_point (n ∷ ns) (c ∷ p) (suc k) i = (i.0, lead_point ns p k i.1)

pub size_split : (ns : List ℕ) (k : ℕ) → size ns ≡ size (take k ns) * size (drop k ns)
size_split ns zero = omega arith
size_split [] (suc k) = refl
size_split (n ∷ ns) (suc k) = let r = size_split ns k in grind (arith, r)

spread : (c a b q m : ℕ) → c * (a * b) + (m * b + q) ≡ (c * a + m) * b + q
spread c a b q m = grind arith

pub place_split : (ns p : List ℕ) (k : ℕ) → IsPoint ns p → place ns p ≡ place (take k ns) (take k p) * size (drop k ns) + place (drop k ns) (drop k p)
place_split ns p zero i = omega arith
place_split [] [] (suc k) i = refl
place_split [] (c ∷ p) (suc k) i = absurd i
place_split (n ∷ ns) [] (suc k) i = absurd i
place_split (n ∷ ns) (c ∷ p) (suc k) i =
    (λ j. c * size_split ns k j + place_split ns p k i.1 j) ∙ spread c (size (take k ns)) (size (drop k ns)) (place (drop k ns) (drop k p)) (place (take k ns) (take k p))

no_zero : (i n m : ℕ) → i < n * m → 0 < m
no_zero i n zero lt = let z : n * 0 ≡ 0 = grind arith in absurd (omega arith)
no_zero i n (suc m) lt = omega arith

-- the point at a place is there
pub point_there : (ns : List ℕ) (i : ℕ) → i < size ns → IsPoint ns (point_at ns i) × (place ns (point_at ns i) ≡ i)
point_there [] i lt = (tt, omega arith)
point_there (n ∷ ns) i lt =
    let m = size ns in let some = no_zero i n m lt in let r = point_there ns (i % m) (mod_below i m some) in let d = div-add-mod' i m in let e = r.1 in
    ((div_below i m n some lt, r.0), omega arith)

nothing_after : (xs : List ℕ) → xs ++ [] ≡ xs
nothing_after [] = refl
nothing_after (x ∷ xs) = ap (λ t. x ∷ t) (nothing_after xs)

drop_past : (xs : List ℕ) (k : ℕ) → length xs ≤ k → drop k xs ≡ []
drop_past [] zero le = refl
drop_past [] (suc k) le = refl
drop_past (x ∷ xs) zero le = absurd (omega arith)
drop_past (x ∷ xs) (suc k) le = drop_past xs k (omega arith)

pub at_least : (m n : ℕ) → 0 < m → n ≤ m * n
at_least zero n h = absurd (omega arith)
at_least (suc m) n h = let e : suc m * n ≡ n + m * n = grind arith in omega arith

some_part : (m n : ℕ) → 0 < m * n → 0 < m
some_part zero n h = let z : 0 * n ≡ 0 = grind arith in absurd (omega arith)
some_part (suc m) n h = omega arith

pub size_part : (ns : List ℕ) (k : ℕ) → 0 < size ns → size (drop k ns) ≤ size ns
size_part ns k h = let e = size_split ns k in let some = some_part (size (take k ns)) (size (drop k ns)) (omega arith) in let l = at_least (size (take k ns)) (size (drop k ns)) some in omega arith

-- the point at a place, axis by axis
module _ (ns : List ℕ) (k left : ℕ) (lt : k < length ns) (inside : left < size (drop k ns)) where
  abbrev pub step : ℕ
  step = size (drop (k + 1) ns)

  here : drop k ns ≡ get_or ns k 0 ∷ drop (k + 1) ns
  here = drop-cons ns k 0 lt ∙ ap (λ m. get_or ns k 0 ∷ drop m ns) (sym (add-one k))

  below : left < get_or ns k 0 * step
  below = subst (λ l. left < size l) here inside

  pub step_some : 0 < step
  step_some = no_zero left (get_or ns k 0) step below

  pub point_more : (so_far whole : List ℕ) → so_far ++ point_at (drop k ns) left ≡ whole → (so_far ++ (left / step) ∷ []) ++ point_at (drop (k + 1) ns) (left % step) ≡ whole
  point_more so_far whole e = append_assoc so_far ((left / step) ∷ []) (point_at (drop (k + 1) ns) (left % step)) ∙ ap (λ l. so_far ++ point_at l left) (sym here) ∙ e

  pub left_below : left % step < step
  left_below = mod_below left step step_some

pub point_end : (ns : List ℕ) (k left : ℕ) (so_far whole : List ℕ) → length ns ≤ k → so_far ++ point_at (drop k ns) left ≡ whole → so_far ≡ whole
point_end ns k left so_far whole le e = sym (nothing_after so_far) ∙ ap (λ l. so_far ++ point_at l left) (sym (drop_past ns k le)) ∙ e

pub point_at_long : (ns : List ℕ) (i : ℕ) → length (point_at ns i) ≡ length ns
point_at_long [] i = refl
point_at_long (n ∷ ns) i = ap suc (point_at_long ns (i % size ns))

-- the counts of leads and of rests, where there are both
pub record Counts (s : List ℕ) (k n row : ℕ) : Type 0 where
  pub count : n ≡ size (drop k s)
  pub inside : row < size (take k s)
  pub small : size (take k s) < 9223372036854775808
  pub room : row * n + n ≤ size s

pub counts : (s : List ℕ) (k n row : ℕ) → n ≡ min (size (drop k s)) 18446744073709551615 → 0 < n → row < min (size (take k s)) 18446744073709551615 → size s < 9223372036854775808 → Counts s k n row
counts s k n row is some lt small =
    let e = size_split s k in let r : ℕ = size (take k s) in let m : ℕ = size (drop k s) in
    let a = at_least r m (omega arith) in let b = at_least m r (omega arith) in let turn = mul_comm m r in
    let exact : n ≡ m = omega arith in let near = within row r m (omega arith) in
    record { count = exact; inside = omega arith; small = omega arith; room = rw exact (omega arith) }

-- what code counts, by the shape
pub part_is : (n : ℕ) (part slice shape : List ℕ) (f : List ℕ → List ℕ) → n ≡ min (size part) 18446744073709551615 → part ≡ f slice → slice ≡ shape → n ≡ min (size (f shape)) 18446744073709551615
part_is n part slice shape f a b c = a ∙ ap (λ l. min (size l) 18446744073709551615) (b ∙ ap f c)

pub none_there : {P : Type 0} (s p : List ℕ) (k n : ℕ) → n ≡ min (size (drop k s)) 18446744073709551615 → n ≡ 0 → IsPoint s p → P
none_there s p k n is none i = let b = place_below (drop k s) (drop k p) (point_drop s p k i) in absurd (omega arith)

pub lead_long : (s : List ℕ) (k row : ℕ) (lead : List ℕ) → lead ≡ point_at (take k s) row → k ≤ length s → length lead ≡ k
lead_long s k row lead e le = let l : length (take k s) ≡ k = omega (arith, length-take k s) in ap length e ∙ point_at_long (take k s) row ∙ l

pub lead_there : (s : List ℕ) (k row : ℕ) (lead : List ℕ) → row < size (take k s) → lead ≡ point_at (take k s) row → k ≤ length s → IsPoint (take (length lead) s) lead
lead_there s k row lead lt e le =
    let l = lead_long s k row lead e le in
    subst (λ m. IsPoint (take m s) lead) (sym l) (subst (IsPoint (take k s)) (sym e) (point_there (take k s) row lt).0)

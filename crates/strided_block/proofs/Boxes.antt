-- Laws of points and boxes: where points of a box lie in its block, and where their cells stand in row order.
use Rattle.std.proofs.Common.{◌≡◌, ◌<◌, ◌≤◌, ◌+◌, ◌*◌, ℕ, zero, suc, List, [], ◌∷◌, ◌++◌, length, take, drop, get_or, refl, ap, ◌∙◌, arith, lit<}
use Rattle.std.proofs.lemmas.Nat.{same_from_place}
use Rattle.xr_types.specs.Points.{size, place, IsPoint}
use Rattle.strided_block.specs.Boxes.{Fits, plus, zeros, along}

pub point_long : (ns ps : List ℕ) → IsPoint ns ps → length ns ≡ length ps
point_long [] [] i = refl
point_long [] (p ∷ ps) i = absurd i
point_long (n ∷ ns) [] i = absurd i
point_long (n ∷ ns) (p ∷ ps) i = let r = point_long ns ps i.1 in omega arith

pub plus_long : (ls ps : List ℕ) → length (plus ls ps) ≡ length ls
plus_long [] ps = refl
plus_long (l ∷ ls) [] = refl
plus_long (l ∷ ls) (p ∷ ps) = let r = plus_long ls ps in omega arith

pub fits_long : (ns ls ss : List ℕ) → Fits ns ls ss → (length ls ≡ length ns) × (length ss ≡ length ns)
fits_long [] [] [] f = (refl, refl)
fits_long [] [] (s ∷ ss) f = absurd f
fits_long [] (l ∷ ls) ss f = absurd f
fits_long (n ∷ ns) [] ss f = absurd f
fits_long (n ∷ ns) (l ∷ ls) [] f = absurd f
fits_long (n ∷ ns) (l ∷ ls) (s ∷ ss) f = let r = fits_long ns ls ss f.1 in (omega arith, omega arith)

-- a point of the box is one of the block
pub plus_inside : (ns ls ss ps : List ℕ) → Fits ns ls ss → IsPoint ss ps → IsPoint ns (plus ls ps)
plus_inside [] [] [] [] f i = tt
plus_inside [] [] [] (p ∷ ps) f i = absurd i
plus_inside [] [] (s ∷ ss) ps f i = absurd f
plus_inside [] (l ∷ ls) ss ps f i = absurd f
plus_inside (n ∷ ns) [] ss ps f i = absurd f
plus_inside (n ∷ ns) (l ∷ ls) [] ps f i = absurd f
plus_inside (n ∷ ns) (l ∷ ls) (s ∷ ss) [] f i = absurd i
plus_inside (n ∷ ns) (l ∷ ls) (s ∷ ss) (p ∷ ps) f i = let a = f.0 in let b = i.0 in (omega arith, plus_inside ns ls ss ps f.1 i.1)

pub zeros_fit : (ns : List ℕ) → Fits ns (zeros ns) ns
zeros_fit [] = tt
zeros_fit (n ∷ ns) = (omega arith, zeros_fit ns)

pub zeros_long : (ns : List ℕ) → length (zeros ns) ≡ length ns
zeros_long [] = refl
zeros_long (n ∷ ns) = ap suc (zeros_long ns)

pub plus-zeros : (ns ps : List ℕ) → length ps ≡ length ns → plus (zeros ns) ps ≡ ps
plus-zeros [] [] e = refl
plus-zeros [] (p ∷ ps) e = absurd (omega arith)
plus-zeros (n ∷ ns) [] e = absurd (omega arith)
plus-zeros (n ∷ ns) (p ∷ ps) e = let z : 0 + p ≡ p = omega arith in (λ i. z i ∷ plus-zeros ns ps (omega arith) i)

pub within : (i n s : ℕ) → i < n → i * s + s ≤ n * s
within i n s h = grind arith

pub place_below : (s p : List ℕ) → IsPoint s p → place s p < size s
place_below [] [] h = lit< tt
place_below [] (i ∷ p) h = absurd h
place_below (n ∷ ns) [] h = absurd h
place_below (n ∷ ns) (i ∷ p) h =
    let near : i * size ns + size ns ≤ n * size ns = within i n (size ns) h.0 in
    let rest : place ns p < size ns = place_below ns p h.1 in
    omega arith

-- two points with one place are one
pub one_point : (ns cs ds : List ℕ) → IsPoint ns cs → IsPoint ns ds → place ns cs ≡ place ns ds → cs ≡ ds
one_point [] [] [] i j e = refl
one_point [] (c ∷ cs) ds i j e = absurd i
one_point [] [] (d ∷ ds) i j e = absurd j
one_point (n ∷ ns) [] ds i j e = absurd i
one_point (n ∷ ns) (c ∷ cs) [] i j e = absurd j
one_point (n ∷ ns) (c ∷ cs) (d ∷ ds) i j e =
    let s = same_from_place c (place ns cs) d (place ns ds) (size ns) (place_below ns cs i.1) (place_below ns ds j.1) e in
    (λ k. s.0 k ∷ one_point ns cs ds i.1 j.1 s.1 k)

-- a point along the last axis has its cell as many places on
pub along_place : (ns cs : List ℕ) (j : ℕ) → IsPoint ns cs → IsPoint ns (along cs j) → place ns (along cs j) ≡ place ns cs + j
along_place [] [] zero i h = refl
along_place [] [] (suc j) i h = absurd h
along_place [] (c ∷ cs) j i h = absurd i
along_place (n ∷ ns) [] j i h = absurd i
along_place (n ∷ []) (c ∷ []) j i h = omega arith
along_place (n ∷ []) (c ∷ d ∷ cs) j i h = absurd i.1
along_place (n ∷ m ∷ ns) (c ∷ []) j i h = absurd i.1
along_place (n ∷ m ∷ ns) (c ∷ d ∷ cs) j i h = let r = along_place (m ∷ ns) (d ∷ cs) j i.1 h.1 in omega arith

pub point_at : (ns cs : List ℕ) (k : ℕ) → IsPoint ns cs → k < length ns → get_or cs k 0 < get_or ns k 0
point_at [] cs k i lt = absurd (omega arith)
point_at (n ∷ ns) [] k i lt = absurd i
point_at (n ∷ ns) (c ∷ cs) zero i lt = i.0
point_at (n ∷ ns) (c ∷ cs) (suc k) i lt = point_at ns cs k i.1 (omega arith)

pub point_drop : (ns cs : List ℕ) (k : ℕ) → IsPoint ns cs → IsPoint (drop k ns) (drop k cs)
point_drop ns cs zero i = i
point_drop [] [] (suc k) i = tt
point_drop [] (c ∷ cs) (suc k) i = absurd i
point_drop (n ∷ ns) [] (suc k) i = absurd i
point_drop (n ∷ ns) (c ∷ cs) (suc k) i = point_drop ns cs k i.1

pub get-plus : (ls ps : List ℕ) (k : ℕ) → k < length ls → k < length ps → get_or (plus ls ps) k 0 ≡ get_or ls k 0 + get_or ps k 0
get-plus [] ps k a b = absurd (omega arith)
get-plus (l ∷ ls) [] k a b = absurd (omega arith)
get-plus (l ∷ ls) (p ∷ ps) zero a b = refl
get-plus (l ∷ ls) (p ∷ ps) (suc k) a b = get-plus ls ps k (omega arith) (omega arith)

pub get-plus_past : (ls ps : List ℕ) (k : ℕ) → length ps ≤ k → get_or (plus ls ps) k 0 ≡ get_or ls k 0
get-plus_past [] ps k le = refl
get-plus_past (l ∷ ls) [] k le = refl
get-plus_past (l ∷ ls) (p ∷ ps) zero le = absurd (omega arith)
get-plus_past (l ∷ ls) (p ∷ ps) (suc k) le = get-plus_past ls ps k (omega arith)

pub zeros-more : (xs : List ℕ) (i : ℕ) → i < length xs → zeros (take (i + 1) xs) ≡ zeros (take i xs) ++ 0 ∷ []
zeros-more [] i lt = absurd (omega arith)
zeros-more (x ∷ xs) zero lt = refl
zeros-more (x ∷ xs) (suc i) lt = let more : suc i + 1 ≡ suc (i + 1) = omega arith in ap (λ n. zeros (take n (x ∷ xs))) more ∙ ap (λ t. 0 ∷ t) (zeros-more xs i (omega arith))

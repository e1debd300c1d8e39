-- Places that are counted in steps, round 2^64.
use Rattle.std.proofs.Common.{map, ◌≡◌, ◌<◌, ◌≤◌, ◌+◌, ◌-◌, ◌*◌, ◌/◌, ◌%◌, ℕ, ℤ, zero, suc, pos, negsuc, List, [], ◌∷◌, ◌++◌, length, take, drop, get_or, refl, sym, ap, ◌∙◌, arith, insert, drop-cons, add-one, append_assoc}
use Rattle.std.specs.Prelude.{slice_set}
use Rattle.std.proofs.Math.Nat.{add-mod-mod, add-mul-mod_self_right}
use Rattle.std.proofs.lemmas.List.{take_all}
use Rattle.std.proofs.lemmas.Nat.{div-add-mod', mul-mod_second}
use Rattle.xr_types.specs.Points.{size, place, IsPoint}
use Rattle.xr_arrays.specs.Nodes.{without}
use Rattle.strided_block.specs.Boxes.{moved, zeros}
use Rattle.strided_block.specs.Steps.{dot, row_steps, stepped, StepsWithin, IsRound}

-- ---- sums round a number

pub rounds : (n s m : ℕ) → (n * (s % m)) % m ≡ (n * s) % m
rounds n s m = mul-mod_second n s m

pub round_size : (ns : List ℕ) (n : ℕ) → 1 ≤ length ns → n ≡ size (take (length ns - 1) (drop 1 ns)) % 18446744073709551616 → (get_or ns 0 0 * n) % 18446744073709551616 ≡ size ns % 18446744073709551616
round_size [] n some e = absurd (omega arith)
round_size (m ∷ ns) n some e = ap (λ x. (m * x) % 18446744073709551616) (e ∙ ap (λ l. size l % 18446744073709551616) (take_all (length (m ∷ ns) - 1) ns (omega arith))) ∙ rounds m (size ns) 18446744073709551616

grouped : (a b c : ℕ) → a + (b + c) ≡ a + b + c
grouped a b c = omega arith

last_two : (a b c : ℕ) → a + b + c ≡ a + c + b
last_two a b c = omega arith

pub round_first : (a b m : ℕ) → (a % m + b) % m ≡ (a + b) % m
round_first a b m = let there : a % m + b ≡ b + a % m = omega arith in let back : b + a ≡ a + b = omega arith in ap (λ x. x % m) there ∙ add-mod-mod b a m ∙ ap (λ x. x % m) back

-- a start that is moved
pub round_start : (a b r m : ℕ) → ((a + b % m) % m + r) % m ≡ (a + (b + r)) % m
round_start a b r m = round_first (a + b % m) r m ∙ ap (λ x. x % m) (last_two a (b % m) r) ∙ add-mod-mod (a + r) b m ∙ ap (λ x. x % m) (last_two a r b ∙ sym (grouped a b r))

parted : (y i q m r : ℕ) → y + i * (q * m + r) ≡ y + i * r + i * q * m
parted y i q m r = grind arith

-- a step counts round the number too
pub round_step : (y i s m : ℕ) → (y + i * (s % m)) % m ≡ (y + i * s) % m
round_step y i s m = sym (ap (λ x. (y + i * x) % m) (sym (div-add-mod' s m)) ∙ ap (λ x. x % m) (parted y i (s / m) m (s % m)) ∙ add-mul-mod_self_right (y + i * (s % m)) (i * (s / m)) m)

-- ---- points in row order

pub row_place : (ns p : List ℕ) (x : ℕ) → (x + dot p (row_steps ns)) % 18446744073709551616 ≡ (x + place ns p) % 18446744073709551616
row_place [] [] x = refl
row_place [] (c ∷ p) x = refl
row_place (n ∷ ns) [] x = refl
row_place (n ∷ ns) (c ∷ p) x =
    let m : ℕ = 18446744073709551616 in
    ap (λ y. y % m) (grouped x (c * (size ns % m)) (dot p (row_steps ns))) ∙ row_place ns p (x + c * (size ns % m))
    ∙ ap (λ y. y % m) (last_two x (c * (size ns % m)) (place ns p)) ∙ round_step (x + place ns p) c (size ns) m
    ∙ ap (λ y. y % m) (last_two x (place ns p) (c * size ns) ∙ sym (grouped x (c * size ns) (place ns p)))

pub row_long : (ns : List ℕ) → length (row_steps ns) ≡ length ns
row_long [] = refl
row_long (n ∷ ns) = ap suc (row_long ns)

pub row_drop : (ns : List ℕ) (k : ℕ) → drop k (row_steps ns) ≡ row_steps (drop k ns)
row_drop ns zero = refl
row_drop [] (suc k) = refl
row_drop (n ∷ ns) (suc k) = row_drop ns k

-- one step more
pub row_next : (ns so_far new : List ℕ) (k n : ℕ) → k < length ns → n ≡ size (drop (k + 1) ns) % 18446744073709551616 → so_far ++ row_steps (drop k ns) ≡ row_steps ns → new ≡ so_far ++ n ∷ [] → new ++ row_steps (drop (k + 1) ns) ≡ row_steps ns
row_next ns so_far new k n lt is e more =
    let rest : List ℕ = drop (k + 1) ns in
    let here : drop k ns ≡ get_or ns k 0 ∷ rest = drop-cons ns k 0 lt ∙ ap (λ m. get_or ns k 0 ∷ drop m ns) (sym (add-one k)) in
    ap (λ l. l ++ row_steps rest) more ∙ append_assoc so_far (n ∷ []) (row_steps rest) ∙ ap (λ x. so_far ++ x ∷ row_steps rest) is ∙ ap (λ l. so_far ++ row_steps l) (sym here) ∙ e

pub zero_next : (ns so_far new : List ℕ) (k : ℕ) → k < length ns → so_far ++ map (λ n. 0) (drop k ns) ≡ map (λ n. 0) ns → new ≡ so_far ++ 0 ∷ [] → new ++ map (λ n. 0) (drop (k + 1) ns) ≡ map (λ n. 0) ns
zero_next ns so_far new k lt e more =
    let rest : List ℕ = drop (k + 1) ns in
    let here : drop k ns ≡ get_or ns k 0 ∷ rest = drop-cons ns k 0 lt ∙ ap (λ m. get_or ns k 0 ∷ drop m ns) (sym (add-one k)) in
    ap (λ l. l ++ map (λ n. 0) rest) more ∙ append_assoc so_far (0 ∷ []) (map (λ n. 0) rest) ∙ ap (λ l. so_far ++ map (λ n. 0) l) (sym here) ∙ e

-- ---- points and their steps

pub dot_none : (p : List ℕ) → dot p [] ≡ 0
dot_none [] = refl
dot_none (c ∷ p) = refl

pub dot_append : (p q ss : List ℕ) → dot (p ++ q) ss ≡ dot p ss + dot q (drop (length p) ss)
dot_append [] q ss = omega arith
dot_append (c ∷ p) q [] = let z = dot_none q in omega arith
dot_append (c ∷ p) q (s ∷ ss) = ap (λ x. c * s + x) (dot_append p q ss) ∙ grouped (c * s) (dot p ss) (dot q (drop (length p) ss))

pub dot_moved : (ps ss : List ℕ) (k by : ℕ) → k < length ps → k < length ss → dot (moved ps k by) ss ≡ by * get_or ss k 0 + dot ps ss
dot_moved [] ss k by a b = absurd (omega arith)
dot_moved (p ∷ ps) [] k by a b = absurd (omega arith)
dot_moved (p ∷ ps) (s ∷ ss) zero by a b = grind arith
dot_moved (p ∷ ps) (s ∷ ss) (suc k) by a b = let r = dot_moved ps ss k by (omega arith) (omega arith) in omega arith

dot_set : (ps ss : List ℕ) (k q : ℕ) → k < length ps → k < length ss → dot (slice_set ps k q) ss ≡ q * get_or ss k 0 + dot (slice_set ps k 0) ss
dot_set [] ss k q a b = absurd (omega arith)
dot_set (p ∷ ps) [] k q a b = absurd (omega arith)
dot_set (p ∷ ps) (s ∷ ss) zero q a b = grind arith
dot_set (p ∷ ps) (s ∷ ss) (suc k) q a b = let r = dot_set ps ss k q (omega arith) (omega arith) in omega arith

dot_steps : (ps ss : List ℕ) (k t : ℕ) → k < length ps → k < length ss → dot ps (slice_set ss k t) ≡ get_or ps k 0 * t + dot (slice_set ps k 0) ss
dot_steps [] ss k t a b = absurd (omega arith)
dot_steps (p ∷ ps) [] k t a b = absurd (omega arith)
dot_steps (p ∷ ps) (s ∷ ss) zero t a b = grind arith
dot_steps (p ∷ ps) (s ∷ ss) (suc k) t a b = let r = dot_steps ps ss k t (omega arith) (omega arith) in omega arith

pub dot_zeros : (ns ss : List ℕ) → dot (zeros ns) ss ≡ 0
dot_zeros [] ss = refl
dot_zeros (n ∷ ns) [] = refl
dot_zeros (n ∷ ns) (s ∷ ss) = let r = dot_zeros ns ss in omega arith

pub dot_line : (ns ss : List ℕ) (k j : ℕ) → k < length ns → k < length ss → dot (slice_set (zeros ns) k j) ss ≡ j * get_or ss k 0
dot_line [] ss k j a b = absurd (omega arith)
dot_line (n ∷ ns) [] k j a b = absurd (omega arith)
dot_line (n ∷ ns) (s ∷ ss) zero j a b = let r = dot_zeros ns ss in omega arith
dot_line (n ∷ ns) (s ∷ ss) (suc k) j a b = let r = dot_line ns ss k j (omega arith) (omega arith) in omega arith

-- the point's steps that are left at an axis
pub dot_next : (ps ss : List ℕ) (k at : ℕ) → k < length ps → length ps ≤ length ss → at + dot (drop k ps) (drop k ss) ≡ at + (get_or ps k 0 * get_or ss k 0 + dot (drop (k + 1) ps) (drop (k + 1) ss))
dot_next [] ss k at a b = absurd (omega arith)
dot_next (p ∷ ps) [] k at a b = absurd (omega arith)
dot_next (p ∷ ps) (s ∷ ss) zero at a b = refl
dot_next (p ∷ ps) (s ∷ ss) (suc k) at a b = let more : suc k + 1 ≡ suc (k + 1) = omega arith in
    dot_next ps ss k at (omega arith) (omega arith) ∙ ap (λ n. at + (get_or ps k 0 * get_or ss k 0 + dot (drop n (p ∷ ps)) (drop n (s ∷ ss)))) (sym more)

pub dot_end : (ps ss : List ℕ) (k : ℕ) → length ps ≤ k → dot (drop k ps) (drop k ss) ≡ 0
dot_end [] ss zero le = refl
dot_end [] ss (suc k) le = refl
dot_end (p ∷ ps) ss zero le = absurd (omega arith)
dot_end (p ∷ ps) [] (suc k) le = dot_none (drop k ps)
dot_end (p ∷ ps) (s ∷ ss) (suc k) le = dot_end ps ss k (omega arith)

-- ---- every so many positions

turned : (q j s r x : ℕ) → (q + j * s) * x + j * (x * r) ≡ q * x + j * x * (r + s)
turned q j s r x = grind arith

onward : (f j b x : ℕ) → f * x + j * (x * b) ≡ (f + j * b) * x + 0 * 18446744073709551616
onward f j b x = grind arith

-- the position that is stepped to, and so many times round
lands : (size from count j n x : ℕ) (step : ℤ) → IsRound step n → StepsWithin size from step count → j < count → (z : ℕ) × (from * x + j * (x * n) ≡ stepped from step j * x + z * 18446744073709551616)
lands size from count j n x (pos by) is within lt = (0, ap (λ b. from * x + j * (x * b)) is ∙ onward from j by x)
lands size from count j n x (negsuc by) is within lt =
    let q : ℕ = from - j * suc by in let le = (within j lt).0 in let whole : from ≡ q + j * suc by = omega arith in
    (j * x, ap (λ f. f * x + j * (x * n)) whole ∙ turned q j (suc by) n x ∙ ap (λ m. q * x + j * x * m) is)

stepped_below : (size from count j : ℕ) (step : ℤ) → StepsWithin size from step count → j < count → stepped from step j < size
stepped_below size from count j (pos by) within lt = within j lt
stepped_below size from count j (negsuc by) within lt = (within j lt).1

set_inside : (ss ps : List ℕ) (k n q : ℕ) → IsPoint (slice_set ss k n) ps → q < get_or ss k 0 → IsPoint ss (slice_set ps k q)
set_inside [] [] k n q i lt = tt
set_inside [] (p ∷ ps) k n q i lt = absurd i
set_inside (s ∷ ss) [] zero n q i lt = absurd i
set_inside (s ∷ ss) [] (suc k) n q i lt = absurd i
set_inside (s ∷ ss) (p ∷ ps) zero n q i lt = (lt, i.1)
set_inside (s ∷ ss) (p ∷ ps) (suc k) n q i lt = (i.0, set_inside ss ps k n q i.1 lt)

below_set : (ss ps : List ℕ) (k n : ℕ) → IsPoint (slice_set ss k n) ps → k < length ss → get_or ps k 0 < n
below_set [] ps k n i lt = absurd (omega arith)
below_set (s ∷ ss) [] zero n i lt = absurd i
below_set (s ∷ ss) [] (suc k) n i lt = absurd i
below_set (s ∷ ss) (p ∷ ps) zero n i lt = i.0
below_set (s ∷ ss) (p ∷ ps) (suc k) n i lt = below_set ss ps k n i.1 (omega arith)

-- a point of the steps is one of the view
pub step_inside : (ss ps : List ℕ) (k from : ℕ) (step : ℤ) (count : ℕ) → k < length ss → StepsWithin (get_or ss k 0) from step count → IsPoint (slice_set ss k count) ps → IsPoint ss (slice_set ps k (stepped from step (get_or ps k 0)))
step_inside ss ps k from step count lt within i = set_inside ss ps k count (stepped from step (get_or ps k 0)) i (stepped_below (get_or ss k 0) from count (get_or ps k 0) step within (below_set ss ps k count i lt))

inner : (a f t d : ℕ) → a + (f + (t + d)) ≡ a + f + d + t
inner a f t d = omega arith

landed : (a f t d q z : ℕ) → f + t ≡ q + z → a + f + d + t ≡ a + (q + d) + z
landed a f t d q z e = omega arith

-- where the cell of a point of the steps lies
pub step_spot : (ps ss : List ℕ) (k a from n count size : ℕ) (step : ℤ) → k < length ps → k < length ss → IsRound step n → StepsWithin size from step count → get_or ps k 0 < count
    → ((a + (from * get_or ss k 0) % 18446744073709551616) % 18446744073709551616 + dot ps (slice_set ss k ((get_or ss k 0 * n) % 18446744073709551616))) % 18446744073709551616 ≡ (a + dot (slice_set ps k (stepped from step (get_or ps k 0))) ss) % 18446744073709551616
step_spot ps ss k a from n count size step in_ps in_ss is within lt =
    let m : ℕ = 18446744073709551616 in let x : ℕ = get_or ss k 0 in let j : ℕ = get_or ps k 0 in let d : ℕ = dot (slice_set ps k 0) ss in let q : ℕ = stepped from step j in
    let l = lands size from count j n x step is within lt in
    round_start a (from * x) (dot ps (slice_set ss k ((x * n) % m))) m
    ∙ ap (λ t. (a + (from * x + t)) % m) (dot_steps ps ss k ((x * n) % m) in_ps in_ss)
    ∙ ap (λ t. t % m) (inner a (from * x) (j * ((x * n) % m)) d)
    ∙ round_step (a + from * x + d) j (x * n) m
    ∙ ap (λ t. t % m) (landed a (from * x) (j * (x * n)) d (q * x) (l.0 * m) l.1)
    ∙ add-mul-mod_self_right (a + (q * x + d)) l.0 m
    ∙ ap (λ t. (a + t) % m) (sym (dot_set ps ss k q in_ps in_ss))

-- ---- an axis more

pub without_inside : (ss ps : List ℕ) (k n : ℕ) → k ≤ length ss → IsPoint (insert ss k n) ps → IsPoint ss (without k ps)
without_inside ss [] zero n le i = absurd i
without_inside ss (p ∷ ps) zero n le i = i.1
without_inside [] ps (suc k) n le i = absurd (omega arith)
without_inside (s ∷ ss) [] (suc k) n le i = absurd i
without_inside (s ∷ ss) (p ∷ ps) (suc k) n le i = (i.0, without_inside ss ps k n (omega arith) i.1)

pub dot_without : (ps ss : List ℕ) (k : ℕ) → k ≤ length ss → dot ps (insert ss k 0) ≡ dot (without k ps) ss
dot_without [] ss zero le = refl
dot_without (p ∷ ps) ss zero le = let z : p * 0 + dot ps ss ≡ dot ps ss = omega arith in z
dot_without ps [] (suc k) le = absurd (omega arith)
dot_without [] (s ∷ ss) (suc k) le = refl
dot_without (p ∷ ps) (s ∷ ss) (suc k) le = ap (λ x. p * s + x) (dot_without ps ss k (omega arith))

pub added_long : (xs : List ℕ) (k n : ℕ) → k ≤ length xs → length (insert xs k n) ≡ suc (length xs)
added_long xs zero n le = refl
added_long [] (suc k) n le = absurd (omega arith)
added_long (x ∷ xs) (suc k) n le = ap suc (added_long xs k n (omega arith))

pub added_is : (xs : List ℕ) (k n : ℕ) → k ≤ length xs → take k xs ++ n ∷ drop k xs ≡ insert xs k n
added_is xs zero n le = refl
added_is [] (suc k) n le = absurd (omega arith)
added_is (x ∷ xs) (suc k) n le = ap (λ l. x ∷ l) (added_is xs k n (omega arith))

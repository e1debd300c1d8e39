-- Laws of lists in row order.
use Rattle.std.proofs.Common.{◌≡◌, ◌<◌, ◌≤◌, ◌+◌, ◌-◌, ◌*◌, ℕ, zero, suc, List, [], ◌∷◌, ◌++◌, length, map, take, drop, get_or, refl, sym, ap, ◌∙◌, arith, drop-cons, length-append, lit<}
use Rattle.std.proofs.lemmas.List.{take_at, drop_at, take_all, drop-drop, map-append}
use Rattle.std.proofs.lemmas.List.Elements.{All-head, All-tail, All-cons, All-append}
use Rattle.std.proofs.Math.Seq.{take-add}
use Rattle.std.specs.List.{All, flat_map, zip, range_with_len}
use Rattle.xr_types.specs.Points.{size, tab, place, IsPoint}

pub suc_times : (n s : ℕ) → suc n * s ≡ s + n * s
suc_times n s = grind arith

pub zero_times : (s : ℕ) → 0 * s ≡ 0
zero_times s = grind arith

pub within : (i n s : ℕ) → i < n → i * s + s ≤ n * s
within i n s h = grind arith

-- ---- lists made of parts

pub flat_same : {X : Type 0} (f g : ℕ → List X) (a n : ℕ) → ((i : ℕ) → a ≤ i → i < a + n → f i ≡ g i) → flat_map f (range_with_len a n) ≡ flat_map g (range_with_len a n)
flat_same f g a zero h = refl
flat_same f g a (suc n) h =
    let here : f a ≡ g a = h a (omega arith) (omega arith) in
    let rest : flat_map f (range_with_len (a + 1) n) ≡ flat_map g (range_with_len (a + 1) n) = flat_same f g (a + 1) n (λ i lo hi. h i (omega arith) (omega arith)) in
    rw (here, rest) refl

pub flat_agree : {A X : Type 0} (P : A → Type 0) (f g : A → List X) (items : List A) → All P items → ((a : A) → P a → f a ≡ g a) → flat_map f items ≡ flat_map g items
flat_agree P f g [] all h = refl
flat_agree P f g (a ∷ rest) all h = ap (λ t. t ++ flat_map f rest) (h a (All-head P a rest all)) ∙ ap (λ t. g a ++ t) (flat_agree P f g rest (All-tail P a rest all) h)

-- a list by its indices
pub flat_indexed : {A X : Type 0} (g : A → List X) (items : List A) (a : ℕ) (d : A) → flat_map (λ j. g (get_or items (j - a) d)) (range_with_len a (length items)) ≡ flat_map g items
flat_indexed g [] a d = refl
flat_indexed g (x ∷ rest) a d =
    let here : a - a ≡ 0 = omega arith in
    ap (λ t. t ++ flat_map (λ j. g (get_or (x ∷ rest) (j - a) d)) (range_with_len (a + 1) (length rest))) (ap (λ k. g (get_or (x ∷ rest) k d)) here)
    ∙ ap (λ t. g x ++ t) (flat_same (λ j. g (get_or (x ∷ rest) (j - a) d)) (λ j. g (get_or rest (j - (a + 1)) d)) (a + 1) (length rest) (λ j lo hi. let k : j - a ≡ suc (j - (a + 1)) = omega arith in ap (λ k. g (get_or (x ∷ rest) k d)) k) ∙ flat_indexed g rest (a + 1) d)

pub flat_by_index : {A X : Type 0} (g : A → List X) (items : List A) (d : A) → flat_map g items ≡ flat_map (λ j. g (get_or items j d)) (range_with_len 0 (length items))
flat_by_index g items d =
    sym (flat_indexed g items 0 d) ∙ flat_same (λ j. g (get_or items (j - 0) d)) (λ j. g (get_or items j d)) 0 (length items) (λ j lo hi. let z : j - 0 ≡ j = omega arith in ap (λ k. g (get_or items k d)) z)

pub flat-length : {X : Type 0} (f : ℕ → List X) (s a n : ℕ) → ((i : ℕ) → length (f i) ≡ s) → length (flat_map f (range_with_len a n)) ≡ n * s
flat-length f s a zero h = omega arith
flat-length f s a (suc n) h =
    let rest : length (flat_map f (range_with_len (a + 1) n)) ≡ n * s = flat-length f s (a + 1) n h in
    length-append (f a) (flat_map f (range_with_len (a + 1) n)) ∙ (rw (h a, rest, suc_times) refl)

pub map-flat : {A X Y : Type 0} (g : X → Y) (f : A → List X) (items : List A) → map g (flat_map f items) ≡ flat_map (λ a. map g (f a)) items
map-flat g f [] = refl
map-flat g f (a ∷ rest) = map-append g (f a) (flat_map f rest) ∙ ap (λ t. map g (f a) ++ t) (map-flat g f rest)

pub zip-append : {X Y : Type 0} (xs : List X) (us : List Y) (ys : List X) (vs : List Y) → length xs ≡ length us → zip (xs ++ ys) (us ++ vs) ≡ zip xs us ++ zip ys vs
zip-append [] [] ys vs h = refl
zip-append [] (u ∷ us) ys vs h = absurd (omega arith)
zip-append (x ∷ xs) [] ys vs h = absurd (omega arith)
zip-append (x ∷ xs) (u ∷ us) ys vs h = ap (λ t. (x, u) ∷ t) (zip-append xs us ys vs (omega arith))

zip-flat : {X Y : Type 0} (f : ℕ → List X) (g : ℕ → List Y) (a n : ℕ) → ((i : ℕ) → length (f i) ≡ length (g i)) → zip (flat_map f (range_with_len a n)) (flat_map g (range_with_len a n)) ≡ flat_map (λ i. zip (f i) (g i)) (range_with_len a n)
zip-flat f g a zero h = refl
zip-flat f g a (suc n) h = zip-append (f a) (g a) (flat_map f (range_with_len (a + 1) n)) (flat_map g (range_with_len (a + 1) n)) (h a) ∙ ap (λ t. zip (f a) (g a) ++ t) (zip-flat f g (a + 1) n h)

-- parts of one length, one after the other
pub blocks : {X : Type 0} (s o a n : ℕ) (xs : List X) → flat_map (λ i. take s (drop (o + i * s) xs)) (range_with_len a n) ≡ take (n * s) (drop (o + a * s) xs)
blocks s o a zero xs = rw zero_times refl
blocks s o a (suc n) xs =
    let rest : flat_map (λ i. take s (drop (o + i * s) xs)) (range_with_len (a + 1) n) ≡ take (n * s) (drop (o + (a + 1) * s) xs) = blocks s o (a + 1) n xs in
    let next : o + (a + 1) * s ≡ (o + a * s) + s = grind arith in
    let behind : drop s (drop (o + a * s) xs) ≡ drop ((o + a * s) + s) xs = drop-drop s (o + a * s) xs in
    ap (λ t. take s (drop (o + a * s) xs) ++ t) (rest ∙ ap (λ k. take (n * s) (drop k xs)) next ∙ ap (take (n * s)) (sym behind))
    ∙ sym (take-add s (n * s) (drop (o + a * s) xs)) ∙ ap (λ k. take k (drop (o + a * s) xs)) (sym (suc_times n s))

-- a row of parts of one length
flat_row : {X : Type 0} (f : ℕ → List X) (s a n i : ℕ) → ((i : ℕ) → length (f i) ≡ s) → i < n → take s (drop (i * s) (flat_map f (range_with_len a n))) ≡ f (a + i)
flat_row f s a zero i h lt = absurd (omega arith)
flat_row f s a (suc n) zero h lt =
    let zeros : a + 0 ≡ a = omega arith in
    rw (zero_times, zeros) (take_at (f a) (flat_map f (range_with_len (a + 1) n)) s (h a))
flat_row f s a (suc n) (suc i) h lt =
    let rest : List _ = flat_map f (range_with_len (a + 1) n) in
    let below : i < n = omega arith in
    let next : (a + 1) + i ≡ a + suc i = omega arith in
    ap (λ k. take s (drop k (f a ++ rest))) (suc_times i s) ∙ ap (take s) (sym (drop-drop (i * s) s (f a ++ rest))) ∙ ap (λ t. take s (drop (i * s) t)) (drop_at (f a) rest s (h a)) ∙ flat_row f s (a + 1) n i h below ∙ ap f next

-- ---- what a function gives at the points of a shape

pub tab-length : {X : Type 0} (s : List ℕ) (f : List ℕ → X) → length (tab s f) ≡ size s
tab-length [] f = refl
tab-length (n ∷ ns) f = flat-length (λ i. tab ns (λ p. f (i ∷ p))) (size ns) 0 n (λ i. tab-length ns (λ p. f (i ∷ p)))

-- two functions give the same where they agree in the box
pub tab_same : {X : Type 0} (s : List ℕ) (f g : List ℕ → X) → ((p : List ℕ) → IsPoint s p → f p ≡ g p) → tab s f ≡ tab s g
tab_same [] f g h = ap (λ x. x ∷ []) (h [] tt)
tab_same (n ∷ ns) f g h = flat_same (λ i. tab ns (λ p. f (i ∷ p))) (λ i. tab ns (λ p. g (i ∷ p))) 0 n (λ i lo hi. tab_same ns (λ p. f (i ∷ p)) (λ p. g (i ∷ p)) (λ p inside. h (i ∷ p) (omega arith, inside)))

pub tab-map : {X Y : Type 0} (g : X → Y) (s : List ℕ) (f : List ℕ → X) → map g (tab s f) ≡ tab s (λ p. g (f p))
tab-map g [] f = refl
tab-map g (n ∷ ns) f = map-flat g (λ i. tab ns (λ p. f (i ∷ p))) (range_with_len 0 n) ∙ flat_same (λ i. map g (tab ns (λ p. f (i ∷ p)))) (λ i. tab ns (λ p. g (f (i ∷ p)))) 0 n (λ i lo hi. tab-map g ns (λ p. f (i ∷ p)))

pub tab-zip : {X Y : Type 0} (s : List ℕ) (f : List ℕ → X) (g : List ℕ → Y) → zip (tab s f) (tab s g) ≡ tab s (λ p. (f p, g p))
tab-zip [] f g = refl
tab-zip (n ∷ ns) f g =
    zip-flat (λ i. tab ns (λ p. f (i ∷ p))) (λ i. tab ns (λ p. g (i ∷ p))) 0 n (λ i. tab-length ns (λ p. f (i ∷ p)) ∙ sym (tab-length ns (λ p. g (i ∷ p))))
    ∙ flat_same (λ i. zip (tab ns (λ p. f (i ∷ p))) (tab ns (λ p. g (i ∷ p)))) (λ i. tab ns (λ p. (f (i ∷ p), g (i ∷ p)))) 0 n (λ i lo hi. tab-zip ns (λ p. f (i ∷ p)) (λ p. g (i ∷ p)))

-- the part of a list that begins at a place, read by points
pub tab_part : {X : Type 0} (s : List ℕ) (o : ℕ) (xs : List X) (d : X) → o + size s ≤ length xs → tab s (λ p. get_or xs (o + place s p) d) ≡ take (size s) (drop o xs)
tab_part [] o xs d h =
    let inside : o < length xs = omega arith in
    let zeros : o + 0 ≡ o = omega arith in
    rw (zeros, drop-cons xs o d inside) refl
tab_part (n ∷ ns) o xs d h =
    let row : (i : ℕ) → i < n → tab ns (λ p. get_or xs (o + (i * size ns + place ns p)) d) ≡ take (size ns) (drop (o + i * size ns) xs) = λ i hi.
    let near : i * size ns + size ns ≤ n * size ns = within i n (size ns) hi in
    let fits : (o + i * size ns) + size ns ≤ length xs = omega arith in
    tab_same ns (λ p. get_or xs (o + (i * size ns + place ns p)) d) (λ p. get_or xs ((o + i * size ns) + place ns p) d) (λ p inside. ap (λ k. get_or xs k d) (omega arith)) ∙ tab_part ns (o + i * size ns) xs d fits in
    let first : o + 0 * size ns ≡ o = rw zero_times (omega arith) in
    flat_same (λ i. tab ns (λ p. get_or xs (o + (i * size ns + place ns p)) d)) (λ i. take (size ns) (drop (o + i * size ns) xs)) 0 n (λ i lo hi. row i (omega arith))
    ∙ blocks (size ns) o 0 n xs ∙ ap (λ k. take (n * size ns) (drop k xs)) first

-- a list in row order, read by points, is itself
pub tab_read : {X : Type 0} (s : List ℕ) (xs : List X) (d : X) → length xs ≡ size s → tab s (λ p. get_or xs (place s p) d) ≡ xs
tab_read s xs d h =
    let fits : 0 + size s ≤ length xs = omega arith in
    tab_same s (λ p. get_or xs (place s p) d) (λ p. get_or xs (0 + place s p) d) (λ p inside. ap (λ k. get_or xs k d) (omega arith)) ∙ tab_part s 0 xs d fits ∙ take_all (size s) xs (omega arith)

-- a row of the first axis
pub tab_row : {X : Type 0} (n : ℕ) (ns : List ℕ) (f : List ℕ → X) (q : ℕ) → q < n → take (size ns) (drop (q * size ns) (tab (n ∷ ns) f)) ≡ tab ns (λ p. f (q ∷ p))
tab_row n ns f q h =
    let zeros : 0 + q ≡ q = omega arith in
    flat_row (λ i. tab ns (λ p. f (i ∷ p))) (size ns) 0 n q (λ i. tab-length ns (λ p. f (i ∷ p))) h ∙ ap (λ k. tab ns (λ p. f (k ∷ p))) zeros

pub place_below : (s p : List ℕ) → IsPoint s p → place s p < size s
place_below [] [] h = lit< tt
place_below [] (i ∷ p) h = absurd h
place_below (n ∷ ns) [] h = absurd h
place_below (n ∷ ns) (i ∷ p) h =
    let near : i * size ns + size ns ≤ n * size ns = within i n (size ns) h.0 in
    let rest : place ns p < size ns = place_below ns p h.1 in
    omega arith

All-flat : {X : Type 0} (P : X → Type 0) (f : ℕ → List X) (a n : ℕ) → ((i : ℕ) → a ≤ i → i < a + n → All P (f i)) → All P (flat_map f (range_with_len a n))
All-flat P f a zero h = λ k d lt. absurd (omega arith)
All-flat P f a (suc n) h = All-append P (f a) (flat_map f (range_with_len (a + 1) n)) (h a (omega arith) (omega arith)) (All-flat P f (a + 1) n (λ i lo hi. h i (omega arith) (omega arith)))

-- what holds at each point
pub All-tab : {X : Type 0} (P : X → Type 0) (s : List ℕ) (f : List ℕ → X) → ((p : List ℕ) → IsPoint s p → P (f p)) → All P (tab s f)
All-tab P [] f h = All-cons P (f []) [] (h [] tt) (λ k d lt. absurd (omega arith))
All-tab P (n ∷ ns) f h = All-flat P (λ i. tab ns (λ p. f (i ∷ p))) 0 n (λ i lo hi. All-tab P ns (λ p. f (i ∷ p)) (λ p inside. h (i ∷ p) (omega arith, inside)))

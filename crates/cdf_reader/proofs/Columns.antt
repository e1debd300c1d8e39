-- Pieces of a file's bytes, and columns of them.
use Rattle.std.proofs.Common.{◌≡◌, ◌≤◌, ◌<◌, ◌+◌, ◌*◌, ◌∙◌, sym, ap, subst, ℕ, Bool, true, false, cond, ◌==◌, min, zero, suc, List, [], ◌∷◌, ◌++◌, length, get_or, map, reverse, take, drop, refl, arith}
use Rattle.std.specs.List.{All, range_with_len, flat_map}
use Rattle.std.proofs.lemmas.List.{append-nil, drop-drop, map-append, reverse-append}
use Rattle.std.proofs.lemmas.List.Elements.{All-nil, All-cons, All-head, All-tail, All-push}
use Rattle.std.proofs.lemmas.Grind.{flat_map-append}
use Rattle.std.proofs.Math.Seq.{take-add, take-suc}
use Rattle.xr_arrays.proofs.LabelPlaces.{range_with_len-add}
use Rattle.xr_files.specs.Files.{most_bytes}
use Rattle.cdf_reader.specs.declared.strips.Strip.{Strip}
use Rattle.cdf_reader.specs.declared.gather.Column.{Column}
use Rattle.cdf_reader.specs.Sizes.{capped}
use Rattle.xr_arrays.specs.Pieces.{pieces}
use Rattle.cdf_reader.specs.Gathered.{apart, strip_of, Holds, IsFull}
use Rattle.cdf_reader.proofs.Reversed.{moved}
use Rattle.cdf_reader.proofs.Placed.{drop_same, capped_twice}

-- one piece more, at the front of the bytes from its record on
pub one_more : (bytes rest : List ℕ) (begin step n r : ℕ) → rest ≡ drop (begin + r * step) bytes → pieces bytes begin step n (r + 1) ≡ pieces bytes begin step n r ++ take n rest
one_more bytes rest begin step n r is =
    let piece : ℕ → List ℕ = λ k. take n (drop (begin + k * step) bytes) in
    let more : range_with_len 0 (r + 1) ≡ range_with_len 0 r ++ (0 + r) ∷ [] = range_with_len-add 0 r 1 in
    let here : begin + (0 + r) * step ≡ begin + r * step = grind arith in
    ap (flat_map piece) more
    ∙ flat_map-append piece (range_with_len 0 r) ((0 + r) ∷ [])
    ∙ ap (λ (l : List ℕ). pieces bytes begin step n r ++ l) (append-nil (piece (0 + r)) ∙ ap (λ (j : ℕ). take n (drop j bytes)) here ∙ ap (take n) (sym is))

pub next_rest : (bytes rest : List ℕ) (begin step r : ℕ) → rest ≡ drop (begin + r * step) bytes → drop step rest ≡ drop (begin + (r + 1) * step) bytes
next_rest bytes rest begin step r is =
    let there : begin + r * step + step ≡ begin + (r + 1) * step = grind arith in
    ap (drop step) is ∙ drop-drop step (begin + r * step) bytes ∙ ap (λ (j : ℕ). drop j bytes) there

pub first_rest : (bytes : List ℕ) (begin step r at : ℕ) → length bytes ≤ most_bytes → at ≡ capped (begin + capped (r * step)) → drop at bytes ≡ drop (begin + r * step) bytes
first_rest bytes begin step r at short e = drop_same at (begin + r * step) bytes short (ap capped e ∙ capped_twice begin (r * step))

-- pieces that lie one behind the other are one piece
pub contiguous : (bytes : List ℕ) (begin n count : ℕ) → pieces bytes begin n n count ≡ take (n * count) (drop begin bytes)
contiguous bytes begin n zero = let e : n * 0 ≡ 0 = grind arith in rw e refl
contiguous bytes begin n (suc k) =
    let piece : ℕ → List ℕ = λ r. take n (drop (begin + r * n) bytes) in
    let next : suc k ≡ k + 1 = omega arith in
    let more : range_with_len 0 (k + 1) ≡ range_with_len 0 k ++ (0 + k) ∷ [] = range_with_len-add 0 k 1 in
    let here : begin + (0 + k) * n ≡ begin + n * k = grind arith in
    let last : piece (0 + k) ≡ take n (drop (n * k) (drop begin bytes)) =
    ap (λ (j : ℕ). take n (drop j bytes)) here ∙ ap (take n) (sym (drop-drop (n * k) begin bytes)) in
    let size : n * k + n ≡ n * suc k = grind arith in
    ap (λ (c : ℕ). pieces bytes begin n n c) next
    ∙ ap (flat_map piece) more
    ∙ flat_map-append piece (range_with_len 0 k) ((0 + k) ∷ [])
    ∙ ap (λ (l : List ℕ). pieces bytes begin n n k ++ l) (append-nil (piece (0 + k)) ∙ last)
    ∙ ap (λ (l : List ℕ). l ++ take n (drop (n * k) (drop begin bytes))) (contiguous bytes begin n k)
    ∙ sym (take-add (n * k) n (drop begin bytes))
    ∙ ap (λ (j : ℕ). take j (drop begin bytes)) size

map-reverse : {A B : Type 0} (f : A → B) (xs : List A) → map f (reverse xs) ≡ reverse (map f xs)
map-reverse f [] = refl
map-reverse f (x ∷ xs) =
    ap (map f) (reverse-append (x ∷ []) xs)
    ∙ map-append f (reverse xs) (x ∷ [])
    ∙ ap (λ l. l ++ f x ∷ []) (map-reverse f xs)
    ∙ sym (reverse-append (f x ∷ []) (map f xs))

pub All-reverse : {A : Type 0} (P : A → Type 0) (xs : List A) → All P xs → All P (reverse xs)
All-reverse P [] h = h
All-reverse P (x ∷ xs) h =
    subst (All P) (sym (reverse-append (x ∷ []) xs)) (All-push P (reverse xs) x (All-reverse P xs (All-tail P x xs h)) (All-head P x xs h))

-- a list taken from its end, and another built in reverse, as two functions see them
pub moved_by : {A B C : Type 0} (f : A → C) (g : B → C) (front : List A) (x : A) (v : B) (made : List B) (all : List C)
    → g v ≡ f x → map f (front ++ x ∷ []) ++ reverse (map g made) ≡ all → map f front ++ reverse (map g (made ++ v ∷ [])) ≡ all
moved_by f g front x v made all e h =
    ap (λ l. map f front ++ reverse l) (map-append g made (v ∷ [])) ∙ moved f front x (g v) (map g made) all e h

-- all of it was moved
pub all_moved : {A B C : Type 0} (f : A → C) (g : B → C) (left : List A) (made : List B) (all : List C)
    → left ≡ [] → map f left ++ reverse (map g made) ≡ all → map g (reverse made) ≡ all
all_moved f g left made all none h = map-reverse g made ∙ sym (ap (λ l. map f l ++ reverse (map g made)) none) ∙ h

-- what two functions make of two lists, one element further
pub maps_more : {A B C : Type 0} (f : A → C) (g : B → C) (made : List A) (xs : List B) (i : ℕ) (x : A) (y : B) → i < length xs → y ≡ get_or xs i y
    → map f made ≡ map g (take i xs) → f x ≡ g y → map f (made ++ x ∷ []) ≡ map g (take (i + 1) xs)
maps_more f g made xs i x y lt here so_far e =
    let next : i + 1 ≡ suc i = omega arith in
    map-append f made (x ∷ [])
    ∙ ap (λ l. l ++ f x ∷ []) so_far
    ∙ ap (λ z. map g (take i xs) ++ z ∷ []) e
    ∙ sym (map-append g (take i xs) (y ∷ []))
    ∙ ap (λ z. map g (take i xs ++ z ∷ [])) here
    ∙ ap (map g) (sym (take-suc xs i y lt))
    ∙ ap (λ (j : ℕ). map g (take j xs)) (sym next)

pub of_strips : {C : Type 0} (f : Strip → C) (cs : List Column) → map (λ (c : Column). f c.strip) cs ≡ map f (map strip_of cs)
of_strips f [] = refl
of_strips f (c ∷ cs) = ap (λ l. f c.strip ∷ l) (of_strips f cs)

few : (b : Bool) (n : ℕ) → cond b 0 n ≤ n
few true n = omega arith
few false n = omega arith

few_apart : (s : Strip) → apart s ≤ s.count
few_apart s = few (s.count == 1) s.count

is_full : (bytes : List ℕ) (step r : ℕ) (c : Column) → c.strip.count ≤ r → Holds bytes step r c → IsFull bytes step c
is_full bytes step r c le h =
    let few = few_apart c.strip in
    let e : min r (apart c.strip) ≡ apart c.strip = omega arith in
    record { full = h.held ∙ ap (λ (k : ℕ). pieces bytes c.strip.begin step c.strip.size k) e }

-- columns with as many records as the greatest count have all pieces
pub all_full : (bytes : List ℕ) (step r : ℕ) (cs : List Column) → All (λ (s : Strip). s.count ≤ r) (map strip_of cs) → All (Holds bytes step r) cs → All (IsFull bytes step) cs
all_full bytes step r [] bound held = All-nil (IsFull bytes step)
all_full bytes step r (c ∷ cs) bound held =
    let P : Strip → Type 0 = λ s. s.count ≤ r in
    All-cons (IsFull bytes step) c cs
    (is_full bytes step r c (All-head P c.strip (map strip_of cs) bound) (All-head (Holds bytes step r) c cs held))
    (all_full bytes step r cs (All-tail P c.strip (map strip_of cs) bound) (All-tail (Holds bytes step r) c cs held))

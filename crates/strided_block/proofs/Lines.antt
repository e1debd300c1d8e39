-- Lines along an axis: where their cells lie in row order.
use Rattle.std.proofs.Common.{◌≡◌, ◌<◌, ◌≤◌, ◌+◌, ◌*◌, ◌%◌, ℕ, zero, suc, min, List, [], ◌∷◌, length, drop, take, get_or, inl, inr, refl, sym, ap, subst, ◌∙◌, arith}
use Rattle.std.specs.Prelude.{true, Option, Some, None, is_some, slice_set}
use Rattle.std.proofs.lemmas.Bool.{cases_lt}
use Rattle.xr_types.specs.Points.{size, place, IsPoint}
use Rattle.strided_block.specs.Boxes.{plus, zeros}
use Rattle.strided_block.specs.Lines.{AreOnes, IsLine, prior, Follows}
use Rattle.strided_block.specs.Parts.{Changes, InRun, OnLine}
use Rattle.strided_block.specs.Steps.{spot, spot_on}
use Rattle.strided_block.specs.Views.{Seen, Window, stepped_sight, IsClear, IsSound, IsThere}
use Rattle.strided_block.proofs.Boxes.{point_long, place_below, point_at, within, zeros_long}
use Rattle.strided_block.proofs.Holdings.{some_of, more_changes, wider}
use Rattle.strided_block.proofs.Steps.{dot_line}
use Rattle.strided_block.proofs.Sounds.{lows, whole_small, now_in, now_there}
use Rattle.strided_block.proofs.Splits.{size_split, at_least}

-- ---- points

pub set_point : (ns ps : List ℕ) (k j : ℕ) → IsPoint ns ps → j < get_or ns k 0 → IsPoint ns (slice_set ps k j)
set_point [] [] k j i lt = tt
set_point [] (p ∷ ps) k j i lt = absurd i
set_point (n ∷ ns) [] k j i lt = absurd i
set_point (n ∷ ns) (p ∷ ps) zero j i lt = (lt, i.1)
set_point (n ∷ ns) (p ∷ ps) (suc k) j i lt = (i.0, set_point ns ps k j i.1 lt)

ones_point : (ss : List ℕ) → AreOnes ss → IsPoint ss (zeros ss)
ones_point [] a = tt
ones_point (s ∷ ss) a = let e = a.0 in (omega arith, ones_point ss a.1)

pub line_origin : (ss : List ℕ) (k n : ℕ) → IsLine ss k n → 0 < n → IsPoint ss (zeros ss)
line_origin [] k n l some = absurd l
line_origin (s ∷ ss) zero n l some = let e = l.0 in (omega arith, ones_point ss l.1)
line_origin (s ∷ ss) (suc k) n l some = let e = l.0 in (omega arith, line_origin ss k n l.1 some)

pub line_axis : (ss : List ℕ) (k n : ℕ) → IsLine ss k n → k < length ss
line_axis [] k n l = absurd l
line_axis (s ∷ ss) zero n l = omega arith
line_axis (s ∷ ss) (suc k) n l = let r = line_axis ss k n l.1 in omega arith

pub line_size : (ss : List ℕ) (k n : ℕ) → IsLine ss k n → get_or ss k 0 ≡ n
line_size [] k n l = absurd l
line_size (s ∷ ss) zero n l = l.0
line_size (s ∷ ss) (suc k) n l = line_size ss k n l.1

pub zero_set : (ss : List ℕ) (k : ℕ) → slice_set (zeros ss) k 0 ≡ zeros ss
zero_set [] k = refl
zero_set (s ∷ ss) zero = refl
zero_set (s ∷ ss) (suc k) = ap (λ t. 0 ∷ t) (zero_set ss k)

pub line_start : (ns ps : List ℕ) (k : ℕ) (begin : List ℕ) → k < length ns → IsPoint ns ps → begin ≡ slice_set ps k 0 → IsPoint ns begin
line_start ns ps k begin lt i is = let p = point_at ns ps k i lt in subst (IsPoint ns) (sym is) (set_point ns ps k 0 i (omega arith))

-- ---- places

pub line_place : (ns ls ps : List ℕ) (k j : ℕ) → length ls ≡ length ns → length ps ≡ length ns → k < length ns → place ns (plus ls (slice_set ps k j)) ≡ place ns (plus ls (slice_set ps k 0)) + j * size (drop (k + 1) ns)
line_place [] ls ps k j a b lt = absurd (omega arith)
line_place (n ∷ ns) [] ps k j a b lt = absurd (omega arith)
line_place (n ∷ ns) (l ∷ ls) [] k j a b lt = absurd (omega arith)
line_place (n ∷ ns) (l ∷ ls) (p ∷ ps) zero j a b lt = grind arith
line_place (n ∷ ns) (l ∷ ls) (p ∷ ps) (suc k) j a b lt =
    let r = line_place ns ls ps k j (omega arith) (omega arith) (omega arith) in
    let more : suc k + 1 ≡ suc (k + 1) = omega arith in
    let back = ap (λ m. j * size (drop m (n ∷ ns))) more in omega (arith, r, back)

pub apart : (i j s : ℕ) → i < j → 0 < s → i * s < j * s
apart i j s lt some = let w = within i j s lt in omega arith

-- the cells of a part of a shape that has points are no more than its own
pub part_size : (ns cs : List ℕ) (k : ℕ) → IsPoint ns cs → (0 < size (drop k ns)) × (size (drop k ns) ≤ size ns)
part_size ns cs k i =
    let b = place_below ns cs i in let e = size_split ns k in
    elim (cases_lt 0 (size (take k ns))) [
      | inl some ↦ elim (cases_lt 0 (size (drop k ns))) [
        | inl rest ↦ let l = at_least (size (take k ns)) (size (drop k ns)) some in (rest, omega arith)
        | inr none ↦ let z : size (drop k ns) ≡ 0 = omega arith in let m = ap (λ x. size (take k ns) * x) z in absurd (omega (arith, m))
      ]
      | inr none ↦ let z : size (take k ns) ≡ 0 = omega arith in let m = ap (λ x. x * size (drop k ns)) z in absurd (omega (arith, m))
    ]

pub step_is : (n m : ℕ) (part slice whole cs : List ℕ) → n ≡ min (size part) 18446744073709551615 → part ≡ drop m slice → slice ≡ whole → IsPoint whole cs → size whole < 9223372036854775808 → n ≡ size (drop m whole)
step_is n m part slice whole cs a b c i small =
    let p = part_size whole cs m i in let most = p.1 in
    let kept : min (size (drop m whole)) 18446744073709551615 ≡ size (drop m whole) = omega arith in
    a ∙ ap (λ l. min (size l) 18446744073709551615) (b ∙ ap (drop m) c) ∙ kept

-- ---- the line of a view

module _ {X : Type 0} (cells : List (Option X)) (start : ℕ) (steps shape : List ℕ) (v : Seen X) (e : stepped_sight cells start steps shape ≡ v) (clear : IsClear cells start steps shape) where
  module _ (k : ℕ) (some : 0 < get_or v.shape k 0) (line : IsLine v.shape k (get_or v.shape k 0)) where
    now_line : IsLine shape k (get_or v.shape k 0)
    now_line = subst (λ s. IsLine s k (get_or v.shape k 0)) (sym (ap (λ u. u.shape) e)) line

    view_shape_axis : k < length shape
    view_shape_axis = line_axis shape k (get_or v.shape k 0) now_line

    pub view_axis : k < length steps
    view_axis = let a = view_shape_axis in let r = clear.ranks in omega arith

    module _ (first step : ℕ) (is : first ≡ start) (one : step ≡ get_or steps k 0) where
      view_at : (j : ℕ) → spot start steps (slice_set (zeros shape) k j) ≡ spot_on first step j
      view_at j =
          let z = zeros_long shape in let a = view_shape_axis in
          ap (λ d. (start + d) % 18446744073709551616) (dot_line shape steps k j a view_axis) ∙ (λ i. (sym is i + j * sym one i) % 18446744073709551616)

      pub view_cells : (j : ℕ) → j < get_or v.shape k 0 → spot v.start v.steps (slice_set (zeros v.shape) k j) ≡ spot_on first step j
      view_cells j lt = ap (λ u. spot u.start u.steps (slice_set (zeros u.shape) k j)) (sym e) ∙ view_at j

      pub view_within : (j : ℕ) → j < get_or v.shape k 0 → IsThere v.slots (spot_on first step j)
      view_within j lt =
          let below : j < get_or shape k 0 = subst (λ s. j < get_or s k 0) (sym (ap (λ u. u.shape) e)) lt in
          let there : IsPoint shape (slice_set (zeros shape) k j) = set_point shape (zeros shape) k j (line_origin shape k (get_or v.shape k 0) now_line some) below in
          subst (λ u. IsThere u.slots (spot_on first step j)) e (subst (IsThere cells) (view_at j) (clear.inside (slice_set (zeros shape) k j) there))

-- ---- the line of a window

module _ {X : Type 0} (v w : Window X) (e : v ≡ w) (so : IsSound v) (k : ℕ) (ps : List ℕ) (axis : k < length w.shape) (i : IsPoint w.shape ps) where
  some : 0 < get_or w.shape k 0
  some = let p = point_at w.shape ps k i axis in omega arith

  pub on_line : (j : ℕ) → j < get_or w.shape k 0 → IsPoint w.shape (slice_set ps k j)
  on_line j lt = set_point w.shape ps k j i lt

  pub win_axis : k < length v.whole
  win_axis = let l = lows v so in let n = ap (λ u. length u.shape) e in omega arith

  same_long : length ps ≡ length v.whole
  same_long = let l = lows v so in let n = ap (λ u. length u.shape) e in let p = point_long w.shape ps i in omega arith

  module _ (begin : List ℕ) (is_begin : begin ≡ slice_set ps k 0) where
    pub win_begin : IsPoint w.shape begin
    win_begin = subst (IsPoint w.shape) (sym is_begin) (on_line 0 some)

    begin_in : IsPoint v.whole (plus v.low begin)
    begin_in = now_in v w e so begin win_begin

    module _ (first n : ℕ) (part slice : List ℕ) (is : first ≡ place w.whole (plus w.low begin)) (a : n ≡ min (size part) 18446744073709551615) (b : part ≡ drop (k + 1) slice) (c : slice ≡ v.whole) where
      steps : n ≡ size (drop (k + 1) v.whole)
      steps = step_is n (k + 1) part slice v.whole (plus v.low begin) a b c begin_in (whole_small v so)

      pub win_cells : (j : ℕ) → j < get_or w.shape k 0 → place w.whole (plus w.low (slice_set ps k j)) ≡ first + j * n
      win_cells j lt =
          ap (λ u. place u.whole (plus u.low (slice_set ps k j))) (sym e) ∙ line_place v.whole v.low ps k j (lows v so).0 same_long win_axis
          ∙ ap (λ q. place v.whole (plus v.low q) + j * size (drop (k + 1) v.whole)) (sym is_begin)
          ∙ (λ h. (ap (λ u. place u.whole (plus u.low begin)) e ∙ sym is) h + j * sym steps h)

      pub win_within : (j : ℕ) → j < get_or w.shape k 0 → IsThere w.slots (first + j * n)
      win_within j lt =
          let h = now_there v w e so (slice_set ps k j) (first + j * n) (sym (win_cells j lt)) (on_line j lt) in subst (λ u. IsThere u.slots (first + j * n)) e h

      pub win_apart : 0 < n
      win_apart = let p = part_size v.whole (plus v.low begin) (k + 1) begin_in in let s = steps in omega (arith, p.0)

-- ---- one result more

module _ {T : Type 0} (cs ds : List (Option T)) (first step n : ℕ) (some : 0 < step) (changes : Changes cs ds (InRun (first + n * step) 1)) where
  same : (i : ℕ) → i < n → get_or ds (first + i * step) None ≡ get_or cs (first + i * step) None
  same i below = let a = apart i n step below some in changes.others (first + i * step) (λ within. let l = within.0 in absurd (omega arith))

  prior_same : (start : Option T) (j : ℕ) → j ≤ n → prior start (λ i. get_or ds (first + i * step) None) j ≡ prior start (λ i. get_or cs (first + i * step) None) j
  prior_same start zero le = refl
  prior_same start (suc i) le = same i (omega arith)

  pub next_changes : (begun : List (Option T)) → Changes begun cs (OnLine first step n) → Changes begun ds (OnLine first step (n + 1))
  next_changes begun before =
      more_changes begun cs ds (OnLine first step (n + 1)) (InRun (first + n * step) 1) (wider begun cs (OnLine first step (n + 1)) (OnLine first step n) before (λ k q. (q.0, (omega (arith, q.1.0), q.1.1))))
      changes (λ k within. (n, (omega arith, omega (arith, within.0, within.1))))

  module _ (v : T) (here : get_or ds (first + n * step) None ≡ Some v) where
    pub next_filled : ((j : ℕ) → j < n → get_or cs (first + j * step) None ≡ Some v) → (j : ℕ) → j < n + 1 → get_or ds (first + j * step) None ≡ Some v
    next_filled before j below = elim (cases_lt j n) [
      | inl less ↦ same j less ∙ before j less
      | inr le ↦ let is : n ≡ j = omega arith in subst (λ m. get_or ds (first + m * step) None ≡ Some v) is here
    ]

    pub next_last : (start : Option T) → Some v ≡ prior start (λ i. get_or ds (first + i * step) None) (n + 1)
    next_last start = let more : n + 1 ≡ suc n = omega arith in sym (ap (prior start (λ i. get_or ds (first + i * step) None)) more ∙ here)

    pub next_cells : {A B : Type 0} (R : T → A → B → T → Type 0) (start : Option T) (f : ℕ → Option A) (g : ℕ → Option B) (last : T) → Some last ≡ prior start (λ i. get_or cs (first + i * step) None) n
        → ((j : ℕ) → j < n → Follows R (prior start (λ i. get_or cs (first + i * step) None) j) (f j) (g j) (get_or cs (first + j * step) None))
        → is_some (f n) ≡ true → is_some (g n) ≡ true → ((x : A) (y : B) → f n ≡ Some x → g n ≡ Some y → R last x y v)
        → (j : ℕ) → j < n + 1 → Follows R (prior start (λ i. get_or ds (first + i * step) None) j) (f j) (g j) (get_or ds (first + j * step) None)
    next_cells {A} {B} R start f g last is_last before there_f there_g now j below = elim (cases_lt j n) [
      | inl less ↦
          let P : Option T × Option T → Type 0 = λ t. Follows R t.0 (f j) (g j) t.1 in
          subst P (λ i. (sym (prior_same start j (omega arith)) i, sym (same j less) i)) (before j less)
      | inr le ↦
          let is : n ≡ j = omega arith in let x = some_of (f n) there_f in let y = some_of (g n) there_g in
          let Q : ℕ → Type 0 = λ m. Follows R (prior start (λ i. get_or ds (first + i * step) None) m) (f m) (g m) (get_or ds (first + m * step) None) in
          subst Q is (record {
            last = last;
            x = x.0;
            y = y.0;
            z = v;
            earlier = prior_same start n (omega arith) ∙ sym is_last;
            first = x.1;
            second = y.1;
            result = here;
            holds = now x.0 y.0 x.1 y.1;
          })
    ]

-- ---- all results

-- a position of a line is one of another line of its length
pub same_below : (ns ms ss : List ℕ) (k j : ℕ) → ns ≡ ms → ms ≡ ss → j < get_or ns k 0 → j < get_or ss k 0
same_below ns ms ss k j a b lt = subst (λ s. j < get_or s k 0) (a ∙ b) lt

pub same_back : (ns ms ss : List ℕ) (k j : ℕ) → ns ≡ ms → ms ≡ ss → j < get_or ss k 0 → j < get_or ns k 0
same_back ns ms ss k j a b lt = subst (λ s. j < get_or s k 0) (sym (a ∙ b)) lt

pub line_below : (ss : List ℕ) (k n j : ℕ) → IsLine ss k n → j < n → j < get_or ss k 0
line_below ss k n j l lt = let e = line_size ss k n l in omega arith

pub same_line : (ss : List ℕ) (k n : ℕ) → IsLine ss k n → IsLine ss k (get_or ss k 0)
same_line ss k n l = subst (λ m. IsLine ss k m) (sym (line_size ss k n l)) l

pub some_cells : (ns ps ss : List ℕ) (k : ℕ) → IsPoint ns ps → k < length ns → IsLine ss k (get_or ns k 0) → 0 < get_or ss k 0
some_cells ns ps ss k i lt l = let p = point_at ns ps k i lt in let e = line_size ss k (get_or ns k 0) l in omega arith

-- a result of a line, by where its cells lie
module _ {A B T : Type 0} (R : T → A → B → T → Type 0) where
  prior_read : (start : Option T) (cell before : ℕ → Option T) (m : ℕ) → ((i : ℕ) → i < m → cell i ≡ before i) → prior start before m ≡ prior start cell m
  prior_read start cell before zero read = refl
  prior_read start cell before (suc i) read = sym (read i (omega arith))

  pub follows : (start : Option T) (cell before : ℕ → Option T) (j : ℕ) (a a' : Option A) (b b' : Option B) → a ≡ a' → b ≡ b' → ((i : ℕ) → i < j + 1 → cell i ≡ before i) → Follows R (prior start before j) a b (before j) → Follows R (prior start cell j) a' b' (cell j)
  follows start cell before j a a' b b' ea eb read all =
      let P : Option T × Option A × Option B × Option T → Type 0 = λ t. Follows R t.0 t.1 t.2 t.3 in
      subst P (λ i. (prior_read start cell before j (λ h lt. read h (omega arith)) i, ea i, eb i, sym (read j (omega arith)) i)) all

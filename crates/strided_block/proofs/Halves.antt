-- Both halves of a window that is split are windows, and have its cells.
use Rattle.std.proofs.Common.{◌≡◌, ℕ, zero, suc, min, ◌+◌, ◌-◌, ◌*◌, ◌/◌, ◌%◌, ◌<◌, ◌≤◌, List, [], ◌∷◌, length, drop, get_or, refl, sym, ap, ◌∙◌, subst, arith}
use Rattle.std.specs.Prelude.{Bool, true, false, cond, not, ◌&&◌, ltb, leb, nat_lt, if◌then◌else◌, Option, Some, None, is_some, slice_set}
use Rattle.std.proofs.Math.Nat.{mul-add-div_right, mul-add-mod_self_right, mod-eq_of_lt, mul_assoc, zero-div, zero-mod}
use Rattle.std.proofs.lemmas.Nat.{div-mul-add}
use denote.RawPtr.{Ptr}
use Rattle.xr_types.specs.Points.{size, place, IsPoint}
use Rattle.strided_block.specs.Boxes.{Fits, in_box}
use Rattle.strided_block.specs.Deeds.{HasDeed}
use Rattle.strided_block.specs.Parts.{dealt, below, above}
use Rattle.strided_block.specs.Views.{Window, Cut, held, IsSound, SameIn}
use Rattle.strided_block.specs.declared.memory.Deed.{Deed}
use Rattle.strided_block.proofs.Boxes.{point_long, place_below}
use Rattle.strided_block.proofs.Lines.{step_is}
use Rattle.strided_block.proofs.Owners.{length-dealt}
use Rattle.strided_block.proofs.Sounds.{lows, whole_small}

-- ---- the positions of a cell

-- the sizes from an axis on are so many whole turns of that axis
turns : (ns : List ℕ) (k : ℕ) → k < length ns → (j : ℕ) × (size ns ≡ j * (get_or ns k 0 * size (drop (k + 1) ns)))
turns [] k lt = absurd (omega arith)
turns (n ∷ ns) zero lt = (1, omega arith)
turns (n ∷ ns) (suc k) lt =
    let t = turns ns k (omega arith) in let more : suc k + 1 ≡ suc (k + 1) = omega arith in
    (n * t.0, ap (λ p. n * p) t.1 ∙ sym (mul_assoc n t.0 (get_or ns k 0 * size (drop (k + 1) ns))) ∙ ap (λ m. n * t.0 * (get_or ns k 0 * size (drop m (n ∷ ns)))) (sym more))

no_zero : (j m s : ℕ) → 0 < j * (m * s) → 0 < s
no_zero j m zero h = grind arith
no_zero j m (suc s) h = omega arith

shuffled : (c j m s r : ℕ) → c * (j * (m * s)) + r ≡ c * j * m * s + r
shuffled c j m s r = ap (λ x. x + r) (sym (mul_assoc c j (m * s)) ∙ sym (mul_assoc (c * j) m s))

pub coordinate : (ns cs : List ℕ) (k : ℕ) → IsPoint ns cs → k < length ns → (place ns cs / size (drop (k + 1) ns)) % get_or ns k 0 ≡ get_or cs k 0
coordinate [] cs k i lt = absurd (omega arith)
coordinate (n ∷ ns) [] k i lt = absurd i
coordinate (n ∷ ns) (c ∷ cs) zero i lt = ap (λ m. m % n) (div-mul-add c (size ns) (place ns cs) (place_below ns cs i.1)) ∙ mod-eq_of_lt i.0
coordinate (n ∷ ns) (c ∷ cs) (suc k) i lt =
    let more : suc k + 1 ≡ suc (k + 1) = omega arith in
    let t = turns ns k (omega arith) in let m = get_or ns k 0 in let s = size (drop (k + 1) ns) in let r = place ns cs in
    let some : 0 < s = no_zero t.0 m s (let w = place_below ns cs i.1 in omega (arith, t.1)) in
    ap (λ h. ((c * size ns + r) / size (drop h (n ∷ ns))) % m) more
    ∙ ap (λ p. (c * p + r) / s % m) t.1 ∙ ap (λ x. x / s % m) (shuffled c t.0 m s r) ∙ ap (λ x. x % m) (mul-add-div_right some (c * t.0 * m) r)
    ∙ mul-add-mod_self_right (c * t.0) m (r / s) ∙ coordinate ns cs k i.1 (omega arith)

-- ---- cells that are dealt

module _ {X : Type 0} where
  none_of : (b : Bool) → cond {A = Option X} b None None ≡ None
  none_of true = refl
  none_of false = refl

  get-dealt : (q : ℕ → Bool) (k j : ℕ) (cs : List (Option X)) (i : ℕ) → j ≡ k + i → get_or (dealt q k cs) i None ≡ cond (q j) (get_or cs i None) None
  get-dealt q k j [] i e = sym (none_of (q j))
  get-dealt q k j (c ∷ cs) zero e = let same : k ≡ j = omega arith in ap (λ n. cond (q n) c None) same
  get-dealt q k j (c ∷ cs) (suc i) e = get-dealt q (suc k) j cs i (omega arith)

  pub is_some-cond : (b : Bool) (c : Option X) → is_some (cond b c None) ≡ is_some c && b
  is_some-cond true None = refl
  is_some-cond true (Some x) = refl
  is_some-cond false None = refl
  is_some-cond false (Some x) = refl

  pub got-dealt : (q : ℕ → Bool) (cs : List (Option X)) (i : ℕ) → get_or (dealt q 0 cs) i None ≡ cond (q i) (get_or cs i None) None
  got-dealt q cs i = get-dealt q 0 i cs i (omega arith)

-- ---- boxes that are parted

both_ways : (h r b : Bool) → h && (r && b) ≡ (h && r) && b
both_ways true r b = refl
both_ways false r b = refl

first_of : (l c s at : ℕ) (r : Bool) → at ≤ s → (leb l c && ltb c (l + at)) && r ≡ ((leb l c && ltb c (l + s)) && r) && ltb c (l + at)
first_of l c s at r le = grind arith

second_of : (l c s at : ℕ) (r : Bool) → at ≤ s → (leb (l + at) c && ltb c (l + at + (s - at))) && r ≡ ((leb l c && ltb c (l + s)) && r) && not (ltb c (l + at))
second_of l c s at r le = grind arith

pub in_first : (ls ss cs : List ℕ) (k at : ℕ) → k < length ls → k < length ss → k < length cs → at ≤ get_or ss k 0 → in_box ls (slice_set ss k at) cs ≡ in_box ls ss cs && ltb (get_or cs k 0) (get_or ls k 0 + at)
in_first [] ss cs k at a b c le = absurd (omega arith)
in_first (l ∷ ls) [] cs k at a b c le = absurd (omega arith)
in_first (l ∷ ls) (s ∷ ss) [] k at a b c le = absurd (omega arith)
in_first (l ∷ ls) (s ∷ ss) (x ∷ cs) zero at a b c le = first_of l x s at (in_box ls ss cs) le
in_first (l ∷ ls) (s ∷ ss) (x ∷ cs) (suc k) at a b c le = ap (λ r. (leb l x && ltb x (l + s)) && r) (in_first ls ss cs k at (omega arith) (omega arith) (omega arith) le) ∙ both_ways (leb l x && ltb x (l + s)) (in_box ls ss cs) (ltb (get_or cs k 0) (get_or ls k 0 + at))

pub in_second : (ls ss cs : List ℕ) (k at : ℕ) → k < length ls → k < length ss → k < length cs → at ≤ get_or ss k 0
    → in_box (slice_set ls k (get_or ls k 0 + at)) (slice_set ss k (get_or ss k 0 - at)) cs ≡ in_box ls ss cs && not (ltb (get_or cs k 0) (get_or ls k 0 + at))
in_second [] ss cs k at a b c le = absurd (omega arith)
in_second (l ∷ ls) [] cs k at a b c le = absurd (omega arith)
in_second (l ∷ ls) (s ∷ ss) [] k at a b c le = absurd (omega arith)
in_second (l ∷ ls) (s ∷ ss) (x ∷ cs) zero at a b c le = second_of l x s at (in_box ls ss cs) le
in_second (l ∷ ls) (s ∷ ss) (x ∷ cs) (suc k) at a b c le = ap (λ r. (leb l x && ltb x (l + s)) && r) (in_second ls ss cs k at (omega arith) (omega arith) (omega arith) le) ∙ both_ways (leb l x && ltb x (l + s)) (in_box ls ss cs) (not (ltb (get_or cs k 0) (get_or ls k 0 + at)))

-- the box ends within the block
pub ends_within : (ns ls ss : List ℕ) (k : ℕ) → Fits ns ls ss → k < length ss → get_or ls k 0 + get_or ss k 0 ≤ get_or ns k 0
ends_within [] [] [] k f lt = absurd (omega arith)
ends_within [] [] (s ∷ ss) k f lt = absurd f
ends_within [] (l ∷ ls) ss k f lt = absurd f
ends_within (n ∷ ns) [] ss k f lt = absurd f
ends_within (n ∷ ns) (l ∷ ls) [] k f lt = absurd f
ends_within (n ∷ ns) (l ∷ ls) (s ∷ ss) zero f lt = f.0
ends_within (n ∷ ns) (l ∷ ls) (s ∷ ss) (suc k) f lt = ends_within ns ls ss k f.1 (omega arith)

fits_first : (ns ls ss : List ℕ) (k at : ℕ) → Fits ns ls ss → at ≤ get_or ss k 0 → Fits ns ls (slice_set ss k at)
fits_first [] [] [] k at f le = tt
fits_first [] [] (s ∷ ss) k at f le = absurd f
fits_first [] (l ∷ ls) ss k at f le = absurd f
fits_first (n ∷ ns) [] ss k at f le = absurd f
fits_first (n ∷ ns) (l ∷ ls) [] k at f le = absurd f
fits_first (n ∷ ns) (l ∷ ls) (s ∷ ss) zero at f le = let g = f.0 in (omega arith, f.1)
fits_first (n ∷ ns) (l ∷ ls) (s ∷ ss) (suc k) at f le = (f.0, fits_first ns ls ss k at f.1 le)

fits_second : (ns ls ss : List ℕ) (k at : ℕ) → Fits ns ls ss → at ≤ get_or ss k 0 → Fits ns (slice_set ls k (get_or ls k 0 + at)) (slice_set ss k (get_or ss k 0 - at))
fits_second [] [] [] k at f le = tt
fits_second [] [] (s ∷ ss) k at f le = absurd f
fits_second [] (l ∷ ls) ss k at f le = absurd f
fits_second (n ∷ ns) [] ss k at f le = absurd f
fits_second (n ∷ ns) (l ∷ ls) [] k at f le = absurd f
fits_second (n ∷ ns) (l ∷ ls) (s ∷ ss) zero at f le = let g = f.0 in (omega arith, f.1)
fits_second (n ∷ ns) (l ∷ ls) (s ∷ ss) (suc k) at f le = (f.0, fits_second ns ls ss k at f.1 le)

and_right : (a b : Bool) → a && b ≡ true → b ≡ true
and_right true b e = e
and_right false b e = cc

module _ {X : Type 0} where
  -- v is the part of w that q takes, with the box from ls on of the sizes ss
  pub record Part (w v : Window X) (q : ℕ → Bool) (ls ss : List ℕ) : Type 0 where
    pub block : v.block ≡ w.block
    pub whole : v.whole ≡ w.whole
    pub low : v.low ≡ ls
    pub shape : v.shape ≡ ss
    pub slots : v.slots ≡ dealt q 0 w.slots

  abbrev Boxed : Window X → (ℕ → Bool) → List ℕ → List ℕ → Type 0
  Boxed w q ls ss = (cs : List ℕ) → IsPoint w.whole cs → in_box ls ss cs ≡ in_box w.low w.shape cs && q (place w.whole cs)

  seen : (w v : Window X) (q : ℕ → Bool) (ls ss : List ℕ) → Part w v q ls ss → (cs : List ℕ) → held v cs ≡ cond (q (place w.whole cs)) (held w cs) None
  seen w v q ls ss p cs = (λ i. get_or (p.slots i) (place (p.whole i) cs) None) ∙ got-dealt q w.slots (place w.whole cs)

  part_sound : (w v : Window X) (q : ℕ → Bool) (ls ss : List ℕ) → Part w v q ls ss → Fits w.whole ls ss → Boxed w q ls ss → IsSound w → IsSound v
  part_sound w v q ls ss p f boxed so = let long : length v.slots ≡ length w.slots = ap length p.slots ∙ length-dealt q 0 w.slots in record {
    count = long ∙ so.count ∙ ap size (sym p.whole);
    small = let s = so.small in omega arith;
    fits = rw (p.whole, p.low, p.shape) f;
    has = λ cs i. let j : IsPoint w.whole cs = subst (λ ns. IsPoint ns cs) p.whole i in
        ap is_some (seen w v q ls ss p cs) ∙ is_some-cond (q (place w.whole cs)) (held w cs) ∙ ap (λ b. b && q (place w.whole cs)) (so.has cs j) ∙ sym (boxed cs j) ∙ (λ k. in_box (sym p.low k) (sym p.shape k) cs);
  }

  part_same : (w v : Window X) (q : ℕ → Bool) (ls ss : List ℕ) → Part w v q ls ss → Boxed w q ls ss → SameIn v w
  part_same w v q ls ss p boxed cs j there =
      let i = place w.whole cs in
      let taken : q i ≡ true = and_right (in_box w.low w.shape cs) (q i) (sym (boxed cs j) ∙ (λ k. in_box (sym p.low k) (sym p.shape k) cs) ∙ there) in
      seen w v q ls ss p cs ∙ ap (λ b. cond b (held w cs) None) taken

  part_cut : (w v : Window X) (q : ℕ → Bool) (ls ss : List ℕ) → Part w v q ls ss → Fits w.whole ls ss → Cut w v ls ss
  part_cut w v q ls ss p f = record { block = p.block; whole = p.whole; low = p.low; shape = p.shape; fits = rw (p.whole, p.low, p.shape) f }

  module _ (w : Window X) (k at s n b : ℕ) (lt : k < length w.shape) (le : at ≤ get_or w.shape k 0) (part slice : List ℕ) (es : s ≡ min (size part) 18446744073709551615) (ep : part ≡ drop (k + 1) slice) (ew : slice ≡ w.whole)
      (en : n ≡ get_or w.whole k 0) (eb : b ≡ get_or w.low k 0 + at) (so : IsSound w) where
    coordinated : (cs : List ℕ) → IsPoint w.whole cs → below s n b (place w.whole cs) ≡ ltb (get_or cs k 0) (get_or w.low k 0 + at)
    coordinated cs i =
        let d = lows w so in let step = step_is s (k + 1) part slice w.whole cs es ep ew i (whole_small w so) in
        (λ j. ltb ((place w.whole cs / step j) % en j) (eb j)) ∙ ap (λ c. ltb c (get_or w.low k 0 + at)) (coordinate w.whole cs k i (omega arith))

    boxed_first : Boxed w (below s n b) w.low (slice_set w.shape k at)
    boxed_first cs i = let d = lows w so in let m = point_long w.whole cs i in
        in_first w.low w.shape cs k at (omega arith) lt (omega arith) le ∙ ap (λ x. in_box w.low w.shape cs && x) (sym (coordinated cs i))

    boxed_second : Boxed w (above s n b) (slice_set w.low k (get_or w.low k 0 + at)) (slice_set w.shape k (get_or w.shape k 0 - at))
    boxed_second cs i = let d = lows w so in let m = point_long w.whole cs i in
        in_second w.low w.shape cs k at (omega arith) lt (omega arith) le ∙ ap (λ x. in_box w.low w.shape cs && not x) (sym (coordinated cs i))

    pub first_half : (v : Window X) → Part w v (below s n b) w.low (slice_set w.shape k at) → IsSound v × (Cut w v w.low (slice_set w.shape k at) × SameIn v w)
    first_half v p = let f = fits_first w.whole w.low w.shape k at so.fits le in (part_sound w v _ _ _ p f boxed_first so, (part_cut w v _ _ _ p f, part_same w v _ _ _ p boxed_first))

    pub second_half : (v : Window X) → Part w v (above s n b) (slice_set w.low k (get_or w.low k 0 + at)) (slice_set w.shape k (get_or w.shape k 0 - at))
        → IsSound v × (Cut w v (slice_set w.low k (get_or w.low k 0 + at)) (slice_set w.shape k (get_or w.shape k 0 - at)) × SameIn v w)
    second_half v p = let f = fits_second w.whole w.low w.shape k at so.fits le in (part_sound w v _ _ _ p f boxed_second so, (part_cut w v _ _ _ p f, part_same w v _ _ _ p boxed_second))

-- ---- the right to free the block

first_below : (s n b : ℕ) → below s n b 0 ≡ ltb 0 b
first_below s n b = ap (λ x. ltb (x % n) b) (zero-div s) ∙ ap (λ x. ltb x b) (zero-mod n)

and_true : (a : Bool) → a && true ≡ a
and_true true = refl
and_true false = refl

and_false : (a : Bool) → a && false ≡ false
and_false true = refl
and_false false = refl

module _ {X : Type 0} (at now : Ptr) (same : now ≡ at) (slots : List (Option X)) where
  first_got : (q : ℕ → Bool) (v : Bool) → q 0 ≡ v → is_some (get_or (dealt q 0 slots) 0 None) ≡ is_some (get_or slots 0 None) && v
  first_got q v e = ap is_some (got-dealt q slots 0) ∙ is_some-cond (q 0) (get_or slots 0 None) ∙ ap (λ b. is_some (get_or slots 0 None) && b) e

  with_first : (q : ℕ → Bool) (r : Option (Deed X)) → q 0 ≡ true → HasDeed at slots r → HasDeed now (dealt q 0 slots) r
  with_first q None e h = first_got q true e ∙ and_true (is_some (get_or slots 0 None)) ∙ h
  with_first q (Some d) e h = (first_got q true e ∙ and_true (is_some (get_or slots 0 None)) ∙ h.0, h.1 ∙ sym same, h.2 ∙ sym (length-dealt q 0 slots))

  without_first : (q : ℕ → Bool) → q 0 ≡ false → HasDeed now (dealt q 0 slots) None
  without_first q e = first_got q false e ∙ and_false (is_some (get_or slots 0 None))

  by_below : (r : Option (Deed X)) (s n b : ℕ) (v : Bool) → ltb 0 b ≡ v → HasDeed at slots r → HasDeed now (dealt (below s n b) 0 slots) (if v then r else None)
  by_below r s n b true e h = with_first (below s n b) r (first_below s n b ∙ e) h
  by_below r s n b false e h = without_first (below s n b) (first_below s n b ∙ e)

  by_above : (r : Option (Deed X)) (s n b : ℕ) (v : Bool) → ltb 0 b ≡ v → HasDeed at slots r → HasDeed now (dealt (above s n b) 0 slots) (if v then None else r)
  by_above r s n b true e h = without_first (above s n b) (ap not (first_below s n b ∙ e))
  by_above r s n b false e h = with_first (above s n b) r (ap not (first_below s n b ∙ e)) h

  pub deed_below : (r q : Option (Deed X)) (s n b : ℕ) (cs : List (Option X)) → q ≡ (if nat_lt 0 b then r else None) → cs ≡ dealt (below s n b) 0 slots → HasDeed at slots r → HasDeed now cs q
  deed_below r q s n b cs is all h =
      let P : List (Option X) × Option (Deed X) → Type 0 = λ t. HasDeed now t.0 t.1 in subst P (λ i. (sym all i, sym is i)) (by_below r s n b (nat_lt 0 b) refl h)

  pub deed_above : (r q : Option (Deed X)) (s n b : ℕ) (cs : List (Option X)) → q ≡ (if nat_lt 0 b then None else r) → cs ≡ dealt (above s n b) 0 slots → HasDeed at slots r → HasDeed now cs q
  deed_above r q s n b cs is all h =
      let P : List (Option X) × Option (Deed X) → Type 0 = λ t. HasDeed now t.0 t.1 in subst P (λ i. (sym all i, sym is i)) (by_above r s n b (nat_lt 0 b) refl h)

-- ---- the same of a window that was opened

module _ {X : Type 0} (v w : Window X) (e : v ≡ w) (k at s n b : ℕ) (lt' : k < length w.shape) (le' : at ≤ get_or w.shape k 0) where
  pub axis_now : k < length v.shape
  axis_now = subst (λ u. k < length u.shape) (sym e) lt'

  pub at_now : at ≤ get_or v.shape k 0
  at_now = subst (λ u. at ≤ get_or u.shape k 0) (sym e) le'

  module _ (part slice : List ℕ) (es : s ≡ min (size part) 18446744073709551615) (ep : part ≡ drop (k + 1) slice) (ew : slice ≡ v.whole) (en : n ≡ get_or v.whole k 0) (eb : b ≡ get_or v.low k 0 + at) (so : IsSound v)
      (block : Ptr) (whole : List ℕ) (slots : List (Option X)) (pb : block ≡ v.block) (pw : whole ≡ v.whole) where
    module _ (shape : List ℕ) (ps : shape ≡ slice_set v.shape k at) (pc : slots ≡ dealt (below s n b) 0 v.slots) where
      abbrev low_half : Window X
      low_half = record { block = block; whole = whole; low = v.low; shape = shape; slots = slots }

      first_all : IsSound low_half × (Cut v low_half v.low (slice_set v.shape k at) × SameIn low_half v)
      first_all = first_half v k at s n b axis_now at_now part slice es ep ew en eb so low_half (record { block = pb; whole = pw; low = refl; shape = ps; slots = pc })

      pub first_sound : IsSound low_half
      first_sound = first_all.0

      pub first_says : Cut w low_half w.low (slice_set w.shape k at) × SameIn low_half w
      first_says = let P : Window X → Type 0 = λ u. Cut u low_half u.low (slice_set u.shape k at) × SameIn low_half u in subst P e (first_all.1.0, first_all.1.1)

    module _ (low shape : List ℕ) (pl : low ≡ slice_set v.low k b) (ps : shape ≡ slice_set v.shape k (get_or v.shape k 0 - at)) (pc : slots ≡ dealt (above s n b) 0 v.slots) where
      abbrev high_half : Window X
      high_half = record { block = block; whole = whole; low = low; shape = shape; slots = slots }

      second_all : IsSound high_half × (Cut v high_half (slice_set v.low k (get_or v.low k 0 + at)) (slice_set v.shape k (get_or v.shape k 0 - at)) × SameIn high_half v)
      second_all = second_half v k at s n b axis_now at_now part slice es ep ew en eb so high_half (record { block = pb; whole = pw; low = pl ∙ ap (slice_set v.low k) eb; shape = ps; slots = pc })

      pub second_sound : IsSound high_half
      second_sound = second_all.0

      pub second_says : Cut w high_half (slice_set w.low k (get_or w.low k 0 + at)) (slice_set w.shape k (get_or w.shape k 0 - at)) × SameIn high_half w
      second_says =
          let P : Window X → Type 0 = λ u. Cut u high_half (slice_set u.low k (get_or u.low k 0 + at)) (slice_set u.shape k (get_or u.shape k 0 - at)) × SameIn high_half u in
          subst P e (second_all.1.0, second_all.1.1)

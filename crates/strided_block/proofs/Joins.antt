-- Two halves of a window are one window, and it has the cells of both.
use Rattle.std.proofs.Common.{◌≡◌, ℕ, zero, suc, ◌+◌, ◌<◌, ◌≤◌, ◌⊎◌, inl, inr, List, [], ◌∷◌, length, get_or, refl, sym, ap, ◌∙◌, subst, arith}
use Rattle.std.specs.Prelude.{Bool, true, false, ◌&&◌, ◌||◌, ltb, leb, Option, Some, None, is_some, slice_set}
use Rattle.std.proofs.lemmas.List.{get_or-set_same}
use denote.RawPtr.{Ptr}
use Rattle.xr_types.specs.Points.{size, place, IsPoint}
use Rattle.strided_block.specs.Boxes.{Fits, in_box}
use Rattle.strided_block.specs.Deeds.{HasDeed}
use Rattle.strided_block.specs.Parts.{either, joined}
use Rattle.strided_block.specs.Views.{Window, Cut, held, IsSound, SameIn, Halves}
use Rattle.strided_block.specs.Zips.{point_at}
use Rattle.strided_block.specs.declared.memory.Deed.{Deed}
use Rattle.strided_block.proofs.Boxes.{point_long}
use Rattle.strided_block.proofs.Halves.{ends_within}
use Rattle.strided_block.proofs.Holdings.{there_below}
use Rattle.strided_block.proofs.Sounds.{lows}
use Rattle.strided_block.proofs.Splits.{point_there}

module _ {X : Type 0} where
  either_none : (c : Option X) → either c None ≡ c
  either_none None = refl
  either_none (Some x) = refl

  pub got-joined : (cs ds : List (Option X)) (i : ℕ) → get_or (joined cs ds) i None ≡ either (get_or cs i None) (get_or ds i None)
  got-joined [] ds i = refl
  got-joined (c ∷ cs) [] zero = sym (either_none c)
  got-joined (c ∷ cs) [] (suc i) = sym (either_none (get_or cs i None))
  got-joined (c ∷ cs) (d ∷ ds) zero = refl
  got-joined (c ∷ cs) (d ∷ ds) (suc i) = got-joined cs ds i

  is_some-either : (c d : Option X) → is_some (either c d) ≡ is_some c || is_some d
  is_some-either None d = refl
  is_some-either (Some x) d = refl

  either_first : (c d : Option X) → is_some c ≡ true → either c d ≡ c
  either_first None d e = cc
  either_first (Some x) d e = refl

  either_second : (c d : Option X) → is_some c ≡ false → either c d ≡ d
  either_second None d e = refl
  either_second (Some x) d e = cc

  joined_long : (cs ds : List (Option X)) → length ds ≡ length cs → length (joined cs ds) ≡ length cs
  joined_long [] ds e = e
  joined_long (c ∷ cs) [] e = refl
  joined_long (c ∷ cs) (d ∷ ds) e = ap suc (joined_long cs ds (omega arith))

both_ends : (l c s t : ℕ) (r : Bool) → (leb l c && ltb c (l + (s + t))) && r ≡ ((leb l c && ltb c (l + s)) && r) || ((leb (l + s) c && ltb c (l + s + t)) && r)
both_ends l c s t r = grind arith

apart_ends : (l c s t : ℕ) (r : Bool) → (leb (l + s) c && ltb c (l + s + t)) && r ≡ true → (leb l c && ltb c (l + s)) && r ≡ false
apart_ends l c s t r h = grind arith

and_or : (h a b : Bool) → h && (a || b) ≡ (h && a) || (h && b)
and_or true a b = refl
and_or false a b = refl

under_and : (h a : Bool) → h && a ≡ true → (h ≡ true) × (a ≡ true)
under_and true a e = (refl, e)
under_and false a e = cc

no_and : (h a : Bool) → a ≡ false → h && a ≡ false
no_and true a e = e
no_and false a e = refl

pub in_both : (ls ss cs : List ℕ) (k t : ℕ) → k < length ls → k < length ss → k < length cs
    → in_box ls (slice_set ss k (get_or ss k 0 + t)) cs ≡ in_box ls ss cs || in_box (slice_set ls k (get_or ls k 0 + get_or ss k 0)) (slice_set ss k t) cs
in_both [] ss cs k t a b c = absurd (omega arith)
in_both (l ∷ ls) [] cs k t a b c = absurd (omega arith)
in_both (l ∷ ls) (s ∷ ss) [] k t a b c = absurd (omega arith)
in_both (l ∷ ls) (s ∷ ss) (x ∷ cs) zero t a b c = both_ends l x s t (in_box ls ss cs)
in_both (l ∷ ls) (s ∷ ss) (x ∷ cs) (suc k) t a b c =
    let h = leb l x && ltb x (l + s) in
    ap (λ r. h && r) (in_both ls ss cs k t (omega arith) (omega arith) (omega arith)) ∙ and_or h (in_box ls ss cs) (in_box (slice_set ls k (get_or ls k 0 + get_or ss k 0)) (slice_set ss k t) cs)

pub in_second_only : (ls ss cs : List ℕ) (k t : ℕ) → k < length ls → k < length ss → k < length cs
    → in_box (slice_set ls k (get_or ls k 0 + get_or ss k 0)) (slice_set ss k t) cs ≡ true → in_box ls ss cs ≡ false
in_second_only [] ss cs k t a b c e = absurd (omega arith)
in_second_only (l ∷ ls) [] cs k t a b c e = absurd (omega arith)
in_second_only (l ∷ ls) (s ∷ ss) [] k t a b c e = absurd (omega arith)
in_second_only (l ∷ ls) (s ∷ ss) (x ∷ cs) zero t a b c e = apart_ends l x s t (in_box ls ss cs) e
in_second_only (l ∷ ls) (s ∷ ss) (x ∷ cs) (suc k) t a b c e =
    let h = leb l x && ltb x (l + s) in
    no_and h (in_box ls ss cs) (in_second_only ls ss cs k t (omega arith) (omega arith) (omega arith) (under_and h (in_box (slice_set ls k (get_or ls k 0 + get_or ss k 0)) (slice_set ss k t) cs) e).1)

pub fits_both : (ns ls ss : List ℕ) (k t : ℕ) → Fits ns ls ss → k < length ss → get_or ls k 0 + get_or ss k 0 + t ≤ get_or ns k 0 → Fits ns ls (slice_set ss k (get_or ss k 0 + t))
fits_both [] [] [] k t f lt le = absurd (omega arith)
fits_both [] [] (s ∷ ss) k t f lt le = absurd f
fits_both [] (l ∷ ls) ss k t f lt le = absurd f
fits_both (n ∷ ns) [] ss k t f lt le = absurd f
fits_both (n ∷ ns) (l ∷ ls) [] k t f lt le = absurd f
fits_both (n ∷ ns) (l ∷ ls) (s ∷ ss) zero t f lt le = (omega arith, f.1)
fits_both (n ∷ ns) (l ∷ ls) (s ∷ ss) (suc k) t f lt le = (f.0, fits_both ns ls ss k t f.1 (omega arith) le)

module _ {X : Type 0} (w v : Window X) (k : ℕ) (so : IsSound w) (vo : IsSound v) (lt : k < length w.shape) (halves : Halves w v k) where
  abbrev t : ℕ
  t = get_or v.shape k 0

  abbrev pub one : Window X
  one = record { block = w.block; whole = w.whole; low = w.low; shape = slice_set w.shape k (get_or w.shape k 0 + t); slots = joined w.slots v.slots }

  ends : get_or w.low k 0 + get_or w.shape k 0 + t ≤ get_or w.whole k 0
  ends = let d = lows w so in let f = lows v vo in let n = ap length halves.whole in
      let low = ap (λ l. get_or l k 0) halves.low ∙ get_or-set_same w.low k (get_or w.low k 0 + get_or w.shape k 0) 0 (omega arith) in
      let within = ends_within v.whole v.low v.shape k vo.fits (omega arith) in let size = ap (λ l. get_or l k 0) halves.whole in omega arith

  boxes : (cs : List ℕ) → in_box v.low v.shape cs ≡ in_box (slice_set w.low k (get_or w.low k 0 + get_or w.shape k 0)) (slice_set w.shape k t) cs
  boxes cs = (λ i. in_box (halves.low i) (halves.shape i) cs)

  joined_held : (cs : List ℕ) → held one cs ≡ either (held w cs) (held v cs)
  joined_held cs = got-joined w.slots v.slots (place w.whole cs) ∙ (λ i. either (held w cs) (get_or v.slots (place (sym halves.whole i) cs) None))

  slots_long : length (joined w.slots v.slots) ≡ length w.slots
  slots_long = joined_long w.slots v.slots (vo.count ∙ ap size halves.whole ∙ sym so.count)

  pub join_sound : IsSound one
  join_sound = record {
    count = slots_long ∙ so.count;
    small = let s = so.small in let l = slots_long in omega arith;
    fits = fits_both w.whole w.low w.shape k t so.fits lt ends;
    has = λ cs i. let d = lows w so in let m = point_long w.whole cs i in
        ap is_some (joined_held cs) ∙ is_some-either (held w cs) (held v cs) ∙ (λ j. so.has cs i j || (vo.has cs (subst (λ ns. IsPoint ns cs) (sym halves.whole) i) ∙ boxes cs) j)
        ∙ sym (in_both w.low w.shape cs k t (omega arith) lt (omega arith));
  }

  pub join_first : SameIn w one
  join_first cs i there = sym (joined_held cs ∙ either_first (held w cs) (held v cs) (so.has cs i ∙ there))

  second_only : (cs : List ℕ) → IsPoint w.whole cs → in_box v.low v.shape cs ≡ true → in_box w.low w.shape cs ≡ false
  second_only cs i there = let d = lows w so in let m = point_long w.whole cs i in in_second_only w.low w.shape cs k t (omega arith) lt (omega arith) (sym (boxes cs) ∙ there)

  pub join_second : SameIn v one
  join_second cs i there = sym (joined_held cs ∙ either_second (held w cs) (held v cs) (so.has cs i ∙ second_only cs i there))

  -- only one of them has the block's first cell
  not_both : is_some (get_or w.slots 0 None) ≡ true → is_some (get_or v.slots 0 None) ≡ true → ⊥
  not_both a b =
      let some : 0 < size w.whole = (let l = there_below w.slots 0 a in let c = so.count in omega arith) in
      let p = point_there w.whole 0 some in let first = point_at w.whole 0 in
      let in_v : IsPoint v.whole first = subst (λ ns. IsPoint ns first) (sym halves.whole) p.0 in
      let at_w : is_some (held w first) ≡ true = ap (λ i. is_some (get_or w.slots i None)) p.1 ∙ a in
      let at_v : is_some (held v first) ≡ true = (λ j. is_some (get_or v.slots (place (halves.whole j) first) None)) ∙ ap (λ i. is_some (get_or v.slots i None)) p.1 ∙ b in
      let no : is_some (held w first) ≡ false = so.has first p.0 ∙ second_only first p.0 (sym (vo.has first in_v) ∙ at_v) in
      true_false (sym at_w ∙ no)
    where
      true_false : true ≡ false → ⊥
      true_false e = cc

  pub one_deed : (p q : Ptr) (r s : Option (Deed X)) → HasDeed p w.slots r → HasDeed q v.slots s → (r ≡ None) ⊎ (s ≡ None)
  one_deed p q None s a b = inl refl
  one_deed p q (Some d) None a b = inr refl
  one_deed p q (Some d) (Some e) a b = absurd (not_both a.0 b.0)

  pub join_deed : (p q now : Ptr) (r s : Option (Deed X)) → q ≡ p → now ≡ p → HasDeed p w.slots r → HasDeed q v.slots s → HasDeed now (joined w.slots v.slots) (either r s)
  join_deed p q now None None eq en a b = ap is_some (got-joined w.slots v.slots 0) ∙ is_some-either (get_or w.slots 0 None) (get_or v.slots 0 None) ∙ (λ i. a i || b i)
  join_deed p q now None (Some d) eq en a b = (
    ap is_some (got-joined w.slots v.slots 0) ∙ is_some-either (get_or w.slots 0 None) (get_or v.slots 0 None) ∙ (λ i. a i || b.0 i),
    b.1 ∙ eq ∙ sym en,
    b.2 ∙ (vo.count ∙ ap size halves.whole ∙ sym so.count) ∙ sym slots_long,
  )
  join_deed p q now (Some d) s eq en a b = (
    ap is_some (got-joined w.slots v.slots 0) ∙ is_some-either (get_or w.slots 0 None) (get_or v.slots 0 None) ∙ ap (λ x. x || is_some (get_or v.slots 0 None)) a.0,
    a.1 ∙ sym en,
    a.2 ∙ sym slots_long,
  )

  pub now_deed : (p q now : Ptr) (r s t : Option (Deed X)) (cs : List (Option X)) → q ≡ p → now ≡ p → t ≡ either r s → cs ≡ joined w.slots v.slots → HasDeed p w.slots r → HasDeed q v.slots s → HasDeed now cs t
  now_deed p q now r s t cs eq en is all a b =
      let P : List (Option X) × Option (Deed X) → Type 0 = λ u. HasDeed now u.0 u.1 in subst P (λ i. (sym all i, sym is i)) (join_deed p q now r s eq en a b)

-- ---- the same of two windows that were opened

module _ {X : Type 0} (w v w' v' : Window X) (ew : w ≡ w') (ev : v ≡ v') (k : ℕ) (so : IsSound w) (vo : IsSound v) (lt' : k < length w'.shape) (halves' : Halves w' v' k) where
  pub now_lt : k < length w.shape
  now_lt = subst (λ u. k < length u.shape) (sym ew) lt'

  pub now_halves : Halves w v k
  now_halves = subst (λ (p : Window X × Window X). Halves p.0 p.1 k) (λ i. (sym ew i, sym ev i)) halves'

  pub now_ends : get_or w.low k 0 + get_or w.shape k 0 + get_or v.shape k 0 ≤ get_or w.whole k 0
  now_ends = ends w v k so vo now_lt now_halves

  module _ (b : Ptr) (eb : b ≡ w.block) (number : ℕ) (shape : List ℕ) (slots : List (Option X)) (ez : number ≡ get_or w.shape k 0 + get_or v.shape k 0) (es : shape ≡ slice_set w.shape k number) (em : slots ≡ joined w.slots v.slots) where
    abbrev both : Window X
    both = record { block = b; whole = w.whole; low = w.low; shape = shape; slots = slots }

    is : one w v k so vo now_lt now_halves ≡ both
    is = (λ i. record { block = sym eb i; whole = w.whole; low = w.low; shape = sym (es ∙ ap (slice_set w.shape k) ez) i; slots = sym em i })

    pub now_joined : IsSound both
    now_joined = subst (λ u. IsSound u) is (join_sound w v k so vo now_lt now_halves)

    pub now_same : SameIn w' both × SameIn v' both
    now_same = subst (λ (p : Window X × Window X × Window X). SameIn p.0 p.2 × SameIn p.1 p.2) (λ i. (ew i, ev i, is i)) (join_first w v k so vo now_lt now_halves, join_second w v k so vo now_lt now_halves)

    pub now_cut : Cut w' both w'.low (slice_set w'.shape k (get_or w'.shape k 0 + get_or v'.shape k 0))
    now_cut =
        let P : Window X × Window X → Type 0 = λ p. Cut p.0 both p.0.low (slice_set p.0.shape k (get_or p.0.shape k 0 + get_or p.1.shape k 0)) in
        subst P (λ i. (ew i, ev i)) (record { block = eb; whole = refl; low = refl; shape = es ∙ ap (slice_set w.shape k) ez; fits = now_joined.fits })

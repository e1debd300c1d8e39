-- Rows of accumulators that have absorbed cells.
use Rattle.std.proofs.Common.{◌≡◌, ◌<◌, ◌+◌, ◌-◌, ◌*◌, ◌/◌, ◌%◌, ℕ, ℤ, List, [], ◌∷◌, ◌++◌, get_or, Option, None, refl, sym, ap, subst, ◌∙◌, inl, inr, inl, inr, arith, append-nil, append_assoc}
use Rattle.std.proofs.lemmas.Bool.{cases_lt}
use Rattle.std.proofs.lemmas.Nat.{div_below, div-mul-add, mod-mul-add}
use Rattle.xr_types.specs.Points.{size, place, IsPoint}
use Rattle.plan_core.proofs.Takes.{positive}
use Rattle.row_folds.specs.Rows.{point_at, Absorbs, AbsorbsRow}

abbrev Cells : Type 0
Cells = List (ℕ × Option ℤ)

pub point_inside : (s : List ℕ) (r : ℕ) → r < size s → IsPoint s (point_at s r)
point_inside [] r lt = tt
point_inside (n ∷ ns) r lt = let some = (positive n (size ns) (omega arith)).1 in (div_below r (size ns) n some lt, point_inside ns (r % size ns) (omega arith))

pub place_at : (s : List ℕ) (r : ℕ) → r < size s → place s (point_at s r) ≡ r
place_at [] r lt = omega arith
place_at (n ∷ ns) r lt =
    let some = (positive n (size ns) (omega arith)).1 in
    let rest = place_at ns (r % size ns) (omega arith) in
    ap (λ k. (r / size ns) * size ns + k) rest ∙ grind arith

pub absorbs_none : {A : Type 0} (Is : A → Cells → Type 0) (rows : List A) (at : ℕ) (sizes : List ℕ) → Absorbs Is rows rows at sizes (λ p. [])
absorbs_none Is rows at sizes = record {
  long = refl;
  inside = λ r z before lt is. subst (Is (get_or rows (at + r) z)) (sym (append-nil before)) is;
  below = λ k z lt. refl;
  above = λ k z le. refl;
}

pub absorbs_both : {A : Type 0} (Is : A → Cells → Type 0) (a b c : List A) (at : ℕ) (sizes : List ℕ) (f g : List ℕ → Cells) → Absorbs Is a b at sizes f → Absorbs Is b c at sizes g → Absorbs Is a c at sizes (λ p. f p ++ g p)
absorbs_both Is a b c at sizes f g one two = record {
  long = two.long ∙ one.long;
  inside = λ r z before lt is. subst (Is (get_or c (at + r) z)) (append_assoc before (f (point_at sizes r)) (g (point_at sizes r))) (two.inside r z (before ++ f (point_at sizes r)) lt (one.inside r z before lt is));
  below = λ k z lt. two.below k z lt ∙ one.below k z lt;
  above = λ k z le. two.above k z le ∙ one.above k z le;
}

pub absorbs_that : {A : Type 0} (Is : A → Cells → Type 0) (a b : List A) (at : ℕ) (sizes : List ℕ) (f g : List ℕ → Cells) → ((p : List ℕ) → IsPoint sizes p → f p ≡ g p) → Absorbs Is a b at sizes f → Absorbs Is a b at sizes g
absorbs_that Is a b at sizes f g e h = record {
  long = h.long;
  inside = λ r z before lt is. subst (λ cs. Is (get_or b (at + r) z) (before ++ cs)) (e (point_at sizes r) (point_inside sizes r lt)) (h.inside r z before lt is);
  below = h.below;
  above = h.above;
}

pub none_beside : {A : Type 0} (Is : A → Cells → Type 0) (rows : List A) (at : ℕ) (sizes : List ℕ) (f : List ℕ → Cells) → Absorbs Is rows rows at (0 ∷ sizes) f
none_beside Is rows at sizes f = record {
  long = refl;
  inside = λ r z before lt is. absurd (let none : 0 * size sizes ≡ 0 = grind arith in omega arith);
  below = λ k z lt. refl;
  above = λ k z le. refl;
}

-- the rows of one more position
pub absorbs_beside : {A : Type 0} (Is : A → Cells → Type 0) (a b c : List A) (at i start : ℕ) (sizes : List ℕ) (f g : List ℕ → Cells) → start ≡ at + i * size sizes → ((p : List ℕ) → IsPoint sizes p → g p ≡ f (i ∷ p)) → Absorbs Is a b at (i ∷ sizes) f → Absorbs Is b c start sizes g → Absorbs Is a c at ((i + 1) ∷ sizes) f
absorbs_beside Is a b c at i start sizes f g is_start same one two = record {
  long = two.long ∙ one.long;
  inside = λ r z before lt is. elim (cases_lt r (i * size sizes)) [
    | inl low ↦ subst (λ x. Is x (before ++ f (point_at (i ∷ sizes) r))) (sym (two.below (at + r) z (omega arith))) (one.inside r z before low is)
    | inr high ↦
        let more : (i + 1) * size sizes ≡ i * size sizes + size sizes = grind arith in
        let q : ℕ = r - i * size sizes in
        let split : r ≡ i * size sizes + q = omega arith in
        let below : q < size sizes = omega arith in
        let there : start + q ≡ at + r = omega arith in
        let first : r / size sizes ≡ i = ap (λ k. k / size sizes) split ∙ div-mul-add i (size sizes) q below in
        let rest : r % size sizes ≡ q = ap (λ k. k % size sizes) split ∙ mod-mul-add i (size sizes) q below in
        let kept : Is (get_or b (start + q) z) before = subst (λ x. Is x before) (sym (ap (λ k. get_or b k z) there ∙ one.above (at + r) z (omega arith))) is in
        let done : Is (get_or c (start + q) z) (before ++ g (point_at sizes q)) = two.inside q z before below kept in
        subst (λ k. Is (get_or c k z) (before ++ f (point_at ((i + 1) ∷ sizes) r))) there
        (subst (λ cs. Is (get_or c (start + q) z) (before ++ cs)) (same (point_at sizes q) (point_inside sizes q below) ∙ (λ k. f (sym first k ∷ point_at sizes (sym rest k)))) done)
  ];
  below = λ k z lt. two.below k z (omega arith) ∙ one.below k z lt;
  above = λ k z le. let more : (i + 1) * size sizes ≡ i * size sizes + size sizes = grind arith in two.above k z (omega arith) ∙ one.above k z (omega arith);
}

-- a row of cells into a row of accumulators
pub absorbs_row : {A : Type 0} (Is : A → Cells → Type 0) (a b : List A) (at count position start : ℕ) (cells : List (Option ℤ)) (sizes : List ℕ) → count ≡ size sizes → AbsorbsRow Is a b at count position cells start → Absorbs Is a b at sizes (λ p. (position, get_or cells (start + place sizes p) None) ∷ [])
absorbs_row Is a b at count position start cells sizes is h = record {
  long = h.long;
  inside = λ r z before lt is_r. subst (λ k. Is (get_or b (at + r) z) (before ++ (position, get_or cells (start + k) None) ∷ [])) (sym (place_at sizes r lt)) (h.inside r z before (omega arith) is_r);
  below = h.below;
  above = λ k z le. h.above k z (omega arith);
}

-- The last point of a text.
use Rattle.std.proofs.Common.{◌≡◌, ◌<◌, ◌≤◌, ◌+◌, ◌==◌, ℕ, zero, suc, Bool, true, false, cond, List, [], ◌∷◌, ◌++◌, length, take, drop, get_or, Option, Some, None, option_map, refl, sym, ap, subst, ◌∙◌, arith}
use Rattle.std.specs.Option.{IfSome}
use Rattle.std.proofs.Math.Seq.{take-suc}
use Rattle.xr_groups.specs.Calls.{split_last}
use Rattle.xr_grouping.specs.Texts.{split_at}

abbrev behind : ℕ → Option (List ℕ × List ℕ) → Option (List ℕ × List ℕ)
behind c s = option_map (λ (p : List ℕ × List ℕ). (p.0, p.1 ++ c ∷ [])) s

front : ℕ → Option (List ℕ × List ℕ) → Option (List ℕ × List ℕ) → Option (List ℕ × List ℕ)
front c (Some s) other = Some (c ∷ s.0, s.1)
front c None other = other

-- one more byte that is no point
more : (t : List ℕ) (c : ℕ) → (c == 46) ≡ false → split_last (t ++ c ∷ []) ≡ behind c (split_last t)
unfolding split_last
more [] c plain = ap (λ b. cond b (Some ([], [])) None) plain
more (x ∷ t) c plain = ap (λ s. step s) (more t c plain) ∙ by (split_last t)
  where
    step : Option (List ℕ × List ℕ) → Option (List ℕ × List ℕ)
    step s = elim s [ Some s ↦ Some (x ∷ s.0, s.1) | None ↦ cond (x == 46) (Some ([], t ++ c ∷ [])) None ]

    at_point : (b : Bool) → cond b (Some ([], t ++ c ∷ [])) None ≡ behind c (cond b (Some ([], t)) None)
    at_point true = refl
    at_point false = refl

    by : (s : Option (List ℕ × List ℕ)) → step (behind c s) ≡ behind c (elim s [ Some s ↦ Some (x ∷ s.0, s.1) | None ↦ cond (x == 46) (Some ([], t)) None ])
    by (Some s) = refl
    by None = at_point (x == 46)

-- one more point
point : (t : List ℕ) (c : ℕ) → (c == 46) ≡ true → split_last (t ++ c ∷ []) ≡ Some (t, [])
unfolding split_last
point [] c e = ap (λ b. cond b (Some ([], [])) None) e
point (x ∷ t) c e = ap (λ s. step s) (point t c e)
  where
    step : Option (List ℕ × List ℕ) → Option (List ℕ × List ℕ)
    step s = elim s [ Some s ↦ Some (x ∷ s.0, s.1) | None ↦ cond (x == 46) (Some ([], t ++ c ∷ [])) None ]

-- ---- as the bytes are read

take_before : (t : List ℕ) (c k : ℕ) → k ≤ length t → take k (t ++ c ∷ []) ≡ take k t
take_before t c zero le = refl
take_before [] c (suc k) le = absurd (omega arith)
take_before (x ∷ t) c (suc k) le = ap (λ ys. x ∷ ys) (take_before t c k (omega arith))

drop_before : (t : List ℕ) (c k : ℕ) → k ≤ length t → drop k (t ++ c ∷ []) ≡ drop k t ++ c ∷ []
drop_before t c zero le = refl
drop_before [] c (suc k) le = absurd (omega arith)
drop_before (x ∷ t) c (suc k) le = drop_before t c k (omega arith)

take_all : (t : List ℕ) (k : ℕ) → k ≡ length t → take k t ≡ t
take_all [] zero e = refl
take_all [] (suc k) e = absurd (omega (arith, e))
take_all (x ∷ t) zero e = absurd (omega (arith, e))
take_all (x ∷ t) (suc k) e = ap (λ ys. x ∷ ys) (take_all t k (omega (arith, e)))

drop_last : (t : List ℕ) (c k : ℕ) → k ≡ length t → drop (suc k) (t ++ c ∷ []) ≡ []
drop_last [] c zero e = refl
drop_last [] c (suc k) e = absurd (omega (arith, e))
drop_last (x ∷ t) c zero e = absurd (omega (arith, e))
drop_last (x ∷ t) c (suc k) e = drop_last t c k (omega (arith, e))

take_length : (t : List ℕ) (i : ℕ) → i ≤ length t → length (take i t) ≡ i
take_length t zero le = refl
take_length [] (suc i) le = absurd (omega arith)
take_length (x ∷ t) (suc i) le = ap suc (take_length t i (omega arith))

take_next : (t : List ℕ) (i c : ℕ) → i < length t → c ≡ get_or t i 0 → take (i + 1) t ≡ take i t ++ c ∷ []
take_next t i c here e = let next : i + 1 ≡ suc i = omega arith in ap (λ n. take n t) next ∙ take-suc t i 0 here ∙ ap (λ x. take i t ++ x ∷ []) (sym e)

-- the last point of the first so many bytes
pub record IsSplit (t : List ℕ) (i : ℕ) (last : Option ℕ) : Type 0 where
  pub split : split_last (take i t) ≡ split_at (take i t) last
  pub inside : IfSome last (λ k. k < i)

pub none_split : (t : List ℕ) → IsSplit t 0 None
unfolding split_last
none_split t = record { split = refl; inside = tt }

module _ (t : List ℕ) (i c : ℕ) (last : Option ℕ) (here : i < length t) (e : c ≡ get_or t i 0) (is : IsSplit t i last) where
  long : length (take i t) ≡ i
  long = take_length t i (omega arith)

  moved : (k : Option ℕ) → IfSome k (λ k. k < i) → behind c (split_at (take i t) k) ≡ split_at (take i t ++ c ∷ []) k
  moved None inside = refl
  moved (Some k) inside =
      let first = take_before (take i t) c k (omega (arith, long, inside)) in
      let second = drop_before (take i t) c (k + 1) (omega (arith, long, inside)) in
      ap (λ y. Some (y, drop (k + 1) (take i t) ++ c ∷ [])) (sym first) ∙ ap (λ y. Some (take k (take i t ++ c ∷ []), y)) (sym second)

  up : (k : Option ℕ) → IfSome k (λ k. k < i) → IfSome k (λ k. k < i + 1)
  up None inside = tt
  up (Some k) inside = omega (arith, inside)

  pub plain_next : (c == 46) ≡ false → IsSplit t (i + 1) last
  plain_next plain = record {
    split = ap split_last (take_next t i c here e) ∙ more (take i t) c plain ∙ ap (behind c) is.split ∙ moved last is.inside ∙ ap (λ u. split_at u last) (sym (take_next t i c here e));
    inside = up last is.inside;
  }

  pub point_next : (c == 46) ≡ true → IsSplit t (i + 1) (Some i)
  point_next dot =
      let next : suc i ≡ i + 1 = omega arith in
      record {
        split = ap split_last (take_next t i c here e) ∙ point (take i t) c dot
            ∙ ap (λ y. Some (y, [])) (sym (take_before (take i t) c i (omega (arith, long)) ∙ take_all (take i t) i (sym long)))
            ∙ ap (λ y. Some (take i (take i t ++ c ∷ []), y)) (sym (ap (λ n. drop n (take i t ++ c ∷ [])) (sym next) ∙ drop_last (take i t) c i (sym long)))
            ∙ ap (λ u. split_at u (Some i)) (sym (take_next t i c here e));
        inside = omega arith;
      }

pub split_whole : (t : List ℕ) (i : ℕ) (last : Option ℕ) → i ≡ length t → IsSplit t i last → (split_last t ≡ split_at t last) × IfSome last (λ k. k < length t)
split_whole t i last e is = (subst (λ u. split_last u ≡ split_at u last) (take_all t i e) is.split, subst (λ n. IfSome last (λ k. k < n)) e is.inside)

pub next_split : (t : List ℕ) (i place : ℕ) (last next : Option ℕ) → i < length t → IsSplit t i last → place ≡ i → next ≡ cond (get_or t i 0 == 46) (Some place) last → IsSplit t (i + 1) next
next_split t i place last next here is at en = subst (IsSplit t (i + 1)) (sym (en ∙ ap (λ p. cond (get_or t i 0 == 46) (Some p) last) at)) (by (get_or t i 0 == 46) refl)
  where
    by : (b : Bool) → (get_or t i 0 == 46) ≡ b → IsSplit t (i + 1) (cond b (Some i) last)
    by true e = point_next t i (get_or t i 0) last here refl is e
    by false e = plain_next t i (get_or t i 0) last here refl is e

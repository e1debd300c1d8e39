-- Cells beside their mask, and lists of cells that are compared from the left.
use Rattle.xr_values.proofs.Common.{Bool, Bor, List, MatchOption, None, Option, Some, [], and_right, ap, arith, cell, cond-false, drop, drop_more, false, get_or, get_or_default, hidden, length, length-map, map, nat_eq, ne_eqb, option_map, pointwise, refl, same_cell, subst, suc, sym, true, zip, ℕ, ℤ, ⊤, ◌&&◌, ◌+◌, ◌<◌, ◌∙◌, ◌∷◌, ◌≡◌}
use lib.Signed.{mag}
use mir.Syntax.{w128}
use Rattle.std.proofs.Common.{of_z, to_z, ◌^◌}
use Rattle.std.proofs.lemmas.Int.{to_z-of_z}
use Rattle.std.proofs.lemmas.List.{at_drop_all, get_or-map}
use Rattle.std.proofs.lemmas.Slice.Zip.{get_or-zip, length-zip}

abbrev pub of_mask : Option (Bor (List ℕ)) → Option (List ℕ)
of_mask mask = option_map (λ m. m.now) mask

abbrev pub Fits : {X : Type 0} → List X → Option (Bor (List ℕ)) → Type 0
Fits xs mask = MatchOption mask ⊤ (λ m. length m.now ≡ length xs)

module _ {X : Type 0} (f : X → ℤ) where
  pub hidden_long : (xs : List X) (mask : Option (Bor (List ℕ))) → Fits xs mask → length (hidden (map f xs) (of_mask mask)) ≡ length xs
  hidden_long xs None fits = simp length-map
  hidden_long xs (Some b) fits = simp (length-map, length-zip) (omega (arith, fits))

  mapped_at : (xs : List X) (i : ℕ) (x : X) → i < length xs → x ≡ get_or xs i x → get_or (map f xs) i (f x) ≡ f x
  mapped_at xs i x lt is = get_or-map f xs i x (f x) lt ∙ ap f (sym is)

  -- what is read where there is no mask, where its byte is 0, and where it isn't
  pub unmasked : (xs : List X) (mask : Option (Bor (List ℕ))) (i : ℕ) (x : X) (r : ℤ) → mask ≡ None → i < length xs → x ≡ get_or xs i x → r ≡ f x → mag r < 2 ^ 127 → Some (to_z w128 (of_z w128 r)) ≡ get_or (hidden (map f xs) (of_mask mask)) i None
  unmasked xs mask i x r none lt is value fits = ap Some (to_z-of_z w128 r (record { sfits = fits }) ∙ value) ∙ sym (ap (λ m. get_or (hidden (map f xs) (of_mask m)) i None) none ∙ get_or-map Some (map f xs) i (f x) None (rw length-map lt) ∙ ap Some (mapped_at xs i x lt is))

  seen : (xs : List X) (mask : Option (Bor (List ℕ))) (b : Bor (List ℕ)) (i : ℕ) (x : X) → mask ≡ Some b → Fits xs mask → i < length xs → x ≡ get_or xs i x → cell (f x, get_or b.now i 0) ≡ get_or (hidden (map f xs) (of_mask mask)) i None
  seen xs mask b i x some fits lt is =
      let long : length b.now ≡ length xs = subst (Fits xs) some fits in
      let both = get_or-zip (map f xs) b.now i (f x, 0) (rw length-map lt) (omega (arith, long)) ∙ ap (λ n. (n, get_or b.now i 0)) (mapped_at xs i x lt is) in
      sym (ap (λ m. get_or (hidden (map f xs) (of_mask m)) i None) some ∙ get_or-map cell (zip (map f xs) b.now) i (f x, 0) None (simp (length-zip, length-map) (omega (arith, long))) ∙ ap cell both)

  pub masked : (xs : List X) (mask : Option (Bor (List ℕ))) (b : Bor (List ℕ)) (bytes : List ℕ) (i : ℕ) (x : X) (r : ℤ) → mask ≡ Some b → Fits xs mask → i < length xs → x ≡ get_or xs i x → r ≡ f x → mag r < 2 ^ 127 → bytes ≡ b.now → get_or bytes i 0 ≡ 0 → Some (to_z w128 (of_z w128 r)) ≡ get_or (hidden (map f xs) (of_mask mask)) i None
  masked xs mask b bytes i x r some fits lt is value small same shown =
      ap Some (to_z-of_z w128 r (record { sfits = small }) ∙ value) ∙ ap (λ k. cell (f x, k)) (sym shown ∙ ap (λ cs. get_or cs i 0) same) ∙ seen xs mask b i x some fits lt is

  pub masked_off : (xs : List X) (mask : Option (Bor (List ℕ))) (b : Bor (List ℕ)) (i : ℕ) → mask ≡ Some b → Fits xs mask → i < length xs → (get_or b.now i 0 ≡ 0 → ⊥) → None ≡ get_or (hidden (map f xs) (of_mask mask)) i None
  masked_off [] mask b i some fits lt other = absurd (omega arith)
  masked_off (y ∷ ys) mask b i some fits lt other =
      let x = get_or (y ∷ ys) i y in
      sym (cond-false (nat_eq (get_or b.now i 0) 0) (Some (f x)) None (ne_eqb (get_or b.now i 0) 0 other)) ∙ seen (y ∷ ys) mask b i x some fits lt (get_or_default (y ∷ ys) i y x lt)

-- ---- lists of cells

abbrev pub same_cells : List (Option ℤ) → List (Option ℤ) → Bool
same_cells = pointwise same_cell

pub other_length : (xs ys : List (Option ℤ)) → (length xs ≡ length ys → ⊥) → false ≡ same_cells xs ys
other_length [] [] other = absurd (other refl)
other_length [] (y ∷ ys) other = refl
other_length (x ∷ xs) [] other = refl
other_length (x ∷ xs) (y ∷ ys) other = sym (and_right (same_cell x y) (same_cells xs ys) (sym (other_length xs ys (λ e. other (ap suc e)))))

-- the first cells are equal, so the rest tells
pub same_on : (xs ys : List (Option ℤ)) (i : ℕ) (x y : Option ℤ) (same : Bool) → i < length xs → i < length ys → x ≡ get_or xs i None → y ≡ get_or ys i None → same ≡ true → same ≡ same_cell x y → same_cells (drop i xs) (drop i ys) ≡ same_cells xs ys
    → same_cells (drop (i + 1) xs) (drop (i + 1) ys) ≡ same_cells xs ys
same_on xs ys i x y same below_xs below_ys at_xs at_ys holds is before =
    ap (λ b. b && same_cells (drop (i + 1) xs) (drop (i + 1) ys)) (sym holds ∙ is ∙ ap (λ z. same_cell z y) at_xs ∙ ap (same_cell (get_or xs i None)) at_ys)
    ∙ sym (ap (λ l. same_cells l (drop i ys)) (drop_more xs i None below_xs) ∙ ap (same_cells (get_or xs i None ∷ drop (i + 1) xs)) (drop_more ys i None below_ys))
    ∙ before

pub same_all : (xs ys : List (Option ℤ)) (i : ℕ) → i ≡ length xs → i ≡ length ys → same_cells (drop i xs) (drop i ys) ≡ same_cells xs ys → true ≡ same_cells xs ys
same_all xs ys i at_xs at_ys before = sym (at_drop_all (λ l. same_cells l (drop i ys)) xs i (omega arith) ∙ at_drop_all (same_cells []) ys i (omega arith)) ∙ before

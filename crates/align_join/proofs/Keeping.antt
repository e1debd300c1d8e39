-- Labels that stand in several lists.
use Rattle.std.proofs.lemmas.List.{drop_more, drop_all}
use Rattle.std.proofs.Common.{◌≡◌, ◌<◌, ◌≤◌, ◌+◌, ℕ, length, map, drop, get_or, Bool, true, false, cond, ◌&&◌, List, [], ◌∷◌, refl, ap, ◌∙◌, sym}
use Rattle.std.specs.List.{filter, list_all}
use Rattle.xr_types.specs.declared.axis.Label.{Label}
use Rattle.xr_operations.specs.Alignment.{holds_label}

abbrev all_hold : List (List Label) → Label → Bool
all_hold lists l = list_all (λ ms. holds_label ms l) lists

filter_both : {X : Type 0} (p q : X → Bool) (xs : List X) → filter (λ x. p x && q x) xs ≡ filter q (filter p xs)
filter_both p q [] = refl
filter_both p q (x ∷ xs) = step (p x) refl (filter_both p q xs)
  where
    step : (b : Bool) → p x ≡ b → filter (λ x. p x && q x) xs ≡ filter q (filter p xs) → filter (λ x. p x && q x) (x ∷ xs) ≡ filter q (filter p (x ∷ xs))
    step true e more =
        ap (λ b. cond (b && q x) (x ∷ filter (λ x. p x && q x) xs) (filter (λ x. p x && q x) xs)) e ∙ ap (λ l. cond (q x) (x ∷ l) l) more ∙ sym (ap (λ b. filter q (cond b (x ∷ filter p xs) (filter p xs))) e)
    step false e more =
        ap (λ b. cond (b && q x) (x ∷ filter (λ x. p x && q x) xs) (filter (λ x. p x && q x) xs)) e ∙ more ∙ sym (ap (λ b. filter q (cond b (x ∷ filter p xs) (filter p xs))) e)

pub keep_more : (ms : List Label) (lists : List (List Label)) (ls : List Label) → filter (λ l. list_all (λ ms. holds_label ms l) (ms ∷ lists)) ls ≡ filter (λ l. list_all (λ ms. holds_label ms l) lists) (filter (holds_label ms) ls)
keep_more ms lists ls = filter_both (holds_label ms) (all_hold lists) ls

pub keep_all : (ls : List Label) → filter (λ l. list_all (λ ms. holds_label ms l) []) ls ≡ ls
keep_all [] = refl
keep_all (l ∷ ls) = ap (λ r. l ∷ r) (keep_all ls)

module _ {X Y : Type 0} (f : Y → List Label) (g : X → Y) (xs : List X) (i : ℕ) where
  -- after one more list
  pub keep_next : (x : X) (ls ms whole : List Label) → i < length xs → x ≡ get_or xs i x → ms ≡ filter (holds_label (f (g x))) ls → filter (λ l. list_all (λ m. holds_label m l) (map f (map g (drop i xs)))) ls ≡ whole
      → filter (λ l. list_all (λ m. holds_label m l) (map f (map g (drop (i + 1) xs)))) ms ≡ whole
  keep_next x ls ms whole within is kept so_far =
      let front : drop i xs ≡ x ∷ drop (i + 1) xs = drop_more xs i x within ∙ ap (λ y. y ∷ drop (i + 1) xs) (sym is) in
      ap (filter (all_hold (map f (map g (drop (i + 1) xs))))) kept ∙ sym (keep_more (f (g x)) (map f (map g (drop (i + 1) xs))) ls) ∙ sym (ap (λ ys. filter (all_hold (map f (map g ys))) ls) front) ∙ so_far

  -- after all
  pub keep_end : (ls whole : List Label) → length xs ≤ i → filter (λ l. list_all (λ m. holds_label m l) (map f (map g (drop i xs)))) ls ≡ whole → ls ≡ whole
  keep_end ls whole past so_far = sym (keep_all ls) ∙ sym (ap (λ ys. filter (all_hold (map f (map g ys))) ls) (drop_all i xs past)) ∙ so_far

-- Runs of cells that an owner has, and what stays of the others where a run is written.
use Rattle.std.proofs.Common.{◌≡◌, ◌<◌, ◌≤◌, ◌+◌, ◌-◌, ℕ, zero, suc, List, [], ◌∷◌, ◌++◌, length, map, take, drop, get_or, ◌⊎◌, inl, inr, refl, sym, ap, subst, ◌∙◌, arith, length-take, length-drop}
use Rattle.std.specs.Prelude.{true, Option, Some, None, is_some}
use Rattle.std.specs.List.{refill}
use Rattle.std.proofs.lemmas.Bool.{cases_lt}
use Rattle.std.proofs.lemmas.List.{get_or-map, length-map, get_or-take, get_or-drop}
use lib.Seq.{take_at as take_front}
use Rattle.strided_block.specs.Lends.{put_in}
use Rattle.strided_block.specs.Parts.{somes, IsRun, Changes, InRun}
use Rattle.strided_block.specs.Views.{IsThere}
use Rattle.strided_block.proofs.Laid.{laid, laid-length, laid_in, laid_out}

module _ {X : Type 0} where
  pub some_of : (c : Option X) → is_some c ≡ true → (x : X) × (c ≡ Some x)
  some_of None e = cc
  some_of (Some x) e = (x, refl)

  pub there_below : (cs : List (Option X)) (i : ℕ) → IsThere cs i → i < length cs
  there_below [] i e = cc
  there_below (c ∷ cs) zero e = omega arith
  there_below (c ∷ cs) (suc i) e = let r = there_below cs i e in omega arith

  pub all_there : (xs : List X) (i : ℕ) → i < length xs → IsThere (map Some xs) i
  all_there [] i lt = absurd (omega arith)
  all_there (x ∷ xs) zero lt = refl
  all_there (x ∷ xs) (suc i) lt = all_there xs i (omega arith)

  pub all_some : (cs : List (Option X)) → ((j : ℕ) → j < length cs → IsThere cs j) → (xs : List X) × (cs ≡ map Some xs)
  all_some [] h = ([], refl)
  all_some (c ∷ cs) h =
      let x = some_of c (h 0 (omega arith)) in let r = all_some cs (λ j lt. h (suc j) (omega arith)) in
      (x.0 ∷ r.0, (λ k. x.1 k ∷ r.1 k))

  pub run_long : (cs : List (Option X)) (at n : ℕ) → at + n ≤ length cs → length (take n (drop at cs)) ≡ n
  run_long cs at n h = omega (arith, length-take n (drop at cs), length-drop at cs)

  pub in_run : (cs : List (Option X)) (at n j : ℕ) (d : Option X) → j < n → get_or (take n (drop at cs)) j d ≡ get_or cs (at + j) d
  in_run cs at n j d lt = get_or-take n (drop at cs) j d lt ∙ get_or-drop at cs j d

  -- cells that are all there are a run
  pub every_run : (cs : List (Option X)) (at n : ℕ) → at + n ≤ length cs → ((j : ℕ) → j < n → IsThere cs (at + j)) → IsRun cs at n
  every_run cs at n fits h = (fits, all_some (take n (drop at cs)) (λ j lt. let l = run_long cs at n fits in let within : j < n = omega arith in ap is_some (in_run cs at n j None within) ∙ h j within))

  pub one_run : (cs : List (Option X)) (i : ℕ) → IsThere cs i → IsRun cs i 1
  one_run cs i h = let b = there_below cs i h in every_run cs i 1 (omega arith) (λ j lt. let z : i ≡ i + j = omega arith in subst (IsThere cs) z h)

  pub no_run : (cs : List (Option X)) → IsRun cs 0 0
  no_run cs = every_run cs 0 0 (omega arith) (λ j lt. absurd (omega arith))

  pub seen_long : (cs : List (Option X)) (at n : ℕ) (xs : List X) → at + n ≤ length cs → take n (drop at cs) ≡ map Some xs → length xs ≡ n
  seen_long cs at n xs fits e = sym (length-map xs Some) ∙ ap length (sym e) ∙ run_long cs at n fits

  pub seen_cell : (cs : List (Option X)) (at n : ℕ) (xs : List X) → at + n ≤ length cs → take n (drop at cs) ≡ map Some xs → (j : ℕ) (d : X) → j < n → get_or cs (at + j) None ≡ Some (get_or xs j d)
  seen_cell cs at n xs fits e j d lt = let l = seen_long cs at n xs fits e in
      sym (in_run cs at n j None lt) ∙ ap (λ l. get_or l j None) e ∙ get_or-map Some xs j d None (omega arith)

  pub run_there : (cs : List (Option X)) (at n : ℕ) → IsRun cs at n → (j : ℕ) → j < n → IsThere cs (at + j)
  run_there cs at n run j lt = by (run.1.0) (seen_long cs at n run.1.0 run.0 run.1.1) (seen_cell cs at n run.1.0 run.0 run.1.1 j)
    where
      by : (xs : List X) → length xs ≡ n → ((d : X) → j < n → get_or cs (at + j) None ≡ Some (get_or xs j d)) → IsThere cs (at + j)
      by [] l f = absurd (omega arith)
      by (x ∷ xs) l f = ap is_some (f x lt)

  -- ---- a run that is written

  module _ (cs ds : List (Option X)) (at n : ℕ) (run : IsRun cs at n) (ws : List X) (long : length ws ≡ n)
      (put : ds ≡ put_in cs at n (refill n (somes (take n (drop at cs))) ws)) where
    is_laid : ds ≡ laid cs at (map Some ws)
    is_laid =
        let old = somes (take n (drop at cs)) in let all : refill n old ws ≡ ws = take_front ws (drop (length ws) old) n long in
        put ∙ ap (put_in cs at n) all ∙ ap (λ m. take at cs ++ (map Some ws ++ drop (at + m) cs)) (sym (length-map ws Some ∙ long))

    fits : at + length (map Some ws) ≤ length cs
    fits = let f = run.0 in omega (arith, long, length-map ws Some)

    pub put_cell_at : (j : ℕ) (d : X) → j < n → get_or ds (at + j) None ≡ Some (get_or ws j d)
    put_cell_at j d lt = ap (λ l. get_or l (at + j) None) is_laid ∙ laid_in cs (map Some ws) at j (at + j) None fits (omega (arith, length-map ws Some)) refl ∙ get_or-map Some ws j d None (omega arith)

    pub put_at : (j k : ℕ) (d : X) → k ≡ at + j → j < n → get_or ds k None ≡ Some (get_or ws j d)
    put_at j k d e lt = ap (λ i. get_or ds i None) e ∙ put_cell_at j d lt

    there_now : (k j : ℕ) → k ≡ at + j → j < n → IsThere ds k
    there_now k j e lt = subst (IsThere ds) (sym e) (by ws long (put_cell_at j))
      where
        by : (xs : List X) → length xs ≡ n → ((d : X) → j < n → get_or ds (at + j) None ≡ Some (get_or xs j d)) → IsThere ds (at + j)
        by [] l f = absurd (omega arith)
        by (x ∷ xs) l f = ap is_some (f x lt)

    outside : (k : ℕ) → (k < at) ⊎ (at + length (map Some ws) ≤ k) → get_or ds k None ≡ get_or cs k None
    outside k out = ap (λ l. get_or l k None) is_laid ∙ laid_out cs (map Some ws) at k None fits out

    pub put_changes : Changes cs ds (InRun at n)
    put_changes = record {
      long = ap length is_laid ∙ laid-length cs (map Some ws) at fits;
      had = λ k. elim (cases_lt k at) [
        | inl lt ↦ ap is_some (outside k (inl lt))
        | inr le ↦ elim (cases_lt k (at + n)) [
          | inl within ↦ let j = k - at in let e : k ≡ at + j = omega arith in let lt : j < n = omega arith in there_now k j e lt ∙ sym (subst (IsThere cs) (sym e) (run_there cs at n run j lt))
          | inr past ↦ ap is_some (outside k (inr (omega (arith, long, length-map ws Some))))
        ]
      ];
      others = λ k none. elim (cases_lt k at) [
        | inl lt ↦ outside k (inl lt)
        | inr le ↦ elim (cases_lt k (at + n)) [
          | inl within ↦ absurd (none (le, within))
          | inr past ↦ outside k (inr (omega (arith, long, length-map ws Some)))
        ]
      ];
    }

    pub put_changes_in : (m : ℕ) → n ≡ m → Changes cs ds (InRun at m)
    put_changes_in m e = subst (λ k. Changes cs ds (InRun at k)) e put_changes

  -- ---- changes one after another

  pub no_change : (cs : List (Option X)) (P : ℕ → Type 0) → Changes cs cs P
  no_change cs P = record { long = refl; had = λ k. refl; others = λ k none. refl }

  pub more_changes : (cs ds es : List (Option X)) (P Q : ℕ → Type 0) → Changes cs ds P → Changes ds es Q → ((k : ℕ) → Q k → P k) → Changes cs es P
  more_changes cs ds es P Q a b within = record {
    long = b.long ∙ a.long;
    had = λ k. b.had k ∙ a.had k;
    others = λ k none. b.others k (λ q. none (within k q)) ∙ a.others k none;
  }

  pub wider : (cs ds : List (Option X)) (P Q : ℕ → Type 0) → Changes cs ds Q → ((k : ℕ) → Q k → P k) → Changes cs ds P
  wider cs ds P Q b within = record { long = b.long; had = b.had; others = λ k none. b.others k (λ q. none (within k q)) }

  pub still_there : (cs ds : List (Option X)) (P : ℕ → Type 0) → Changes cs ds P → (k : ℕ) → IsThere cs k → IsThere ds k
  still_there cs ds P a k h = a.had k ∙ h

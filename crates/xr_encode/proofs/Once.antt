-- Numbers that are put one by one stand each once, where they stand first.
use Rattle.std.proofs.Common.{◌≡◌, ℕ, Bool, true, false, cond, List, [], ◌∷◌, ◌++◌, refl, sym, ap, ◌∙◌, append_assoc}
use Rattle.std.specs.Prelude.{◌==◌, ◌||◌}
use Rattle.std.specs.List.{list_any}
use Rattle.std.proofs.Math.Bool.{or_comm}
use Rattle.std.proofs.lemmas.List.{append-nil}
use Rattle.std.proofs.lemmas.List.Folds.{list_any-append}
use Rattle.std.proofs.lemmas.List.Sums.{fold-append}
use Rattle.xr_defs.specs.Encoding.{each_once}
use Rattle.xr_encode.specs.Widths.{once_more, each_once_more}

abbrev is_in : List ℕ → ℕ → Bool
is_in ns n = list_any (λ m. m == n) ns

or_false : (a : Bool) → (a || false) ≡ a
or_false true = refl
or_false false = refl

behind : (done : List ℕ) (n k : ℕ) → is_in (done ++ n ∷ []) k ≡ ((n == k) || is_in done k)
behind done n k = list_any-append (λ m. m == k) done (n ∷ []) ∙ ap (λ b. is_in done k || b) (or_false (n == k)) ∙ or_comm (is_in done k) (n == k)

-- what the numbers of a list do behind those that stand already
abbrev Goes : List ℕ → Type 0
Goes ns = (done seen : List ℕ) → ((k : ℕ) → is_in seen k ≡ is_in done k) → each_once_more done ns ≡ done ++ each_once seen ns

one_more : (n : ℕ) (ns : List ℕ) (b : Bool) (done seen : List ℕ) → Goes ns → ((k : ℕ) → is_in seen k ≡ is_in done k) → is_in seen n ≡ b → each_once_more done (n ∷ ns) ≡ done ++ each_once seen (n ∷ ns)
one_more n ns true done seen goes same e =
    ap (λ b. each_once_more (cond b done (done ++ n ∷ [])) ns) (sym (same n) ∙ e) ∙ goes done seen same ∙ ap (λ b. done ++ cond b (each_once seen ns) (n ∷ each_once (n ∷ seen) ns)) (sym e)
one_more n ns false done seen goes same e =
    ap (λ b. each_once_more (cond b done (done ++ n ∷ [])) ns) (sym (same n) ∙ e)
    ∙ goes (done ++ n ∷ []) (n ∷ seen) (λ k. ap (λ b. (n == k) || b) (same k) ∙ sym (behind done n k))
    ∙ append_assoc done (n ∷ []) (each_once (n ∷ seen) ns)
    ∙ ap (λ b. done ++ cond b (each_once seen ns) (n ∷ each_once (n ∷ seen) ns)) (sym e)

each_more : (ns : List ℕ) → Goes ns
each_more [] done seen same = sym (append-nil done)
each_more (n ∷ ns) done seen same = one_more n ns (is_in seen n) done seen (each_more ns) same refl

pub once_each : (xs ys : List ℕ) → each_once_more (each_once_more [] xs) ys ≡ each_once [] (xs ++ ys)
once_each xs ys = sym (fold-append once_more [] xs ys) ∙ each_more (xs ++ ys) [] [] (λ k. refl)

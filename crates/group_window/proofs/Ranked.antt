-- The places of keys among distinct ones, and the positions that have them.
use Rattle.std.proofs.Common.{◌≡◌, ◌<◌, ◌≤◌, ◌+◌, ◌==◌, ℕ, zero, suc, ℤ, Bool, true, false, cond, ◌⊎◌, inl, inr, not, List, [], ◌∷◌, length, map, get_or, filter, Option, Some, None, refl, sym, ap, subst, ◌∙◌, arith}
use Rattle.std.specs.List.{range_with_len, position_or_len, AllByRecursion}
use Rattle.std.specs.List.Sorted.{IsStrictlySortedBy, IsNonDecreasingBy}
use Rattle.std.specs.Map.{keys_of}
use Rattle.std.specs.BTreeMap.{insert_entry}
use Rattle.std.specs.Cmp.{IsTotalOrder}
use Rattle.std.specs.declared.cmp.Ordering.{Ordering}
use Rattle.std.specs.declared.cmp.Ordering.TheVariants.{Less, Equal, Greater}
use Rattle.std.specs.Ordering.{is_eq, ordering_index, match_ordering, ordering_reverse, int_cmp}
use Rattle.std.proofs.lemmas.Bool.{eqb-true}
use Rattle.std.proofs.lemmas.Cmp.{alike_right, int_cmp_total}
use Rattle.xr_groups.specs.Groups.{bin_lists, distinct, group_lists, holders, is_key, places_of, put}
use Rattle.group_window.specs.Ranks.{rank, ranks}
use Rattle.group_window.proofs.Lists.{differs_above, left_on, same_as_itself}

-- ---- keys of a map

pub keys_put : {K : Type 0} (cmp : K → K → Ordering) (es : List (K × Unit {0})) (k : K) → keys_of (insert_entry cmp es k tt) ≡ put cmp (keys_of es) k
keys_put cmp [] k = refl
keys_put cmp (e ∷ es) k = by (cmp k e.0) (keys_put cmp es k)
  where
    by : (r : Ordering) → keys_of (insert_entry cmp es k tt) ≡ put cmp (keys_of es) k
        → keys_of (match_ordering r ((k, tt) ∷ e ∷ es) ((e.0, tt) ∷ es) (e ∷ insert_entry cmp es k tt)) ≡ match_ordering r (k ∷ e.0 ∷ keys_of es) (e.0 ∷ keys_of es) (e.0 ∷ put cmp (keys_of es) k)
    by Less rest = refl
    by Equal rest = refl
    by Greater rest = ap (λ ks. e.0 ∷ ks) rest

-- ---- places

eq_is : (r : Ordering) → is_eq r ≡ true → r ≡ Equal
eq_is Less e = absurd cc
eq_is Equal e = refl
eq_is Greater e = absurd cc

module _ {K : Type 0} (R : K → K → Ordering) (o : IsTotalOrder R) where
  less_all : (x : K) (xs : List K) (i : ℕ) (d : K) → AllByRecursion (λ y. R x y ≡ Less) xs → i < length xs → R x (get_or xs i d) ≡ Less
  less_all x [] i d all here = absurd (omega arith)
  less_all x (y ∷ ys) zero d all here = all.0
  less_all x (y ∷ ys) (suc i) d all here = less_all x ys i d all.1 (omega arith)

  up : (ks : List K) (i j : ℕ) (d : K) → IsStrictlySortedBy R ks → i < j → j < length ks → R (get_or ks i d) (get_or ks j d) ≡ Less
  unfolding IsStrictlySortedBy
  up [] i j d sorted less here = absurd (omega arith)
  up (x ∷ xs) i zero d sorted less here = absurd (omega arith)
  up (x ∷ xs) zero (suc j) d sorted less here = less_all x xs j d sorted.0 (omega arith)
  up (x ∷ xs) (suc i) (suc j) d sorted less here = up xs i j d sorted.1 (omega arith) (omega arith)

  abbrev test : K → K → Bool
  test k x = is_eq (R x k)

  found : (ks : List K) (k : K) (i : ℕ) (d : K) → IsStrictlySortedBy R ks → i < length ks → R (get_or ks i d) k ≡ Equal → position_or_len (test k) ks ≡ i
  unfolding IsStrictlySortedBy
  found [] k i d sorted here e = absurd (omega arith)
  found (x ∷ xs) k zero d sorted here e = ap (λ r. cond (not (is_eq r)) (1 + position_or_len (test k) xs) 0) e
  found (x ∷ xs) k (suc i) d sorted here e =
      let less : R x k ≡ Less = sym (alike_right o (get_or xs i d) k x e) ∙ less_all x xs i d sorted.0 (omega arith) in
      let rest = found xs k i d sorted.1 (omega arith) e in
      let next : 1 + position_or_len (test k) xs ≡ suc i = omega (arith, rest) in
      ap (λ r. cond (not (is_eq r)) (1 + position_or_len (test k) xs) 0) less ∙ next

  pub nowhere : (ks : List K) (k d : K) → ((i : ℕ) → i < length ks → is_eq (R (get_or ks i d) k) ≡ false) → position_or_len (test k) ks ≡ length ks
  nowhere [] k d none = refl
  nowhere (x ∷ xs) k d none =
      let rest = nowhere xs k d (λ i lt. none (suc i) (omega arith)) in
      let next : 1 + position_or_len (test k) xs ≡ suc (length xs) = omega (arith, rest) in
      ap (λ b. cond (not b) (1 + position_or_len (test k) xs) 0) (none zero (omega arith)) ∙ next

  sound : (ks : List K) (k d : K) (j : ℕ) → position_or_len (test k) ks ≡ j → j < length ks → is_eq (R (get_or ks j d) k) ≡ true
  sound [] k d j e here = absurd (omega arith)
  sound (x ∷ xs) k d j e here = by (test k x) refl j e here (λ i f lt. sound xs k d i f lt)
    where
      by : (b : Bool) → test k x ≡ b → (j : ℕ) → cond (not b) (1 + position_or_len (test k) xs) 0 ≡ j → j < length (x ∷ xs) → ((i : ℕ) → position_or_len (test k) xs ≡ i → i < length xs → is_eq (R (get_or xs i d) k) ≡ true)
          → is_eq (R (get_or (x ∷ xs) j d) k) ≡ true
      by true t zero e here rest = t
      by true t (suc j) e here rest = absurd (omega (arith, e))
      by false t zero e here rest = absurd (omega (arith, e))
      by false t (suc j) e here rest = rest j (omega (arith, e)) (omega arith)

  turned : (x y : K) → R x y ≡ Less → R y x ≡ Greater
  turned x y e = o.antisymm y x ∙ ap ordering_reverse e

  turned_back : (x y : K) → R x y ≡ Greater → R y x ≡ Less
  turned_back x y e = o.antisymm y x ∙ ap ordering_reverse e

  greater_after : (a b k : K) (r : Ordering) → R a b ≡ Less → R a k ≡ r → ordering_index r ≤ ordering_index (R b k)
  greater_after a b k Less up e = omega arith
  greater_after a b k Equal up e = let g : R b k ≡ Greater = turned k b (sym (o.congr a k b e) ∙ up) in subst (λ r. ordering_index Equal ≤ ordering_index r) (sym g) (omega arith)
  greater_after a b k Greater up e = let g : R b k ≡ Greater = turned k b (o.trans k a b (turned_back a k e) up) in subst (λ r. ordering_index Greater ≤ ordering_index r) (sym g) (omega arith)

  pub rises : (ks : List K) (k : K) → IsStrictlySortedBy R ks → IsNonDecreasingBy (λ y. ordering_index (R y k)) ks
  rises ks k sorted i j d le here = by (ordered i j le)
    where
      ordered : (i j : ℕ) → i ≤ j → (i ≡ j) ⊎ (i < j)
      ordered zero zero le = inl refl
      ordered zero (suc j) le = inr (omega arith)
      ordered (suc i) zero le = absurd (omega arith)
      ordered (suc i) (suc j) le = elim (ordered i j (omega arith)) [ inl e ↦ inl (ap suc e) | inr lt ↦ inr (omega arith) ]

      by : (i ≡ j) ⊎ (i < j) → ordering_index (R (get_or ks i d) k) ≤ ordering_index (R (get_or ks j d) k)
      by (inl e) = subst (λ n. ordering_index (R (get_or ks i d) k) ≤ ordering_index (R (get_or ks n d) k)) e (omega arith)
      by (inr lt) = greater_after (get_or ks i d) (get_or ks j d) k (R (get_or ks i d) k) (up ks i j d sorted lt here) refl

  not_less : (r : Ordering) → r ≡ Less → is_eq r ≡ false
  not_less r e = ap is_eq e

  not_greater : (r : Ordering) → r ≡ Greater → is_eq r ≡ false
  not_greater r e = ap is_eq e

  -- what a binary search answers is the place of the key
  pub found_rank : (ks : List K) (k : K) (i : ℕ) → IsStrictlySortedBy R ks → i < length ks → ((d : K) → R (get_or ks i d) k ≡ Equal) → i ≡ rank R ks (Some k)
  found_rank ks k i sorted here is = sym (found ks k i k sorted here (is k))

  pub absent_rank : (ks : List K) (k : K) (i : ℕ) → IsStrictlySortedBy R ks
      → (IsNonDecreasingBy (λ y. ordering_index (R y k)) ks → ((m : ℕ) (e : K) → 0 ≤ m → m < i → R (get_or ks m e) k ≡ Less) × ((m : ℕ) (e : K) → i ≤ m → m < length ks → R (get_or ks m e) k ≡ Greater)) → length ks ≡ rank R ks (Some k)
  absent_rank ks k i sorted is = let parts = is (rises ks k sorted) in sym (nowhere ks k k (λ j lt. by parts j lt (splits j i)))
    where
      splits : (j i : ℕ) → (j < i) ⊎ (i ≤ j)
      splits zero zero = inr (omega arith)
      splits zero (suc i) = inl (omega arith)
      splits (suc j) zero = inr (omega arith)
      splits (suc j) (suc i) = elim (splits j i) [ inl lt ↦ inl (omega arith) | inr le ↦ inr (omega arith) ]

      by : ((m : ℕ) (e : K) → 0 ≤ m → m < i → R (get_or ks m e) k ≡ Less) × ((m : ℕ) (e : K) → i ≤ m → m < length ks → R (get_or ks m e) k ≡ Greater) → (j : ℕ) → j < length ks → (j < i) ⊎ (i ≤ j) → is_eq (R (get_or ks j k) k) ≡ false
      by parts j lt (inl low) = not_less (R (get_or ks j k) k) (parts.0 j k (omega arith) low)
      by parts j lt (inr high) = not_greater (R (get_or ks j k) k) (parts.1 j k high lt)

  -- ---- the positions of a place are those of its key

  by_key : (ks : List K) (key : Option K) (j : ℕ) (d : K) → IsStrictlySortedBy R ks → j < length ks → (rank R ks key == j) ≡ is_key R (get_or ks j d) key
  by_key ks None j d sorted here = differs_above (length ks) j here
  by_key ks (Some x) j d sorted here = by (is_eq (R (get_or ks j d) x)) refl (rank R ks (Some x) == j) refl
    where
      by : (b : Bool) → is_eq (R (get_or ks j d) x) ≡ b → (c : Bool) → (rank R ks (Some x) == j) ≡ c → c ≡ b
      by true e c f = sym f ∙ ap (λ n. n == j) (found ks x j d sorted here (eq_is (R (get_or ks j d) x) e)) ∙ same_as_itself j
      by false e false f = refl
      by false e true f = absurd (never (is_eq (R (get_or ks j d) x)) (sound ks x d j (eqb-true (rank R ks (Some x)) j f) here) e)
        where
          never : (b : Bool) → b ≡ true → b ≡ false → ⊥
          never b s t = cc

  mapped_at : (ks : List K) (keys : List (Option K)) (p : ℕ) → p < length keys → get_or (ranks R ks keys) p 0 ≡ rank R ks (get_or keys p None)
  mapped_at ks [] p here = absurd (omega arith)
  mapped_at ks (key ∷ keys) zero here = refl
  mapped_at ks (key ∷ keys) (suc p) here = mapped_at ks keys p (omega arith)

  mapped_length : (ks : List K) (keys : List (Option K)) → length (ranks R ks keys) ≡ length keys
  mapped_length ks [] = refl
  mapped_length ks (key ∷ keys) = ap suc (mapped_length ks keys)

  one_list : (ks : List K) (keys : List (Option K)) (j : ℕ) (d : K) → IsStrictlySortedBy R ks → j < length ks → places_of (ranks R ks keys) j ≡ holders R keys (get_or ks j d)
  unfolding places_of holders
  one_list ks keys j d sorted here =
      ap (λ n. filter (λ p. get_or (ranks R ks keys) p 0 == j) (range_with_len 0 n)) (mapped_length ks keys)
      ∙ left_on (λ p. get_or (ranks R ks keys) p 0 == j) (λ p. is_key R (get_or ks j d) (get_or keys p None)) 0 (length keys)
      (λ p lo hi. ap (λ n. n == j) (mapped_at ks keys p (omega arith)) ∙ by_key ks (get_or keys p None) j d sorted here)

  each_on : (f : ℕ → List ℕ) (g : K → List ℕ) (from : ℕ) (ks : List K) → ((i : ℕ) (d : K) → i < length ks → f (from + i) ≡ g (get_or ks i d)) → map f (range_with_len from (length ks)) ≡ map g ks
  each_on f g from [] same = refl
  each_on f g from (k ∷ ks) same =
      let here : from + 0 ≡ from = omega arith in
      ap (λ x. x ∷ map f (range_with_len (from + 1) (length ks))) (ap f (sym here) ∙ same zero k (omega arith))
      ∙ ap (λ xs. g k ∷ xs) (each_on f g (from + 1) ks (λ i d lt. let next : from + 1 + i ≡ from + suc i = omega arith in ap f next ∙ same (suc i) d (omega arith)))

  pub ranked_lists : (ks : List K) (keys : List (Option K)) (n : ℕ) (places : List ℕ) (lists : List (List ℕ)) → IsStrictlySortedBy R ks → places ≡ ranks R ks keys → n ≡ length ks → lists ≡ bin_lists n places → ks ≡ distinct R keys → lists ≡ group_lists R keys
  unfolding bin_lists
  ranked_lists ks keys n places lists sorted ep en el ek =
      el ∙ ap (λ m. bin_lists m places) en ∙ ap (bin_lists (length ks)) ep
      ∙ each_on (places_of (ranks R ks keys)) (holders R keys) 0 ks (λ i d lt. let here : 0 + i ≡ i = omega arith in ap (places_of (ranks R ks keys)) here ∙ one_list ks keys i d sorted lt)
      ∙ ap (map (holders R keys)) ek

pub number_lists : (ks : List ℤ) (keys : List (Option ℤ)) (n : ℕ) (places : List ℕ) (lists : List (List ℕ)) → IsStrictlySortedBy int_cmp ks → places ≡ ranks int_cmp ks keys → n ≡ length ks → lists ≡ bin_lists n places → ks ≡ distinct int_cmp keys → lists ≡ group_lists int_cmp keys
number_lists = ranked_lists int_cmp int_cmp_total

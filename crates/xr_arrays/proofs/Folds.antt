-- Folds of nothing, of one cell, and of two lists one after the other.
use Rattle.std.proofs.Common.{◌≡◌, ◌≢◌, ◌+◌, ℕ, ℤ, pos, ◌+ℤ◌, ◌*ℤ◌, ◌*◌, ◌<ℤ◌, int_le, Bool, true, false, cond, ◌||◌, ◌&&◌, List, [], ◌∷◌, ◌++◌, find, slice_get, Option, Some, None, option_map, option_and_then, MatchOption, ◌⊎◌, inl, inr, if◌then◌else◌, ◌%◌, length-append, arith, ap, refl, sym, ◌∙◌}
use borrow.Author.Differences.{up, down, same_in, product_is}
use Rattle.std.proofs.lemmas.Bool.{cases_Bool}
use Rattle.std.proofs.lemmas.Bool.Decides.{Decides-int_eq}
use Rattle.std.specs.Int.{int_wrap, int_rem_euclid, cast_unsigned, int_min, int_max, w64}
use Rattle.std.specs.Ordering.{int_eq}
use Rattle.std.specs.Option.{option_or}
use Rattle.std.specs.List.{last_or, list_any, list_all}
use Rattle.std.proofs.lemmas.Int.{ints, clamps, int_wrap-add_left, int_wrap-add_right, int_wrap-mul_left, int_wrap-mul_right, of_z-to_z}
use Rattle.std.proofs.lemmas.List.Folds.{find-append, list_any-append, list_all-append}
use Rattle.std.proofs.lemmas.Int.{by_lt_z}
use Rattle.std.proofs.lemmas.List.{append-nil}
use Rattle.xr_types.specs.Kinds.{wrap_to, is_unsigned}
use Rattle.xr_types.specs.declared.kind.DType.{DType}
use Rattle.xr_types.specs.declared.kind.DType.TheVariants.{Int64, UInt64}
use Rattle.xr_types.specs.declared.operation.FoldKind.TheVariants.{Sum, Prod, Min, Max, First, Last, ArgMin, ArgMax, Count, Any, All}
use Rattle.xr_arrays.specs.Folds.{present, numbers, sum_of, product_of, of_both, least, greatest, first_place, truth, is_nonzero, fold_of, total_kind}
use Rattle.xr_types.proofs.Wrapping.{splits}

-- ---- the present cells

pub present-append : (a b : List (ℕ × Option ℤ)) → present (a ++ b) ≡ present a ++ present b
present-append [] b = refl
present-append ((p, None) ∷ a) b = present-append a b
present-append ((p, Some x) ∷ a) b = ap (λ cs. (p, x) ∷ cs) (present-append a b)

pub numbers-append : (a b : List (ℕ × ℤ)) → numbers (a ++ b) ≡ numbers a ++ numbers b
numbers-append [] b = refl
numbers-append (c ∷ a) b = ap (λ xs. c.1 ∷ xs) (numbers-append a b)

-- ---- sums and products

pub add_assoc_ℤ : (x y z : ℤ) → x +ℤ (y +ℤ z) ≡ (x +ℤ y) +ℤ z
add_assoc_ℤ x y z = omega (arith, ints)

pub sum_of-append : (a b : List ℤ) → sum_of (a ++ b) ≡ sum_of a +ℤ sum_of b
sum_of-append [] b = omega (arith, ints)
sum_of-append (x ∷ a) b = ap (λ s. x +ℤ s) (sum_of-append a b) ∙ add_assoc_ℤ x (sum_of a) (sum_of b)

pub mul_assoc_ℤ : (x y z : ℤ) → x *ℤ (y *ℤ z) ≡ (x *ℤ y) *ℤ z
mul_assoc_ℤ x y z =
    let xy = product_is x y in
    let yz = product_is y z in
    let times = λ (k : ℕ) (m n : ℕ) (e : m ≡ n). ap (λ a. a * k) e in
    let left = product_is x (y *ℤ z) in
    let right = product_is (x *ℤ y) z in
    let ups : up (x *ℤ (y *ℤ z)) ≡ up ((x *ℤ y) *ℤ z) =
    omega (arith, times (up z) _ _ xy.0, times (down z) _ _ xy.1, times (up x) _ _ yz.0, times (down x) _ _ yz.1) in
    let downs : down (x *ℤ (y *ℤ z)) ≡ down ((x *ℤ y) *ℤ z) =
    omega (arith, times (down z) _ _ xy.0, times (up z) _ _ xy.1, times (down x) _ _ yz.0, times (up x) _ _ yz.1) in
    same_in _ _ (λ i. ups i + sym downs i)

pub product_of-append : (a b : List ℤ) → product_of (a ++ b) ≡ product_of a *ℤ product_of b
product_of-append [] b = omega (arith, ints)
product_of-append (x ∷ a) b = ap (λ s. x *ℤ s) (product_of-append a b) ∙ mul_assoc_ℤ x (product_of a) (product_of b)

-- ---- least and greatest

pub min_assoc : (x y z : Option ℤ) → of_both int_min x (of_both int_min y z) ≡ of_both int_min (of_both int_min x y) z
min_assoc None y z = refl
min_assoc (Some x) None z = refl
min_assoc (Some x) (Some y) None = refl
min_assoc (Some x) (Some y) (Some z) = ap Some (omega (arith, ints, clamps))

pub max_assoc : (x y z : Option ℤ) → of_both int_max x (of_both int_max y z) ≡ of_both int_max (of_both int_max x y) z
max_assoc None y z = refl
max_assoc (Some x) None z = refl
max_assoc (Some x) (Some y) None = refl
max_assoc (Some x) (Some y) (Some z) = ap Some (omega (arith, ints, clamps))

pub least-append : (a b : List ℤ) → least (a ++ b) ≡ of_both int_min (least a) (least b)
least-append [] b = refl
least-append (x ∷ a) b = ap (of_both int_min (Some x)) (least-append a b) ∙ min_assoc (Some x) (least a) (least b)

pub greatest-append : (a b : List ℤ) → greatest (a ++ b) ≡ of_both int_max (greatest a) (greatest b)
greatest-append [] b = refl
greatest-append (x ∷ a) b = ap (of_both int_max (Some x)) (greatest-append a b) ∙ max_assoc (Some x) (greatest a) (greatest b)

-- ---- first and last

pub first-append : (a b : List ℤ) → slice_get (a ++ b) 0 ≡ option_or (slice_get a 0) (slice_get b 0)
first-append [] b = refl
first-append (x ∷ a) b = refl

option_or_again : (u v o : Option ℤ) → ((x : ℤ) × (v ≡ Some x)) → option_or u v ≡ option_or (option_or u v) o
option_or_again None v o h = rw h.1 refl
option_or_again (Some y) v o h = refl

last_or-is : (o : Option ℤ) (a : List ℤ) → last_or o a ≡ option_or (last_or None a) o
last_or-is o [] = refl
last_or-is o (x ∷ a) = let e = last_or-is (Some x) a in rw e (option_or_again (last_or None a) (Some x) o (x, refl))

last_or-append : (o : Option ℤ) (a b : List ℤ) → last_or o (a ++ b) ≡ last_or (last_or o a) b
last_or-append o [] b = refl
last_or-append o (x ∷ a) b = last_or-append (Some x) a b

pub last-append : (a b : List ℤ) → last_or None (a ++ b) ≡ option_or (last_or None b) (last_or None a)
last-append a b = last_or-append None a b ∙ last_or-is (last_or None a) b

-- ---- the first position of the least and of the greatest

-- of two lists' first places the one whose number the choice keeps
abbrev pub kept_place : (ℤ → ℤ → Bool) → Option ℤ → Option ℤ → Option ℤ → Option ℤ → Option ℤ
kept_place keeps None n p q = q
kept_place keeps (Some m) None p q = p
kept_place keeps (Some m) (Some n) p q = cond (keeps m n) p q

abbrev pub int_ge : ℤ → ℤ → Bool
int_ge m n = int_le n m

abbrev pub least_place : List (ℕ × ℤ) → Option ℤ
least_place cs = option_and_then (first_place cs) (least (numbers cs))

abbrev pub greatest_place : List (ℕ × ℤ) → Option ℤ
greatest_place cs = option_and_then (first_place cs) (greatest (numbers cs))

-- whether a cell holds this number
abbrev pub holds : ℤ → ℕ × ℤ → Bool
holds x c = int_eq c.1 x

int_eq_same : (x y : ℤ) → x ≡ y → int_eq x y ≡ true
int_eq_same x y e = grind (arith, ints, Decides-int_eq x y)

int_eq_other : (x y : ℤ) → x ≢ y → int_eq x y ≡ false
int_eq_other x y h = grind (arith, ints, Decides-int_eq x y)

place_of : Option (ℕ × ℤ) → Option ℤ
place_of o = option_map (λ c. pos c.0) o

unfoldable pub HasNumber : List (ℕ × ℤ) → ℤ → Type 0
HasNumber cs x = (c : ℕ × ℤ) × (find (holds x) cs ≡ Some c)

found_later : (d : ℕ × ℤ) (cs : List (ℕ × ℤ)) (x : ℤ) → HasNumber cs x → HasNumber (d ∷ cs) x
unfolding HasNumber
found_later d cs x h = elim (holds x d) as (λ v. (c : ℕ × ℤ) × (cond v (Some d) (find (holds x) cs) ≡ Some c)) [ true ↦ (d, refl) | false ↦ h ]

found_here : (d : ℕ × ℤ) (cs : List (ℕ × ℤ)) (x : ℤ) → d.1 ≡ x → HasNumber (d ∷ cs) x
unfolding HasNumber
found_here d cs x e = (d, rw (int_eq_same d.1 x e) refl)

-- a cell that is found holds the number
pub find_holds : (cs : List (ℕ × ℤ)) (x : ℤ) (c : ℕ × ℤ) → find (holds x) cs ≡ Some c → c.1 ≡ x
find_holds [] x c e = absurd (cc)
find_holds (d ∷ cs) x c e = elim (cases_Bool (holds x d)) [
  | inl same_number ↦
      let first : Some d ≡ Some c = rw same_number at e in
      let same : d ≡ c = cc in
      ap (λ v. v.1) (sym same) ∙ (Decides-int_eq d.1 x).0 same_number
  | inr other ↦ find_holds cs x c (rw other at e)
]

-- where the first list has the number, its place is the place of both lists
place_first : (a b : List (ℕ × ℤ)) (x : ℤ) → HasNumber a x → first_place (a ++ b) x ≡ first_place a x
unfolding HasNumber
place_first a b x (c, e) = rw (find-append (holds x) a b, e) refl

place_second : (a b : List (ℕ × ℤ)) (x : ℤ) → find (holds x) a ≡ None → first_place (a ++ b) x ≡ first_place b x
place_second a b x e = rw (find-append (holds x) a b, e) refl

-- the least number stands in the list, and no smaller one does
min_is_one : (x : ℤ) (o : Option ℤ) (m : ℤ) → of_both int_min (Some x) o ≡ Some m → (x ≡ m) ⊎ (o ≡ Some m)
min_is_one x None m e = inl (cc)
min_is_one x (Some y) m e =
    let is : int_min x y ≡ m = cc in
    by_lt_z y x (λ h. inr (ap Some (omega (arith, ints, clamps)))) (λ h. inl (omega (arith, ints, clamps)))

pub least_found : (cs : List (ℕ × ℤ)) (m : ℤ) → least (numbers cs) ≡ Some m → HasNumber cs m
least_found [] m e = absurd (cc)
least_found (d ∷ cs) m e = elim (min_is_one d.1 (least (numbers cs)) m e) [
  | inl is ↦ found_here d cs m is
  | inr later ↦ found_later d cs m (least_found cs m later)
]

-- the number is less than that which is there
Below : ℤ → Option ℤ → Type 0
Below n o = MatchOption o (Unit {0}) (λ m. n <ℤ m)

below_both : (n x : ℤ) (o : Option ℤ) → Below n (of_both int_min (Some x) o) → (n <ℤ x) × Below n o
unfolding Below
below_both n x None h = (h, tt)
below_both n x (Some y) h = (omega (arith, ints, clamps), omega (arith, ints, clamps))

none_below : (cs : List (ℕ × ℤ)) (n : ℤ) → Below n (least (numbers cs)) → find (holds n) cs ≡ None
none_below [] n h = refl
none_below (d ∷ cs) n h =
    let both = below_both n d.1 (least (numbers cs)) h in
    let other : d.1 ≢ n = omega (arith, ints, both.0) in
    rw (int_eq_other d.1 n other) (none_below cs n both.1)

is_some_both : (f : ℤ → ℤ → ℤ) (x : ℤ) (o : Option ℤ) → of_both f (Some x) o ≡ None → ⊥
is_some_both f x None e = cc
is_some_both f x (Some y) e = cc

none_least : (cs : List (ℕ × ℤ)) → least (numbers cs) ≡ None → cs ≡ []
none_least [] e = refl
none_least (d ∷ cs) e = absurd (is_some_both int_min d.1 (least (numbers cs)) e)

least_of_both : (a b : List (ℕ × ℤ)) (m n : ℤ) → least (numbers a) ≡ Some m → least (numbers b) ≡ Some n → least (numbers (a ++ b)) ≡ Some (int_min m n)
least_of_both a b m n e f = rw (numbers-append a b, least-append (numbers a) (numbers b), e, f) refl

least_place-joined : (a b : List (ℕ × ℤ)) (o p : Option ℤ) → least (numbers a) ≡ o → least (numbers b) ≡ p → least_place (a ++ b) ≡ kept_place int_le o p (least_place a) (least_place b)
unfolding Below
least_place-joined a b None p e f = rw (none_least a e) refl
least_place-joined a b (Some m) None e f = rw (none_least b f, append-nil a) refl
least_place-joined a b (Some m) (Some n) e f =
    let whole = least_of_both a b m n e f in
    by_lt_z n m
    (λ lt.
    let is : int_min m n ≡ n = omega (arith, ints, clamps) in
    let second : int_le m n ≡ false = grind (arith, ints) in
    let none = none_below a n (rw e lt) in
    rw (whole, is, second, f) (place_second a b n none))
    (λ le.
    let is : int_min m n ≡ m = omega (arith, ints, clamps) in
    let first : int_le m n ≡ true = grind (arith, ints) in
    rw (whole, is, first, e) (place_first a b m (least_found a m e)))

-- the greatest number stands in the list, and no greater one does
max_is_one : (x : ℤ) (o : Option ℤ) (m : ℤ) → of_both int_max (Some x) o ≡ Some m → (x ≡ m) ⊎ (o ≡ Some m)
max_is_one x None m e = inl (cc)
max_is_one x (Some y) m e =
    let is : int_max x y ≡ m = cc in
    by_lt_z x y (λ h. inr (ap Some (omega (arith, ints, clamps)))) (λ h. inl (omega (arith, ints, clamps)))

pub greatest_found : (cs : List (ℕ × ℤ)) (m : ℤ) → greatest (numbers cs) ≡ Some m → HasNumber cs m
greatest_found [] m e = absurd (cc)
greatest_found (d ∷ cs) m e = elim (max_is_one d.1 (greatest (numbers cs)) m e) [
  | inl is ↦ found_here d cs m is
  | inr later ↦ found_later d cs m (greatest_found cs m later)
]

-- the number is greater than that which is there
Above : ℤ → Option ℤ → Type 0
Above n o = MatchOption o (Unit {0}) (λ m. m <ℤ n)

above_both : (n x : ℤ) (o : Option ℤ) → Above n (of_both int_max (Some x) o) → (x <ℤ n) × Above n o
unfolding Above
above_both n x None h = (h, tt)
above_both n x (Some y) h = (omega (arith, ints, clamps), omega (arith, ints, clamps))

none_above : (cs : List (ℕ × ℤ)) (n : ℤ) → Above n (greatest (numbers cs)) → find (holds n) cs ≡ None
none_above [] n h = refl
none_above (d ∷ cs) n h =
    let both = above_both n d.1 (greatest (numbers cs)) h in
    let other : d.1 ≢ n = omega (arith, ints, both.0) in
    rw (int_eq_other d.1 n other) (none_above cs n both.1)

none_greatest : (cs : List (ℕ × ℤ)) → greatest (numbers cs) ≡ None → cs ≡ []
none_greatest [] e = refl
none_greatest (d ∷ cs) e = absurd (is_some_both int_max d.1 (greatest (numbers cs)) e)

greatest_of_both : (a b : List (ℕ × ℤ)) (m n : ℤ) → greatest (numbers a) ≡ Some m → greatest (numbers b) ≡ Some n → greatest (numbers (a ++ b)) ≡ Some (int_max m n)
greatest_of_both a b m n e f = rw (numbers-append a b, greatest-append (numbers a) (numbers b), e, f) refl

greatest_place-joined : (a b : List (ℕ × ℤ)) (o p : Option ℤ) → greatest (numbers a) ≡ o → greatest (numbers b) ≡ p → greatest_place (a ++ b) ≡ kept_place int_ge o p (greatest_place a) (greatest_place b)
unfolding Above
greatest_place-joined a b None p e f = rw (none_greatest a e) refl
greatest_place-joined a b (Some m) None e f = rw (none_greatest b f, append-nil a) refl
greatest_place-joined a b (Some m) (Some n) e f =
    let whole = greatest_of_both a b m n e f in
    by_lt_z m n
    (λ lt.
    let is : int_max m n ≡ n = omega (arith, ints, clamps) in
    let second : int_le n m ≡ false = grind (arith, ints) in
    let none = none_above a n (rw e lt) in
    rw (whole, is, second, f) (place_second a b n none))
    (λ le.
    let is : int_max m n ≡ m = omega (arith, ints, clamps) in
    let first : int_le n m ≡ true = grind (arith, ints) in
    rw (whole, is, first, e) (place_first a b m (greatest_found a m e)))

-- ---- folds of two lists, one after the other

-- what is left of a number modulo 2^64, and its bits with a sign
abbrev rest : ℤ → ℤ
rest n = int_rem_euclid n (pos 18446744073709551616)

signed_rest : (n : ℤ) → int_wrap w64 (rest n) ≡ int_wrap w64 n
unfolding int_wrap
signed_rest n =
    let s = splits n 18446744073709551616 (omega arith) in
    let again : s.rest % 18446744073709551616 ≡ s.rest = omega (arith, s.small) in
    rw (s.is_rest, again) refl

rest_is : (n : ℤ) → rest n ≡ pos (cast_unsigned w64 (int_wrap w64 n))
unfolding int_wrap
rest_is n =
    let s = splits n 18446744073709551616 (omega arith) in
    rw s.is_rest (ap pos (sym (of_z-to_z w64 s.rest s.small)))

-- an operation that agrees with signed bits agrees with what is left modulo 2^64
rest_of_both : (f : ℤ → ℤ → ℤ) → ((x y : ℤ) → int_wrap w64 (f x y) ≡ int_wrap w64 (f (int_wrap w64 x) (int_wrap w64 y))) → (x y : ℤ) → rest (f x y) ≡ rest (f (rest x) (rest y))
rest_of_both f agrees x y =
    let both : int_wrap w64 (f x y) ≡ int_wrap w64 (f (rest x) (rest y)) =
    agrees x y ∙ (λ i. int_wrap w64 (f (sym (signed_rest x) i) (sym (signed_rest y) i))) ∙ sym (agrees (rest x) (rest y)) in
    rest_is (f x y) ∙ ap (λ n. pos (cast_unsigned w64 n)) both ∙ sym (rest_is (f (rest x) (rest y)))

signed_add : (x y : ℤ) → int_wrap w64 (x +ℤ y) ≡ int_wrap w64 (int_wrap w64 x +ℤ int_wrap w64 y)
signed_add x y = sym (int_wrap-add_left w64 x y) ∙ sym (int_wrap-add_right w64 (int_wrap w64 x) y)

signed_mul : (x y : ℤ) → int_wrap w64 (x *ℤ y) ≡ int_wrap w64 (int_wrap w64 x *ℤ int_wrap w64 y)
signed_mul x y = sym (int_wrap-mul_left w64 x y) ∙ sym (int_wrap-mul_right w64 (int_wrap w64 x) y)

-- to wrap the parts changes nothing
pub total_of_both : (f : ℤ → ℤ → ℤ) → ((x y : ℤ) → int_wrap w64 (f x y) ≡ int_wrap w64 (f (int_wrap w64 x) (int_wrap w64 y))) → (t : DType) (x y : ℤ) → wrap_to (total_kind t) (f x y) ≡ wrap_to (total_kind t) (f (wrap_to (total_kind t) x) (wrap_to (total_kind t) y))
total_of_both f agrees t x y =
    elim (is_unsigned t) as (λ u. let k : DType = if u then UInt64 else Int64 in wrap_to k (f x y) ≡ wrap_to k (f (wrap_to k x) (wrap_to k y))) [ true ↦ rest_of_both f agrees x y | false ↦ agrees x y ]

pub sum-append : (t : DType) (a b : List (ℕ × Option ℤ)) → fold_of Sum t (a ++ b) ≡ of_both (λ x y. wrap_to (total_kind t) (x +ℤ y)) (fold_of Sum t a) (fold_of Sum t b)
sum-append t a b =
    rw (present-append a b, numbers-append (present a) (present b), sum_of-append (numbers (present a)) (numbers (present b))) (ap Some (total_of_both ◌+ℤ◌ signed_add t (sum_of (numbers (present a))) (sum_of (numbers (present b)))))

pub prod-append : (t : DType) (a b : List (ℕ × Option ℤ)) → fold_of Prod t (a ++ b) ≡ of_both (λ x y. wrap_to (total_kind t) (x *ℤ y)) (fold_of Prod t a) (fold_of Prod t b)
prod-append t a b =
    rw (present-append a b, numbers-append (present a) (present b), product_of-append (numbers (present a)) (numbers (present b))) (ap Some (total_of_both ◌*ℤ◌ signed_mul t (product_of (numbers (present a))) (product_of (numbers (present b)))))

pub min-append : (t : DType) (a b : List (ℕ × Option ℤ)) → fold_of Min t (a ++ b) ≡ of_both int_min (fold_of Min t a) (fold_of Min t b)
min-append t a b = rw (present-append a b, numbers-append (present a) (present b)) (least-append (numbers (present a)) (numbers (present b)))

pub max-append : (t : DType) (a b : List (ℕ × Option ℤ)) → fold_of Max t (a ++ b) ≡ of_both int_max (fold_of Max t a) (fold_of Max t b)
max-append t a b = rw (present-append a b, numbers-append (present a) (present b)) (greatest-append (numbers (present a)) (numbers (present b)))

pub firsts-append : (t : DType) (a b : List (ℕ × Option ℤ)) → fold_of First t (a ++ b) ≡ option_or (fold_of First t a) (fold_of First t b)
firsts-append t a b = rw (present-append a b, numbers-append (present a) (present b)) (first-append (numbers (present a)) (numbers (present b)))

pub lasts-append : (t : DType) (a b : List (ℕ × Option ℤ)) → fold_of Last t (a ++ b) ≡ option_or (fold_of Last t b) (fold_of Last t a)
lasts-append t a b = rw (present-append a b, numbers-append (present a) (present b)) (last-append (numbers (present a)) (numbers (present b)))

pub argmin-append : (t : DType) (a b : List (ℕ × Option ℤ)) → fold_of ArgMin t (a ++ b) ≡ kept_place int_le (fold_of Min t a) (fold_of Min t b) (fold_of ArgMin t a) (fold_of ArgMin t b)
argmin-append t a b = rw (present-append a b) (least_place-joined (present a) (present b) (fold_of Min t a) (fold_of Min t b) refl refl)

pub argmax-append : (t : DType) (a b : List (ℕ × Option ℤ)) → fold_of ArgMax t (a ++ b) ≡ kept_place int_ge (fold_of Max t a) (fold_of Max t b) (fold_of ArgMax t a) (fold_of ArgMax t b)
argmax-append t a b = rw (present-append a b) (greatest_place-joined (present a) (present b) (fold_of Max t a) (fold_of Max t b) refl refl)

pub count-append : (t : DType) (a b : List (ℕ × Option ℤ)) → fold_of Count t (a ++ b) ≡ of_both ◌+ℤ◌ (fold_of Count t a) (fold_of Count t b)
count-append t a b = rw (present-append a b, length-append (present a) (present b)) refl

either_is_true : (p q : Bool) → truth (p || q) ≡ int_max (truth p) (truth q)
either_is_true true true = refl
either_is_true true false = refl
either_is_true false true = refl
either_is_true false false = refl

both_are_true : (p q : Bool) → truth (p && q) ≡ int_min (truth p) (truth q)
both_are_true true true = refl
both_are_true true false = refl
both_are_true false true = refl
both_are_true false false = refl

pub any-append : (t : DType) (a b : List (ℕ × Option ℤ)) → fold_of Any t (a ++ b) ≡ of_both int_max (fold_of Any t a) (fold_of Any t b)
any-append t a b =
    let x = numbers (present a) in
    let y = numbers (present b) in
    rw (present-append a b, numbers-append (present a) (present b), list_any-append is_nonzero x y) (ap Some (either_is_true (list_any is_nonzero x) (list_any is_nonzero y)))

pub all-append : (t : DType) (a b : List (ℕ × Option ℤ)) → fold_of All t (a ++ b) ≡ of_both int_min (fold_of All t a) (fold_of All t b)
all-append t a b =
    let x = numbers (present a) in
    let y = numbers (present b) in
    rw (present-append a b, numbers-append (present a) (present b), list_all-append is_nonzero x y) (ap Some (both_are_true (list_all is_nonzero x) (list_all is_nonzero y)))

-- ---- folds of one present cell

pub sum_one : (t : DType) (p : ℕ) (x : ℤ) → fold_of Sum t ((p, Some x) ∷ []) ≡ Some (wrap_to (total_kind t) x)
sum_one t p x = let e : x +ℤ pos 0 ≡ x = omega (arith, ints) in rw e refl

pub prod_one : (t : DType) (p : ℕ) (x : ℤ) → fold_of Prod t ((p, Some x) ∷ []) ≡ Some (wrap_to (total_kind t) x)
prod_one t p x = let e : x *ℤ pos 1 ≡ x = omega (arith, ints) in rw e refl

pub argmin_one : (t : DType) (p : ℕ) (x : ℤ) → fold_of ArgMin t ((p, Some x) ∷ []) ≡ Some (pos p)
argmin_one t p x = rw (int_eq_same x x refl) refl

pub argmax_one : (t : DType) (p : ℕ) (x : ℤ) → fold_of ArgMax t ((p, Some x) ∷ []) ≡ Some (pos p)
argmax_one t p x = rw (int_eq_same x x refl) refl

pub any_one : (t : DType) (p : ℕ) (x : ℤ) → fold_of Any t ((p, Some x) ∷ []) ≡ Some (truth (is_nonzero x))
any_one t p x = elim (is_nonzero x) as (λ v. Some (truth (v || false)) ≡ Some (truth v)) [ true ↦ refl | false ↦ refl ]

pub all_one : (t : DType) (p : ℕ) (x : ℤ) → fold_of All t ((p, Some x) ∷ []) ≡ Some (truth (is_nonzero x))
all_one t p x = elim (is_nonzero x) as (λ v. Some (truth (v && true)) ≡ Some (truth v)) [ true ↦ refl | false ↦ refl ]

-- ---- folds of nothing; every other fold of nothing computes

pub sum_none : (t : DType) → fold_of Sum t [] ≡ Some (pos 0)
unfolding int_wrap
sum_none t = elim (is_unsigned t) as (λ u. Some (wrap_to (if u then UInt64 else Int64) (pos 0)) ≡ Some (pos 0)) [ true ↦ refl | false ↦ refl ]

pub prod_none : (t : DType) → fold_of Prod t [] ≡ Some (pos 1)
unfolding int_wrap
prod_none t = elim (is_unsigned t) as (λ u. Some (wrap_to (if u then UInt64 else Int64) (pos 1)) ≡ Some (pos 1)) [ true ↦ refl | false ↦ refl ]

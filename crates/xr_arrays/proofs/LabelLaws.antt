-- The order of labels is total, and what follows for its tests.
use Rattle.std.proofs.Common.{◌≡◌, ℕ, ℤ, pos, true, false, not, ◌&&◌, List, [], refl, sym, ◌∙◌, ap}
use Rattle.std.specs.declared.cmp.Ordering.{Ordering}
use Rattle.std.specs.declared.cmp.Ordering.TheVariants.{Less, Equal, Greater}
use Rattle.std.specs.Ordering.{is_lt, is_eq, is_le, is_gt, is_ge, int_cmp, nat_cmp, ordering_then, ordering_reverse, then_cmp, on}
use Rattle.std.specs.Cmp.{IsTotalOrder}
use Rattle.std.specs.Cmp.Lexicographic.{slice_cmp}
use Rattle.std.proofs.lemmas.Cmp.{then_total, on_total, nat_cmp_total, int_cmp_total, nat_list_cmp_total, upto, tied_itself}
use Rattle.xr_types.specs.declared.axis.Label.{Label}
use Rattle.xr_types.specs.declared.axis.Label.TheVariants.{Int, Time, Text}
use Rattle.xr_arrays.specs.Labels.{order, same, below, at_most}

abbrev kind_rank : Label → ℕ
kind_rank (Int n) = 0
kind_rank (Time t) = 1
kind_rank (Text s) = 2

abbrev number : Label → ℤ
number (Int n) = n
number (Time t) = t
number (Text s) = pos 0

abbrev bytes : Label → List ℕ
bytes (Text s) = s
bytes x = []

abbrev by_parts : Label → Label → Ordering
by_parts = then_cmp (on kind_rank nat_cmp) (then_cmp (on number int_cmp) (on bytes (slice_cmp nat_cmp)))

then_equal : (o : Ordering) → o ≡ ordering_then o Equal
then_equal Less = refl
then_equal Equal = refl
then_equal Greater = refl

order-by_parts : (x y : Label) → order x y ≡ by_parts x y
order-by_parts (Int a) (Int b) = then_equal (int_cmp a b)
order-by_parts (Int a) (Time b) = refl
order-by_parts (Int a) (Text b) = refl
order-by_parts (Time a) (Int b) = refl
order-by_parts (Time a) (Time b) = then_equal (int_cmp a b)
order-by_parts (Time a) (Text b) = refl
order-by_parts (Text a) (Int b) = refl
order-by_parts (Text a) (Time b) = refl
order-by_parts (Text a) (Text b) = refl

parts_total : IsTotalOrder by_parts
parts_total = then_total (on_total kind_rank nat_cmp_total) (then_total (on_total number int_cmp_total) (on_total bytes nat_list_cmp_total))

pub order_total : IsTotalOrder order
order_total = record {
  antisymm = λ x y. order-by_parts x y ∙ parts_total.antisymm x y ∙ ap ordering_reverse (sym (order-by_parts y x));
  trans = λ x y z p q. order-by_parts x z ∙ parts_total.trans x y z (sym (order-by_parts x y) ∙ p) (sym (order-by_parts y z) ∙ q);
  congr = λ x y z p. order-by_parts x z ∙ parts_total.congr x y z (sym (order-by_parts x y) ∙ p) ∙ sym (order-by_parts y z);
}

le_is : (o : Ordering) → is_le o ≡ not (is_gt o)
le_is Less = refl
le_is Equal = refl
le_is Greater = refl

lt_is : (o : Ordering) → is_lt o ≡ not (is_le (ordering_reverse o))
lt_is Less = refl
lt_is Equal = refl
lt_is Greater = refl

eq_is : (o : Ordering) → is_eq o ≡ (is_le o && is_le (ordering_reverse o))
eq_is Less = refl
eq_is Equal = refl
eq_is Greater = refl

some_way : (o : Ordering) → is_le o ≡ false → is_le (ordering_reverse o) ≡ true
some_way Less h = sym h
some_way Equal h = refl
some_way Greater h = refl

pub below_is : (x y : Label) → below x y ≡ not (at_most y x)
below_is x y = lt_is (order x y) ∙ ap (λ o. not (is_le o)) (sym (order_total.antisymm y x))

pub same_is : (x y : Label) → same x y ≡ (at_most x y && at_most y x)
same_is x y = eq_is (order x y) ∙ ap (λ o. is_le (order x y) && is_le o) (sym (order_total.antisymm y x))

-- of two labels one is at most the other
pub one_way : (x y : Label) → at_most x y ≡ false → at_most y x ≡ true
one_way x y h = ap is_le (order_total.antisymm y x) ∙ some_way (order x y) h

not_gt : (o : Ordering) → is_le o ≡ true → is_gt o ≡ false
not_gt Less h = refl
not_gt Equal h = refl
not_gt Greater h = sym h

is_not_gt : (o : Ordering) → is_gt o ≡ false → is_le o ≡ true
is_not_gt Less h = refl
is_not_gt Equal h = refl
is_not_gt Greater h = sym h

pub at_most-trans : (x y z : Label) → at_most x y ≡ true → at_most y z ≡ true → at_most x z ≡ true
at_most-trans x y z p q = is_not_gt (order x z) (upto order_total x y z (not_gt (order x y) p) (not_gt (order y z) q))

pub at_most-refl : (x : Label) → at_most x x ≡ true
at_most-refl x = ap is_le (tied_itself order_total x)

ge_is : (o : Ordering) → is_ge o ≡ is_le (ordering_reverse o)
ge_is Less = refl
ge_is Equal = refl
ge_is Greater = refl

pub at_least_is : (x y : Label) → is_ge (order x y) ≡ at_most y x
at_least_is x y = ge_is (order x y) ∙ ap is_le (sym (order_total.antisymm y x))

lt_again : (o : Ordering) → is_lt o ≡ false → is_le (ordering_reverse o) ≡ true
lt_again Less h = sym h
lt_again Equal h = refl
lt_again Greater h = refl

pub not_less : (x y : Label) → is_lt (order x y) ≡ false → at_most y x ≡ true
not_less x y h = ap is_le (order_total.antisymm y x) ∙ lt_again (order x y) h

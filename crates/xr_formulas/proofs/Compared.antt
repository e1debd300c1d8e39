-- Operations of cells of a kind and a number: a comparison with a number that the kind doesn't have says the same as one with its
-- least number.
use Rattle.xr_formulas.proofs.Common.{Bool, DType, Fills, InRange, IsCell, IsPlaced, Left, None, OpKind, Option, Placed, Right, Side, Some, Suits, always, and_cases, and_parts, ap, arith, ascending, beside, cond, cond_both, elem, false, flag, high, holds, in_range, inl, inr, int_le, int_lt, ints, is_comparison, is_some, low, placed_cell, refl, result_kind, sym, takes_two, true, within_kind, ℤ, ◌<ℤ◌, ◌||◌, ◌∙◌, ◌≡◌, ◌≤ℤ◌}
use Rattle.std.proofs.Math.Bool.{or-false}
use Rattle.xr_types.specs.declared.kind.DType.TheVariants as kinds
use Rattle.xr_types.specs.declared.operation.OpKind.TheVariants as ops

-- ---- ranges

pub range_is : (t : DType) (n : ℤ) → in_range t n ≡ true → InRange t n
range_is t n e = let parts = and_parts (int_le (low t) n) (int_le n (high t)) e in (grind (arith, ints, parts.0), grind (arith, ints, parts.1))

ordered : (t : DType) → low t ≤ℤ high t
ordered kinds.Bool = omega (arith, ints)
ordered t = omega (arith, ints)

-- a number that isn't of the kind and not below it is above it
is_over : (t : DType) (n : ℤ) → in_range t n ≡ false → int_lt n (low t) ≡ false → high t <ℤ n
is_over t n out e = elim (and_cases (int_le (low t) n) (int_le n (high t)) out) [ inl f ↦ grind (arith, ints, e, f) | inr f ↦ grind (arith, ints, f) ]

-- ---- comparisons of numbers that aren't equal

tests_of : (x y : ℤ) → x <ℤ y → (int_le x y ≡ true) × (int_le y x ≡ false) × (int_lt x y ≡ true) × (int_lt y x ≡ false)
tests_of x y h = (grind (arith, ints, h), grind (arith, ints, h), grind (arith, ints, h), grind (arith, ints, h))

holds_up : (op : OpKind) (t : DType) (x y : ℤ) → is_comparison op ≡ true → x <ℤ y → elem op t (Some x) (Some y) ≡ Some (flag (holds op true))
holds_up ops.Equal t x y e h = let is = tests_of x y h in rw (is.0, is.1) refl
holds_up ops.NotEqual t x y e h = let is = tests_of x y h in rw (is.0, is.1) refl
holds_up op t x y e h = let is = tests_of x y h in let a = is.0 in let b = is.1 in let c = is.2 in let d = is.3 in cc

holds_down : (op : OpKind) (t : DType) (x y : ℤ) → is_comparison op ≡ true → y <ℤ x → elem op t (Some x) (Some y) ≡ Some (flag (holds op false))
holds_down ops.Equal t x y e h = let is = tests_of y x h in rw (is.0, is.1) refl
holds_down ops.NotEqual t x y e h = let is = tests_of y x h in rw (is.0, is.1) refl
holds_down op t x y e h = let is = tests_of y x h in let a = is.0 in let b = is.1 in let c = is.2 in let d = is.3 in cc

-- with one of them on its side
apart_is : (side : Side) (op : OpKind) (t : DType) (x n : ℤ) (below : Bool) → is_comparison op ≡ true → (below ≡ true → n <ℤ x) → (below ≡ false → x <ℤ n) → beside side op t (Some x) n ≡ Some (flag (holds op (ascending side below)))
apart_is Left op t x n true e under over = holds_up op t n x e (under refl)
apart_is Left op t x n false e under over = holds_down op t n x e (over refl)
apart_is Right op t x n true e under over = holds_down op t x n e (under refl)
apart_is Right op t x n false e under over = holds_up op t x n e (over refl)

-- a comparison with a missing cell has none
missing_is : (side : Side) (op : OpKind) (t : DType) (n : ℤ) → is_comparison op ≡ true → beside side op t None n ≡ None
missing_is Left ops.Equal t n e = refl
missing_is Right ops.Equal t n e = refl
missing_is side op t n e = cc

-- ---- a number that the kind has in its place

always_is : (t : DType) (b : Bool) (x : ℤ) → InRange t x → placed_cell t (always t b) (Some x) ≡ Some (flag b)
always_is t true x is = let from = is.0 in let e : int_le (low t) x ≡ true = grind (arith, ints, from) in ap (λ b. Some (flag b)) e
always_is t false x is = let from = is.0 in let e : int_lt x (low t) ≡ false = grind (arith, ints, from) in ap (λ b. Some (flag b)) e

always_two : (t : DType) (b : Bool) → (is_comparison (always t b).op ≡ true) × (takes_two (always t b).op ≡ true) × Suits (always t b).op t
always_two t true = (refl, refl, λ f. absurd cc)
always_two t false = (refl, refl, λ f. absurd cc)

-- what it says, and that a plan takes it
pub record SaysSame (t : DType) (p q : Placed) : Type 0 where
  pub says : (x : Option ℤ) → IsCell t x → placed_cell t q x ≡ placed_cell t p x
  pub two : takes_two q.op ≡ true
  pub suits : Suits q.op t
  pub range : InRange t q.number
  pub kind : result_kind q.op t ≡ result_kind p.op t

module _ (t : DType) (p : Placed) (compares : is_comparison p.op ≡ true) (out : in_range t p.number ≡ false) where
  abbrev below : Bool
  below = int_lt p.number (low t)

  abbrev q : Placed
  q = always t (holds p.op (ascending p.side below))

  takes : (is_comparison q.op ≡ true) × (takes_two q.op ≡ true) × Suits q.op t
  takes = always_two t (holds p.op (ascending p.side below))

  each : (x : Option ℤ) → IsCell t x → placed_cell t q x ≡ placed_cell t p x
  each None cell = missing_is q.side q.op t q.number takes.0 ∙ sym (missing_is p.side p.op t p.number compares)
  each (Some x) cell =
      let from = cell.0 in
      let to = cell.1 in
      always_is t (holds p.op (ascending p.side below)) x cell
      ∙ sym (apart_is p.side p.op t x p.number below compares (λ e. grind (arith, ints, e, from)) (λ e. let over = is_over t p.number out e in omega (arith, ints, over, to)))

  beyond_same : SaysSame t p q
  beyond_same = record {
    says = each;
    two = takes.1;
    suits = takes.2;
    range = let up = ordered t in (omega (arith, ints), up);
    kind = ap (λ b. cond b kinds.Bool t) (takes.0 ∙ sym compares);
  }

pub within_says : (t : DType) (p : Placed) → IsPlaced t p → SaysSame t p (within_kind t p)
within_says t p is =
    cond_both (in_range t p.number) p (always t (holds p.op (ascending p.side (int_lt p.number (low t))))) (SaysSame t p)
    (λ e. record { says = λ x cell. refl; two = is.two; suits = is.suits; range = range_is t p.number e; kind = refl })
    (λ e. beyond_same t p (sym (or-false (is_comparison p.op)) ∙ ap (λ b. is_comparison p.op || b) (sym e) ∙ is.fits) e)

-- ---- no cell is missing where none was

two_seen : (op : OpKind) (t : DType) (x y : Option ℤ) → takes_two op ≡ true → is_some x ≡ true → is_some y ≡ true → is_some (elem op t x y) ≡ true
two_seen op t None y two h i = absurd cc
two_seen op t (Some m) None two h i = absurd cc
two_seen ops.Add t (Some m) (Some n) two h i = refl
two_seen op t (Some m) (Some n) two h i = cc

pub pair_fills : (t : DType) (p : Placed) (own : Bool) → takes_two p.op ≡ true → Fills t p own own
pair_fills t p own two plain x seen = by p.side
  where
    by : (side : Side) → is_some (beside side p.op t x p.number) ≡ true
    by Left = two_seen p.op t (Some p.number) x two refl (seen plain)
    by Right = two_seen p.op t x (Some p.number) two (seen plain) refl

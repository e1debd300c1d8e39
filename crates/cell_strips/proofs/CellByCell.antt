-- One cell, by its number and the byte of its mask, as the operation on cells.
use Rattle.std.proofs.Common.{◌≡◌, ◌-◌, ℕ, ℤ, zero, suc, pos, max, cond, refl, sym, ap, subst, ◌∙◌, arith}
use Rattle.std.proofs.Math.Dec.{eqb-suc-zero}
use Rattle.std.specs.Prelude.{Option, Some, None}
use Rattle.std.specs.Prelude.{true}
use Rattle.xr_types.specs.Kinds.{InRange}
use Rattle.xr_types.specs.declared.kind.DType.{DType}
use Rattle.xr_types.specs.declared.kind.DType.TheVariants as kinds
use Rattle.xr_types.specs.declared.operation.OpKind.{OpKind}
use Rattle.xr_types.specs.declared.operation.OpKind.TheVariants as ops
use Rattle.xr_arrays.specs.Arrays.{cell, IsCell}
use Rattle.xr_arrays.specs.Elements.{elem, lifted, filled, choose, unary_kind, result_kind, takes_one, takes_two, Gives}
use Rattle.elem_kernel.specs.Conditions.{IsPlain, IsSign}
use Rattle.elem_kernel.specs.Masks.{first_at_zero}
use Rattle.plan_core.proofs.ElementRanges.{two_in, flag_in, negated_in, inverted_in}

-- ---- cells under a mask

hide : (n : ℤ) (b : ℕ) → cell (n, suc b) ≡ None
hide n b = ap (λ t. cond t (Some n) None) (eqb-suc-zero b)

-- ---- operations that are missing where an operand is

pub record IsStrict (op : OpKind) (t : DType) : Type 0 where
  pub left : (y : Option ℤ) → elem op t None y ≡ None
  pub right : (x : Option ℤ) → elem op t x None ≡ None

lifted_none : (f : ℤ → ℤ → ℤ) (x : Option ℤ) → lifted f x None ≡ None
lifted_none f None = refl
lifted_none f (Some m) = refl

pub plain_strict : (op : OpKind) (t : DType) → IsPlain op → IsStrict op t
plain_strict ops.Add t is = record { left = λ y. refl; right = lifted_none _ }
plain_strict ops.Subtract t is = record { left = λ y. refl; right = lifted_none _ }
plain_strict ops.Multiply t is = record { left = λ y. refl; right = lifted_none _ }
plain_strict ops.FloorDivide t is = record { left = λ y. refl; right = lifted_none _ }
plain_strict ops.Remainder t is = record { left = λ y. refl; right = lifted_none _ }
plain_strict ops.And t is = record { left = λ y. refl; right = lifted_none _ }
plain_strict ops.Or t is = record { left = λ y. refl; right = lifted_none _ }
plain_strict ops.Xor t is = record { left = λ y. refl; right = lifted_none _ }
plain_strict ops.Equal t is = record { left = λ y. refl; right = lifted_none _ }
plain_strict ops.NotEqual t is = record { left = λ y. refl; right = lifted_none _ }
plain_strict ops.Less t is = record { left = λ y. refl; right = lifted_none _ }
plain_strict ops.LessEqual t is = record { left = λ y. refl; right = lifted_none _ }
plain_strict ops.Greater t is = record { left = λ y. refl; right = lifted_none _ }
plain_strict ops.GreaterEqual t is = record { left = λ y. refl; right = lifted_none _ }
plain_strict op t is = absurd is

pub cell_of_two : (op : OpKind) (t : DType) → IsStrict op t → (i j k : ℕ) (m n r : ℤ) → k ≡ max i j → Some r ≡ elem op t (Some m) (Some n) → cell (r, k) ≡ elem op t (cell (m, i)) (cell (n, j))
cell_of_two op t strict zero zero k m n r e is = let none : k ≡ 0 = omega arith in ap (λ b. cell (r, b)) none ∙ is
cell_of_two op t strict zero (suc j) k m n r e is =
    let more : k ≡ suc j = omega arith in ap (λ b. cell (r, b)) more ∙ hide r j ∙ sym (strict.right (Some m)) ∙ ap (elem op t (Some m)) (sym (hide n j))
cell_of_two op t strict (suc i) j k m n r e is =
    let more : k ≡ suc (max i (j - 1)) = omega arith in ap (λ b. cell (r, b)) more ∙ hide r (max i (j - 1)) ∙ sym (strict.left (cell (n, j))) ∙ ap (λ c. elem op t c (cell (n, j))) (sym (hide m i))

-- ---- operations of one operand

pub cell_of_one : (op : OpKind) (t : DType) → elem op t None None ≡ None → (i k : ℕ) (m r : ℤ) → k ≡ i → Some r ≡ elem op t (Some m) None → cell (r, k) ≡ elem op t (cell (m, i)) None
cell_of_one op t strict zero k m r e is = ap (λ b. cell (r, b)) e ∙ is
cell_of_one op t strict (suc i) k m r e is = ap (λ b. cell (r, b)) e ∙ hide r i ∙ sym strict ∙ ap (λ c. elem op t c None) (sym (hide m i))

pub sign_strict : (op : OpKind) (t : DType) → IsSign op → elem op t None None ≡ None
sign_strict ops.Negate t is = refl
sign_strict ops.Invert t is = refl
sign_strict op t is = absurd is

pub sign_takes : (op : OpKind) → IsSign op → takes_one op ≡ true
sign_takes ops.Negate is = refl
sign_takes ops.Invert is = refl
sign_takes op is = absurd is

pub sign_kind : (op : OpKind) (kind t : DType) → IsSign op → unary_kind op kind t ≡ t
sign_kind ops.Negate kind t is = refl
sign_kind ops.Invert kind t is = refl
sign_kind op kind t is = absurd is

pub sign_gives : (op : OpKind) (kind t : DType) → IsSign op → Gives op kind t → kind ≡ t
sign_gives ops.Negate kind t is gives = gives
sign_gives ops.Invert kind t is gives = gives
sign_gives op kind t is gives = absurd is

pub sign_in : (op : OpKind) (t : DType) (x : Option ℤ) → IsSign op → IsCell t (elem op t x None)
sign_in ops.Negate t x is = negated_in t x
sign_in ops.Invert t x is = inverted_in t x
sign_in op t x is = absurd is

pub null_told : (t : DType) (n : ℤ) (b : ℕ) → Some (pos (first_at_zero b 0 1)) ≡ elem ops.IsNull t (cell (n, b)) None
null_told t n zero = refl
null_told t n (suc b) = ap (λ c. elem ops.IsNull t c None) (sym (hide n b))

pub there_told : (t : DType) (n : ℤ) (b : ℕ) → Some (pos (first_at_zero b 1 0)) ≡ elem ops.NotNull t (cell (n, b)) None
there_told t n zero = refl
there_told t n (suc b) = ap (λ c. elem ops.NotNull t c None) (sym (hide n b))

-- ---- cells that are picked

pub cell_filled : (k j h : ℕ) (m n r : ℤ) → h ≡ first_at_zero k 0 j → r ≡ first_at_zero k m n → cell (r, h) ≡ filled (cell (m, k)) (cell (n, j))
cell_filled zero j h m n r e is = λ i. cell (is i, e i)
cell_filled (suc k) j h m n r e is = (λ i. cell (is i, e i)) ∙ ap (λ c. filled c (cell (n, j))) (sym (hide m k))

pub cell_chosen : (c i j k h : ℕ) (m n r : ℤ) → h ≡ max k (first_at_zero c j i) → r ≡ first_at_zero c n m → cell (r, h) ≡ choose (cell (pos c, k)) (cell (m, i)) (cell (n, j))
cell_chosen zero i j zero h m n r e is = let shows : h ≡ j = omega arith in λ l. cell (is l, shows l)
cell_chosen (suc c) i j zero h m n r e is = let shows : h ≡ i = omega arith in λ l. cell (is l, shows l)
cell_chosen zero i j (suc k) h m n r e is =
    let hides : h ≡ suc (max k (j - 1)) = omega arith in ap (λ b. cell (r, b)) hides ∙ hide r (max k (j - 1)) ∙ ap (λ c. choose c (cell (m, i)) (cell (n, j))) (sym (hide (pos 0) k))
cell_chosen (suc c) i j (suc k) h m n r e is =
    let hides : h ≡ suc (max k (i - 1)) = omega arith in ap (λ b. cell (r, b)) hides ∙ hide r (max k (i - 1)) ∙ ap (λ d. choose d (cell (m, i)) (cell (n, j))) (sym (hide (pos (suc c)) k))

-- ---- truth values

by_kind : (op : OpKind) (t : DType) (m n : ℤ) → takes_two op ≡ true → (t ≡ kinds.Bool → InRange kinds.Bool m × InRange kinds.Bool n) → t ≡ kinds.Bool → IsCell (result_kind op kinds.Bool) (elem op t (Some m) (Some n))
by_kind op t m n two ranges e = let r = ranges e in subst (λ u. IsCell (result_kind op kinds.Bool) (elem op u (Some m) (Some n))) (sym e) (two_in op kinds.Bool (Some m) (Some n) two r.0 r.1)

pub truth_of_two : (op : OpKind) (t : DType) (m n : ℤ) → takes_two op ≡ true → (t ≡ kinds.Bool → InRange kinds.Bool m × InRange kinds.Bool n) → result_kind op t ≡ kinds.Bool → IsCell kinds.Bool (elem op t (Some m) (Some n))
truth_of_two ops.Equal t m n two ranges e = flag_in _
truth_of_two ops.NotEqual t m n two ranges e = flag_in _
truth_of_two ops.Less t m n two ranges e = flag_in _
truth_of_two ops.LessEqual t m n two ranges e = flag_in _
truth_of_two ops.Greater t m n two ranges e = flag_in _
truth_of_two ops.GreaterEqual t m n two ranges e = flag_in _
truth_of_two ops.Add t m n two ranges e = by_kind ops.Add t m n two ranges e
truth_of_two ops.Subtract t m n two ranges e = by_kind ops.Subtract t m n two ranges e
truth_of_two ops.Multiply t m n two ranges e = by_kind ops.Multiply t m n two ranges e
truth_of_two ops.FloorDivide t m n two ranges e = by_kind ops.FloorDivide t m n two ranges e
truth_of_two ops.Remainder t m n two ranges e = by_kind ops.Remainder t m n two ranges e
truth_of_two ops.And t m n two ranges e = by_kind ops.And t m n two ranges e
truth_of_two ops.Or t m n two ranges e = by_kind ops.Or t m n two ranges e
truth_of_two ops.Xor t m n two ranges e = by_kind ops.Xor t m n two ranges e
truth_of_two ops.FillNa t m n two ranges e = by_kind ops.FillNa t m n two ranges e
truth_of_two ops.Divide t m n two ranges e = absurd cc
truth_of_two ops.Negate t m n two ranges e = absurd cc
truth_of_two ops.Invert t m n two ranges e = absurd cc
truth_of_two ops.IsNull t m n two ranges e = absurd cc
truth_of_two ops.NotNull t m n two ranges e = absurd cc
truth_of_two ops.Cast t m n two ranges e = absurd cc

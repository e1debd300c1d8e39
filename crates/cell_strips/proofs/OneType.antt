-- Kinds whose cells are of one type.
use Rattle.std.proofs.Common.{◌≡◌, ◌<◌, ℕ, ℤ, zero, suc, pos, List, length, get_or, refl, sym, ap, subst, ◌∙◌, arith}
use Rattle.std.specs.Prelude.{Some, None}
use Rattle.xr_types.specs.declared.kind.DType.{DType}
use Rattle.xr_types.specs.declared.kind.DType.TheVariants.{Bool, Char, UInt8}
use Rattle.xr_types.specs.declared.operation.OpKind.{OpKind}
use Rattle.xr_types.specs.declared.operation.OpKind.TheVariants as ops
use Rattle.xr_arrays.specs.Arrays.{kind_of}
use Rattle.xr_arrays.specs.Elements.{elem}
use Rattle.xr_arrays.specs.declared.typed.Cells.{Cells}
use Rattle.elem_kernel.specs.Conditions.{IsArithmetic, IsBitwise, IsComparison, IsNumeric}
use Rattle.elem_kernel.specs.Masks.{first_at_zero}
use Rattle.cell_strips.specs.Rows.{count, number_at}

pub of_bytes : (op : OpKind) (m n : ℤ) → elem op Char (Some m) (Some n) ≡ elem op UInt8 (Some m) (Some n)
of_bytes ops.Add m n = refl
of_bytes ops.Subtract m n = refl
of_bytes ops.Multiply m n = refl
of_bytes ops.FloorDivide m n = refl
of_bytes ops.Remainder m n = refl
of_bytes ops.Divide m n = refl
of_bytes ops.And m n = refl
of_bytes ops.Or m n = refl
of_bytes ops.Xor m n = refl
of_bytes ops.Equal m n = refl
of_bytes ops.NotEqual m n = refl
of_bytes ops.Less m n = refl
of_bytes ops.LessEqual m n = refl
of_bytes ops.Greater m n = refl
of_bytes ops.GreaterEqual m n = refl
of_bytes ops.Negate m n = refl
of_bytes ops.Invert m n = refl
of_bytes ops.IsNull m n = refl
of_bytes ops.NotNull m n = refl
of_bytes ops.FillNa m n = refl
of_bytes ops.Cast m n = refl

pub turned_bytes : (op : OpKind) (m : ℤ) → elem op Char (Some m) None ≡ elem op UInt8 (Some m) None
turned_bytes ops.Add m = refl
turned_bytes ops.Subtract m = refl
turned_bytes ops.Multiply m = refl
turned_bytes ops.FloorDivide m = refl
turned_bytes ops.Remainder m = refl
turned_bytes ops.Divide m = refl
turned_bytes ops.And m = refl
turned_bytes ops.Or m = refl
turned_bytes ops.Xor m = refl
turned_bytes ops.Equal m = refl
turned_bytes ops.NotEqual m = refl
turned_bytes ops.Less m = refl
turned_bytes ops.LessEqual m = refl
turned_bytes ops.Greater m = refl
turned_bytes ops.GreaterEqual m = refl
turned_bytes ops.Negate m = refl
turned_bytes ops.Invert m = refl
turned_bytes ops.IsNull m = refl
turned_bytes ops.NotNull m = refl
turned_bytes ops.FillNa m = refl
turned_bytes ops.Cast m = refl

pub joined_truths : (op : OpKind) (m n : ℕ) → IsBitwise op → elem op Char (Some (pos m)) (Some (pos n)) ≡ elem op Bool (Some (pos m)) (Some (pos n))
joined_truths ops.And m n is = refl
joined_truths ops.Or m n is = refl
joined_truths ops.Xor m n is = refl
joined_truths op m n is = absurd is

pub any_order : (op : OpKind) (m n : ℤ) → IsComparison op → elem op Char (Some m) (Some n) ≡ elem op Bool (Some m) (Some n)
any_order ops.Equal m n is = refl
any_order ops.NotEqual m n is = refl
any_order ops.Less m n is = refl
any_order ops.LessEqual m n is = refl
any_order ops.Greater m n is = refl
any_order ops.GreaterEqual m n is = refl
any_order op m n is = absurd is

pub natural_picked : (b x y : ℕ) → pos (first_at_zero b x y) ≡ first_at_zero b (pos x) (pos y)
natural_picked zero x y = refl
natural_picked (suc b) x y = refl

-- ---- cells of one type by their rows

module _ (K : List ℕ → Cells) (t : DType) (kind_is : (v : List ℕ) → kind_of (K v) ≡ t) (count_is : (v : List ℕ) → count (K v) ≡ length v) (number_is : (v : List ℕ) (i : ℕ) → number_at (K v) i ≡ pos (get_or v i 0))
    (a : Cells) (v u : List ℕ) (is_a : a ≡ K v) (same_u : u ≡ v) where
  within : (i : ℕ) → i < count a → i < length u
  within i lt = subst (λ n. i < n) (ap count is_a ∙ count_is v ∙ ap length (sym same_u)) lt

  here : (i : ℕ) → pos (get_or u i 0) ≡ number_at a i
  here i = ap (λ l. pos (get_or l i 0)) same_u ∙ sym (number_is v i) ∙ ap (λ c. number_at c i) (sym is_a)

  pub of_one_row : (op : OpKind) (r : List ℕ) → ((m : ℕ) → elem op Char (Some (pos m)) None ≡ elem op t (Some (pos m)) None)
      → ((i x z : ℕ) → i < length u → Some (pos (get_or r i z)) ≡ elem op Char (Some (pos (get_or u i x))) None)
      → (i : ℕ) → i < count a → Some (pos (get_or r i 0)) ≡ elem op (kind_of a) (Some (number_at a i)) None
  of_one_row op r same h i lt =
      h i 0 0 (within i lt) ∙ same (get_or u i 0) ∙ ap (λ k. elem op k (Some (pos (get_or u i 0))) None) (sym (kind_is v) ∙ ap kind_of (sym is_a)) ∙ ap (λ n. elem op (kind_of a) (Some n) None) (here i)

  module _ (b : Cells) (w s : List ℕ) (is_b : b ≡ K w) (same_s : s ≡ w) where
    there : (i : ℕ) → pos (get_or s i 0) ≡ number_at b i
    there i = ap (λ l. pos (get_or l i 0)) same_s ∙ sym (number_is w i) ∙ ap (λ c. number_at c i) (sym is_b)

    pub of_two_rows : (op : OpKind) (r : List ℕ) → ((m n : ℕ) → elem op Char (Some (pos m)) (Some (pos n)) ≡ elem op t (Some (pos m)) (Some (pos n)))
        → ((i x y z : ℕ) → i < length u → Some (pos (get_or r i z)) ≡ elem op Char (Some (pos (get_or u i x))) (Some (pos (get_or s i y))))
        → (i : ℕ) → i < count a → Some (pos (get_or r i 0)) ≡ elem op (kind_of a) (Some (number_at a i)) (Some (number_at b i))
    of_two_rows op r same h i lt =
        h i 0 0 0 (within i lt) ∙ same (get_or u i 0) (get_or s i 0) ∙ ap (λ k. elem op k (Some (pos (get_or u i 0))) (Some (pos (get_or s i 0)))) (sym (kind_is v) ∙ ap kind_of (sym is_a))
        ∙ (λ j. elem op (kind_of a) (Some (here i j)) (Some (there i j)))

    pub picked_row : (by r : List ℕ) → length by ≡ count a → ((i k x y z : ℕ) → i < length by → get_or r i z ≡ first_at_zero (get_or by i k) (get_or u i x) (get_or s i y))
        → (i : ℕ) → i < count a → pos (get_or r i 0) ≡ first_at_zero (get_or by i 0) (number_at a i) (number_at b i)
    picked_row by r long h i lt =
        ap pos (h i 0 0 0 0 (omega (arith, lt, long))) ∙ natural_picked (get_or by i 0) (get_or u i 0) (get_or s i 0) ∙ (λ j. first_at_zero (get_or by i 0) (here i j) (there i j))

pub bitwise_left : (op : OpKind) → IsNumeric op → (IsArithmetic op → ⊥) → IsBitwise op
bitwise_left ops.And is none = tt
bitwise_left ops.Or is none = tt
bitwise_left ops.Xor is none = tt
bitwise_left ops.Add is none = absurd (none tt)
bitwise_left ops.Subtract is none = absurd (none tt)
bitwise_left ops.Multiply is none = absurd (none tt)
bitwise_left ops.FloorDivide is none = absurd (none tt)
bitwise_left ops.Remainder is none = absurd (none tt)
bitwise_left op is none = absurd is

pub zero_picked : (b : ℕ) → first_at_zero {X = ℕ} b 0 0 ≡ 0
zero_picked zero = refl
zero_picked (suc b) = refl

-- A cell whose number and whose mask's byte are made from those of other cells.
use Rattle.std.proofs.Common.{◌≡◌, ◌-◌, ℕ, ℤ, zero, suc, max, refl, sym, ap, ◌∙◌, arith}
use Rattle.std.specs.Prelude.{Option, Some, None, option_map}
use Rattle.xr_types.specs.declared.kind.DType.{DType}
use Rattle.xr_types.specs.declared.kind.DType.TheVariants.{Bool}
use Rattle.xr_arrays.specs.Elements.{elem, lifted, filled, choose}
use Rattle.xr_types.specs.declared.operation.OpKind.{OpKind}
use Rattle.xr_types.specs.declared.operation.OpKind.TheVariants as ops
use Rattle.strided_block.specs.Typed.{truth, unless_hidden}
use Rattle.strided_block.specs.Zips.{Zips}
use Rattle.elem_kernel.specs.Conditions.{IsComparison, IsNumeric, IsSign, IsNullTest}
use Rattle.elem_kernel.specs.Masks.{Joins, Keeps, Picks, ChoiceHides, TellsMissing, first_at_zero}
use Rattle.elem_kernel.specs.Numbers.{HoldsNumber, HoldsOne}
use Rattle.elem_kernel.specs.Pairs.{Maps, Pairs}

-- ---- choices by a byte

pub first_taken : {X : Type 0} (b : ℕ) (x y : X) → b ≡ 0 → first_at_zero b x y ≡ x
first_taken zero x y is = refl
first_taken (suc b) x y is = absurd (omega arith)

pub second_taken : {X : Type 0} (b : ℕ) (x y : X) → (b ≡ 0 → ⊥) → first_at_zero b x y ≡ y
second_taken zero x y some = absurd (some refl)
second_taken (suc b) x y some = refl

pub ruleset taken = (first_taken, second_taken)

pub null_shown : (m : ℕ) → m ≡ 0 → TellsMissing ops.IsNull m 0
null_shown zero is = λ n. refl
null_shown (suc m) is = absurd (omega arith)

pub null_hidden : (m : ℕ) → (m ≡ 0 → ⊥) → TellsMissing ops.IsNull m 1
null_hidden zero some = absurd (some refl)
null_hidden (suc m) some = λ n. refl

pub there_shown : (m : ℕ) → m ≡ 0 → TellsMissing ops.NotNull m 1
there_shown zero is = λ n. refl
there_shown (suc m) is = absurd (omega arith)

pub there_hidden : (m : ℕ) → (m ≡ 0 → ⊥) → TellsMissing ops.NotNull m 0
there_hidden zero some = absurd (some refl)
there_hidden (suc m) some = λ n. refl

pub ruleset missing_told = (null_shown, null_hidden, there_shown, there_hidden)

-- ---- masks of operands without a missing cell

pub none_hidden : (a b r : Option ℕ) → a ≡ Some 0 → b ≡ Some 0 → r ≡ Some 0 → Pairs Joins a b r
none_hidden a b r ea eb er = record { x = 0; y = 0; z = 0; first = ea; second = eb; result = er; holds = refl }

pub not_hidden : (a r : Option ℕ) → a ≡ Some 0 → r ≡ Some 0 → Maps Keeps a r
not_hidden a r ea er = record { x = 0; z = 0; first = ea; result = er; holds = refl }

-- the first of two clear bytes is clear
both_clear : (c : ℕ) → 0 ≡ max 0 (first_at_zero c 0 0)
both_clear zero = refl
both_clear (suc c) = refl

pub none_chosen : (c : ℕ) (a b m r : Option ℕ) → a ≡ Some 0 → b ≡ Some 0 → m ≡ Some 0 → r ≡ Some 0 → Zips ChoiceHides (Some c) a b m r
none_chosen c a b m r ea eb em er = record { x = c; y = 0; u = 0; v = 0; z = 0; first = refl; second = ea; third = eb; fourth = em; result = er; holds = both_clear c }

-- ---- operations that are missing where an operand is

-- the operation of a missing cell is missing
pub record IsStrict (op : OpKind) (t : DType) : Type 0 where
  pub left : (y : Option ℤ) → elem op t None y ≡ None
  pub right : (x : Option ℤ) → elem op t x None ≡ None

lifted_none : (f : ℤ → ℤ → ℤ) (x : Option ℤ) → lifted f x None ≡ None
lifted_none f None = refl
lifted_none f (Some m) = refl

pub comparison_strict : (op : OpKind) (t : DType) → IsComparison op → IsStrict op t
comparison_strict ops.Equal t is = record { left = λ y. refl; right = lifted_none _ }
comparison_strict ops.NotEqual t is = record { left = λ y. refl; right = lifted_none _ }
comparison_strict ops.Less t is = record { left = λ y. refl; right = lifted_none _ }
comparison_strict ops.LessEqual t is = record { left = λ y. refl; right = lifted_none _ }
comparison_strict ops.Greater t is = record { left = λ y. refl; right = lifted_none _ }
comparison_strict ops.GreaterEqual t is = record { left = λ y. refl; right = lifted_none _ }
comparison_strict op t is = absurd is

pub numeric_strict : (op : OpKind) (t : DType) → IsNumeric op → IsStrict op t
numeric_strict ops.Add t is = record { left = λ y. refl; right = lifted_none _ }
numeric_strict ops.Subtract t is = record { left = λ y. refl; right = lifted_none _ }
numeric_strict ops.Multiply t is = record { left = λ y. refl; right = lifted_none _ }
numeric_strict ops.FloorDivide t is = record { left = λ y. refl; right = lifted_none _ }
numeric_strict ops.Remainder t is = record { left = λ y. refl; right = lifted_none _ }
numeric_strict ops.And t is = record { left = λ y. refl; right = lifted_none _ }
numeric_strict ops.Or t is = record { left = λ y. refl; right = lifted_none _ }
numeric_strict ops.Xor t is = record { left = λ y. refl; right = lifted_none _ }
numeric_strict op t is = absurd is

pub sign_strict : (op : OpKind) (t : DType) → IsSign op → elem op t None None ≡ None
sign_strict ops.Negate t is = refl
sign_strict ops.Invert t is = refl
sign_strict op t is = absurd is

joined : (op : OpKind) (t : DType) → IsStrict op t → (i j k : ℕ) (m n r : ℤ) → k ≡ max i j → Some r ≡ elem op t (Some m) (Some n) → unless_hidden (Some k) (Some r) ≡ elem op t (unless_hidden (Some i) (Some m)) (unless_hidden (Some j) (Some n))
joined op t strict zero zero k m n r e is = let none : k ≡ 0 = omega arith in ap (λ b. unless_hidden (Some b) (Some r)) none ∙ is
joined op t strict zero (suc j) k m n r e is = let more : k ≡ suc j = omega arith in ap (λ b. unless_hidden (Some b) (Some r)) more ∙ sym (strict.right (Some m))
joined op t strict (suc i) zero k m n r e is = let more : k ≡ suc i = omega arith in ap (λ b. unless_hidden (Some b) (Some r)) more ∙ sym (strict.left (Some n))
joined op t strict (suc i) (suc j) k m n r e is =
    let more : k ≡ suc (max i j) = omega arith in ap (λ b. unless_hidden (Some b) (Some r)) more ∙ sym (strict.left None)

-- the cell of a comparison
pub compared : (op : OpKind) (t : DType) → IsComparison op → (ma mb mr : Option ℕ) (na nb : Option ℤ) (br : Option ℕ) → Pairs Joins ma mb mr → Pairs (λ m n z. Some (truth z) ≡ elem op t (Some m) (Some n)) na nb br
    → unless_hidden mr (option_map truth br) ≡ elem op t (unless_hidden ma na) (unless_hidden mb nb)
compared op t is ma mb mr na nb br masks numbers =
    (λ i. unless_hidden (masks.result i) (option_map truth (numbers.result i)))
    ∙ joined op t (comparison_strict op t is) masks.x masks.y masks.z numbers.x numbers.y (truth numbers.z) masks.holds numbers.holds
    ∙ (λ i. elem op t (unless_hidden (sym masks.first i) (sym numbers.first i)) (unless_hidden (sym masks.second i) (sym numbers.second i)))

-- the cell of an operation on two numbers
pub combined : (op : OpKind) (t : DType) → IsStrict op t → (ma mb mr : Option ℕ) (na nb nr : Option ℤ) → Pairs Joins ma mb mr → HoldsNumber op t na nb nr
    → unless_hidden mr nr ≡ elem op t (unless_hidden ma na) (unless_hidden mb nb)
combined op t strict ma mb mr na nb nr masks numbers =
    (λ i. unless_hidden (masks.result i) (numbers.result i))
    ∙ joined op t strict masks.x masks.y masks.z numbers.x numbers.y numbers.z masks.holds numbers.holds
    ∙ (λ i. elem op t (unless_hidden (sym masks.first i) (sym numbers.first i)) (unless_hidden (sym masks.second i) (sym numbers.second i)))

turned_at : (op : OpKind) (t : DType) → elem op t None None ≡ None → (i k : ℕ) (m r : ℤ) → k ≡ i → Some r ≡ elem op t (Some m) None → unless_hidden (Some k) (Some r) ≡ elem op t (unless_hidden (Some i) (Some m)) None
turned_at op t strict zero k m r e is = ap (λ b. unless_hidden (Some b) (Some r)) e ∙ is
turned_at op t strict (suc i) k m r e is = ap (λ b. unless_hidden (Some b) (Some r)) e ∙ sym strict

-- the cell of an operation on one number
pub turned : (op : OpKind) (t : DType) → elem op t None None ≡ None → (ma mr : Option ℕ) (na nr : Option ℤ) → Maps Keeps ma mr → HoldsOne op t na nr → unless_hidden mr nr ≡ elem op t (unless_hidden ma na) None
turned op t strict ma mr na nr masks numbers =
    (λ i. unless_hidden (masks.result i) (numbers.result i))
    ∙ turned_at op t strict masks.x masks.z numbers.x numbers.z masks.holds numbers.holds
    ∙ (λ i. elem op t (unless_hidden (sym masks.first i) (sym numbers.first i)) None)

-- ---- tests for missing cells

any_kind : (op : OpKind) (t : DType) → IsNullTest op → (x : Option ℤ) → elem op Bool x None ≡ elem op t x None
any_kind ops.IsNull t is x = refl
any_kind ops.NotNull t is x = refl
any_kind op t is x = absurd is

pub told : (op : OpKind) (t : DType) → IsNullTest op → (na : Option ℤ) (ma mr : Option ℕ) (nr : Option ℤ) → mr ≡ Some 0 → Pairs (λ n m r. (z : ℕ) × (r ≡ truth z) × TellsMissing op m z) na ma nr
    → unless_hidden mr nr ≡ elem op t (unless_hidden ma na) None
told op t is na ma mr nr shows tells =
    (λ i. unless_hidden (shows i) (tells.result i)) ∙ ap Some tells.holds.1 ∙ tells.holds.2 tells.x
    ∙ any_kind op t is (unless_hidden (Some tells.y) (Some tells.x))
    ∙ (λ i. elem op t (unless_hidden (sym tells.second i) (sym tells.first i)) None)

-- ---- cells that are picked

some_same : {X : Type 0} (o : Option X) (x y : X) → o ≡ Some x → o ≡ Some y → x ≡ y
some_same o x y a b = cc

filled_at : (k j h : ℕ) (m n r : ℤ) → h ≡ first_at_zero k k j → r ≡ first_at_zero k m n → unless_hidden (Some h) (Some r) ≡ filled (unless_hidden (Some k) (Some m)) (unless_hidden (Some j) (Some n))
filled_at zero j h m n r e is = λ i. unless_hidden (Some (e i)) (Some (is i))
filled_at (suc k) j h m n r e is = λ i. unless_hidden (Some (e i)) (Some (is i))

-- the cell of `fillna`
pub filled_in : (ma mb mr : Option ℕ) (na nb nr : Option ℤ) → Zips Picks ma mb ma ma mr → Zips Picks na nb ma ma nr → unless_hidden mr nr ≡ filled (unless_hidden ma na) (unless_hidden mb nb)
filled_in ma mb mr na nb nr masks numbers =
    let same = some_same ma masks.u masks.x masks.third masks.first in let again = some_same ma numbers.u masks.x numbers.third masks.first in
    (λ i. unless_hidden (masks.result i) (numbers.result i))
    ∙ filled_at masks.x masks.y masks.z numbers.x numbers.y numbers.z (masks.holds ∙ ap (λ b. first_at_zero b masks.x masks.y) same) (numbers.holds ∙ ap (λ b. first_at_zero b numbers.x numbers.y) again)
    ∙ (λ i. filled (unless_hidden (sym masks.first i) (sym numbers.first i)) (unless_hidden (sym masks.second i) (sym numbers.second i)))

chosen_at : (c i j k h : ℕ) (m n r : ℤ) → h ≡ max k (first_at_zero c j i) → r ≡ first_at_zero c n m
    → unless_hidden (Some h) (Some r) ≡ choose (unless_hidden (Some k) (Some (truth c))) (unless_hidden (Some i) (Some m)) (unless_hidden (Some j) (Some n))
chosen_at zero i j zero h m n r e is = let shows : h ≡ j = omega arith in λ l. unless_hidden (Some (shows l)) (Some (is l))
chosen_at (suc c) i j zero h m n r e is = let shows : h ≡ i = omega arith in λ l. unless_hidden (Some (shows l)) (Some (is l))
chosen_at zero i j (suc k) h m n r e is = let hides : h ≡ suc (max k (j - 1)) = omega arith in ap (λ b. unless_hidden (Some b) (Some r)) hides
chosen_at (suc c) i j (suc k) h m n r e is = let hides : h ≡ suc (max k (i - 1)) = omega arith in ap (λ b. unless_hidden (Some b) (Some r)) hides

-- the cell of a choice by the byte c
pub chosen_by : (c : ℕ) (ma mb mc mr : Option ℕ) (nc na nb nr : Option ℤ) → nc ≡ Some (truth c) → Zips ChoiceHides (Some c) ma mb mc mr → (h : ℤ) (m n : ℤ) → na ≡ Some m → nb ≡ Some n → nr ≡ Some h → h ≡ first_at_zero c n m
    → unless_hidden mr nr ≡ choose (unless_hidden mc nc) (unless_hidden ma na) (unless_hidden mb nb)
chosen_by c ma mb mc mr nc na nb nr truths masks h m n ea eb er is =
    let same = some_same (Some c) masks.x c masks.first refl in
    (λ i. unless_hidden (masks.result i) (er i))
    ∙ chosen_at c masks.y masks.u masks.v masks.z m n h (masks.holds ∙ ap (λ b. max masks.v (first_at_zero b masks.u masks.y)) same) is
    ∙ (λ i. choose (unless_hidden (sym masks.fourth i) (sym truths i)) (unless_hidden (sym masks.second i) (sym ea i)) (unless_hidden (sym masks.third i) (sym eb i)))

-- Operators with a common kind have two operands, and arithmetic isn't on truth values.
use Rattle.std.proofs.Common.{◌≡◌, ◌≢◌, ◌&&◌, ◌||◌, ℤ, Bool, true, false, not, Option, Some, None, is_some, Result, Ok, Err, refl, sym, ap, ◌∙◌}
use Rattle.std.proofs.lemmas.Bool.{and_parts}
use Rattle.xr_types.specs.Kinds.{promoted}
use Rattle.xr_types.specs.Results.{◌>>=◌, unless}
use Rattle.xr_types.specs.declared.fault.Fault.{Fault}
use Rattle.xr_types.specs.declared.fault.Fault.TheVariants.{WouldPromote, WrongKind}
use Rattle.xr_types.specs.declared.kind.DType.{DType}
use Rattle.xr_types.specs.declared.kind.DType.TheVariants as kinds
use Rattle.xr_types.specs.declared.operation.OpKind.{OpKind}
use Rattle.xr_types.specs.declared.operation.OpKind.TheVariants as ops
use Rattle.xr_arrays.specs.Elements.{elem, lifted, takes_two, Suits}
use Rattle.xr_defs.specs.Building.{is_chars, is_integer_kind}
use Rattle.xr_operations.specs.Arithmetic.{check_kinds, common_kind, Sort, Arithmetic, Division}
use Rattle.xr_joining.proofs.MeetLaws.{bind_ok, inner, unless_ok}

abbrev is_number : Option DType → Bool
is_number None = true
is_number (Some kinds.Bool) = false
is_number (Some k) = true

number_of_one : (t u : DType) → (is_integer_kind t || is_integer_kind u) ≡ true → is_number (promoted t u) ≡ true
number_of_one kinds.Bool kinds.Bool e = absurd cc
number_of_one kinds.Bool kinds.Char e = absurd cc
number_of_one kinds.Bool kinds.Int8 e = refl
number_of_one kinds.Bool kinds.Int16 e = refl
number_of_one kinds.Bool kinds.Int32 e = refl
number_of_one kinds.Bool kinds.Int64 e = refl
number_of_one kinds.Bool kinds.UInt8 e = refl
number_of_one kinds.Bool kinds.UInt16 e = refl
number_of_one kinds.Bool kinds.UInt32 e = refl
number_of_one kinds.Bool kinds.UInt64 e = refl
number_of_one kinds.Char kinds.Bool e = absurd cc
number_of_one kinds.Char kinds.Char e = absurd cc
number_of_one kinds.Char kinds.Int8 e = refl
number_of_one kinds.Char kinds.Int16 e = refl
number_of_one kinds.Char kinds.Int32 e = refl
number_of_one kinds.Char kinds.Int64 e = refl
number_of_one kinds.Char kinds.UInt8 e = refl
number_of_one kinds.Char kinds.UInt16 e = refl
number_of_one kinds.Char kinds.UInt32 e = refl
number_of_one kinds.Char kinds.UInt64 e = refl
number_of_one kinds.Int8 kinds.Bool e = refl
number_of_one kinds.Int8 kinds.Char e = refl
number_of_one kinds.Int8 kinds.Int8 e = refl
number_of_one kinds.Int8 kinds.Int16 e = refl
number_of_one kinds.Int8 kinds.Int32 e = refl
number_of_one kinds.Int8 kinds.Int64 e = refl
number_of_one kinds.Int8 kinds.UInt8 e = refl
number_of_one kinds.Int8 kinds.UInt16 e = refl
number_of_one kinds.Int8 kinds.UInt32 e = refl
number_of_one kinds.Int8 kinds.UInt64 e = refl
number_of_one kinds.Int16 kinds.Bool e = refl
number_of_one kinds.Int16 kinds.Char e = refl
number_of_one kinds.Int16 kinds.Int8 e = refl
number_of_one kinds.Int16 kinds.Int16 e = refl
number_of_one kinds.Int16 kinds.Int32 e = refl
number_of_one kinds.Int16 kinds.Int64 e = refl
number_of_one kinds.Int16 kinds.UInt8 e = refl
number_of_one kinds.Int16 kinds.UInt16 e = refl
number_of_one kinds.Int16 kinds.UInt32 e = refl
number_of_one kinds.Int16 kinds.UInt64 e = refl
number_of_one kinds.Int32 kinds.Bool e = refl
number_of_one kinds.Int32 kinds.Char e = refl
number_of_one kinds.Int32 kinds.Int8 e = refl
number_of_one kinds.Int32 kinds.Int16 e = refl
number_of_one kinds.Int32 kinds.Int32 e = refl
number_of_one kinds.Int32 kinds.Int64 e = refl
number_of_one kinds.Int32 kinds.UInt8 e = refl
number_of_one kinds.Int32 kinds.UInt16 e = refl
number_of_one kinds.Int32 kinds.UInt32 e = refl
number_of_one kinds.Int32 kinds.UInt64 e = refl
number_of_one kinds.Int64 kinds.Bool e = refl
number_of_one kinds.Int64 kinds.Char e = refl
number_of_one kinds.Int64 kinds.Int8 e = refl
number_of_one kinds.Int64 kinds.Int16 e = refl
number_of_one kinds.Int64 kinds.Int32 e = refl
number_of_one kinds.Int64 kinds.Int64 e = refl
number_of_one kinds.Int64 kinds.UInt8 e = refl
number_of_one kinds.Int64 kinds.UInt16 e = refl
number_of_one kinds.Int64 kinds.UInt32 e = refl
number_of_one kinds.Int64 kinds.UInt64 e = refl
number_of_one kinds.UInt8 kinds.Bool e = refl
number_of_one kinds.UInt8 kinds.Char e = refl
number_of_one kinds.UInt8 kinds.Int8 e = refl
number_of_one kinds.UInt8 kinds.Int16 e = refl
number_of_one kinds.UInt8 kinds.Int32 e = refl
number_of_one kinds.UInt8 kinds.Int64 e = refl
number_of_one kinds.UInt8 kinds.UInt8 e = refl
number_of_one kinds.UInt8 kinds.UInt16 e = refl
number_of_one kinds.UInt8 kinds.UInt32 e = refl
number_of_one kinds.UInt8 kinds.UInt64 e = refl
number_of_one kinds.UInt16 kinds.Bool e = refl
number_of_one kinds.UInt16 kinds.Char e = refl
number_of_one kinds.UInt16 kinds.Int8 e = refl
number_of_one kinds.UInt16 kinds.Int16 e = refl
number_of_one kinds.UInt16 kinds.Int32 e = refl
number_of_one kinds.UInt16 kinds.Int64 e = refl
number_of_one kinds.UInt16 kinds.UInt8 e = refl
number_of_one kinds.UInt16 kinds.UInt16 e = refl
number_of_one kinds.UInt16 kinds.UInt32 e = refl
number_of_one kinds.UInt16 kinds.UInt64 e = refl
number_of_one kinds.UInt32 kinds.Bool e = refl
number_of_one kinds.UInt32 kinds.Char e = refl
number_of_one kinds.UInt32 kinds.Int8 e = refl
number_of_one kinds.UInt32 kinds.Int16 e = refl
number_of_one kinds.UInt32 kinds.Int32 e = refl
number_of_one kinds.UInt32 kinds.Int64 e = refl
number_of_one kinds.UInt32 kinds.UInt8 e = refl
number_of_one kinds.UInt32 kinds.UInt16 e = refl
number_of_one kinds.UInt32 kinds.UInt32 e = refl
number_of_one kinds.UInt32 kinds.UInt64 e = refl
number_of_one kinds.UInt64 kinds.Bool e = refl
number_of_one kinds.UInt64 kinds.Char e = refl
number_of_one kinds.UInt64 kinds.Int8 e = refl
number_of_one kinds.UInt64 kinds.Int16 e = refl
number_of_one kinds.UInt64 kinds.Int32 e = refl
number_of_one kinds.UInt64 kinds.Int64 e = refl
number_of_one kinds.UInt64 kinds.UInt8 e = refl
number_of_one kinds.UInt64 kinds.UInt16 e = refl
number_of_one kinds.UInt64 kinds.UInt32 e = refl
number_of_one kinds.UInt64 kinds.UInt64 e = refl

no_truth : (k : DType) → is_number (Some k) ≡ true → k ≢ kinds.Bool
no_truth k e same = never (ap (λ k. is_number (Some k)) (sym same) ∙ e)
  where
    never : false ≡ true → ⊥
    never e = cc

module _ (t u k : DType) where
  abbrev Kept : Sort → Type 0
  Kept s = (check_kinds s t u >>= λ v. elim (promoted t u) as (λ o. Result DType Fault) [ None ↦ Err WouldPromote | Some k ↦ Ok k ]) ≡ Ok k

  is_promoted : (s : Sort) → Kept s → promoted t u ≡ Some k
  is_promoted s is = by (promoted t u) refl (bind_ok (check_kinds s t u) (λ v. elim (promoted t u) as (λ o. Result DType Fault) [ None ↦ Err WouldPromote | Some k ↦ Ok k ]) k is).2
    where
      by : (o : Option DType) → promoted t u ≡ o → elim o as (λ o. Result DType Fault) [ None ↦ Err WouldPromote | Some k ↦ Ok k ] ≡ Ok k → promoted t u ≡ Some k
      by None e is = absurd cc
      by (Some j) e is = e ∙ ap Some (inner j k is)

  checked : (s : Sort) → Kept s → check_kinds s t u ≡ Ok tt
  checked s is = (bind_ok (check_kinds s t u) (λ v. elim (promoted t u) as (λ o. Result DType Fault) [ None ↦ Err WouldPromote | Some k ↦ Ok k ]) k is).1

  sums_ok : Kept Arithmetic → k ≢ kinds.Bool
  unfolding check_kinds
  sums_ok is =
      let passes = unless_ok (not (is_chars t || is_chars u) && (is_integer_kind t || is_integer_kind u)) WrongKind tt (checked Arithmetic is) in
      let parts = and_parts (not (is_chars t || is_chars u)) (is_integer_kind t || is_integer_kind u) passes in
      no_truth k (ap is_number (sym (is_promoted Arithmetic is)) ∙ number_of_one t u parts.1)

  never_divided : Kept Division → ⊥
  unfolding check_kinds
  never_divided is = no_value (bind_ok (unless (not (is_chars t || is_chars u)) WrongKind) (λ v. wrong_kind) tt (checked Division is)).2
    where
      wrong_kind : Result (Unit {0}) Fault
      wrong_kind = Err WouldPromote

      no_value : wrong_kind ≡ Ok tt → ⊥
      no_value e = cc

  abbrev Both : OpKind → Type 0
  Both op = (takes_two op ≡ true) × Suits op k

  pub common_ok : (op : OpKind) → common_kind op t u ≡ Ok k → Both op
  unfolding common_kind
  common_ok ops.Add is = (refl, λ e. sums_ok is)
  common_ok ops.Subtract is = (refl, λ e. sums_ok is)
  common_ok ops.Multiply is = (refl, λ e. sums_ok is)
  common_ok ops.FloorDivide is = (refl, λ e. sums_ok is)
  common_ok ops.Remainder is = (refl, λ e. sums_ok is)
  common_ok ops.And is = (refl, λ e. absurd cc)
  common_ok ops.Or is = (refl, λ e. absurd cc)
  common_ok ops.Xor is = (refl, λ e. absurd cc)
  common_ok ops.Equal is = (refl, λ e. absurd cc)
  common_ok ops.NotEqual is = (refl, λ e. absurd cc)
  common_ok ops.Less is = (refl, λ e. absurd cc)
  common_ok ops.LessEqual is = (refl, λ e. absurd cc)
  common_ok ops.Greater is = (refl, λ e. absurd cc)
  common_ok ops.GreaterEqual is = (refl, λ e. absurd cc)
  common_ok ops.Divide is = absurd (never_divided is)
  common_ok ops.Negate is = absurd (never_divided is)
  common_ok ops.Invert is = absurd (never_divided is)
  common_ok ops.IsNull is = absurd (never_divided is)
  common_ok ops.NotNull is = absurd (never_divided is)
  common_ok ops.FillNa is = absurd (never_divided is)
  common_ok ops.Cast is = absurd (never_divided is)

lifted_seen : (f : ℤ → ℤ → ℤ) (x y : Option ℤ) → is_some x ≡ true → is_some y ≡ true → is_some (lifted f x y) ≡ true
lifted_seen f None y s t = s
lifted_seen f (Some m) None s t = t
lifted_seen f (Some m) (Some n) s t = refl

-- no operator of two cells loses one
pub elem_seen : (op : OpKind) (t : DType) (x y : Option ℤ) → takes_two op ≡ true → is_some x ≡ true → is_some y ≡ true → is_some (elem op t x y) ≡ true
elem_seen ops.Add t x y two s r = lifted_seen _ x y s r
elem_seen ops.Subtract t x y two s r = lifted_seen _ x y s r
elem_seen ops.Multiply t x y two s r = lifted_seen _ x y s r
elem_seen ops.FloorDivide t x y two s r = lifted_seen _ x y s r
elem_seen ops.Remainder t x y two s r = lifted_seen _ x y s r
elem_seen ops.And t x y two s r = lifted_seen _ x y s r
elem_seen ops.Or t x y two s r = lifted_seen _ x y s r
elem_seen ops.Xor t x y two s r = lifted_seen _ x y s r
elem_seen ops.Equal t x y two s r = lifted_seen _ x y s r
elem_seen ops.NotEqual t x y two s r = lifted_seen _ x y s r
elem_seen ops.Less t x y two s r = lifted_seen _ x y s r
elem_seen ops.LessEqual t x y two s r = lifted_seen _ x y s r
elem_seen ops.Greater t x y two s r = lifted_seen _ x y s r
elem_seen ops.GreaterEqual t x y two s r = lifted_seen _ x y s r
elem_seen ops.FillNa t None y two s r = r
elem_seen ops.FillNa t (Some m) y two s r = refl
elem_seen ops.Divide t x y two s r = absurd cc
elem_seen ops.Negate t x y two s r = absurd cc
elem_seen ops.Invert t x y two s r = absurd cc
elem_seen ops.IsNull t x y two s r = absurd cc
elem_seen ops.NotNull t x y two s r = absurd cc
elem_seen ops.Cast t x y two s r = absurd cc

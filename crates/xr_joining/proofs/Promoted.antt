-- The kind to which two kinds of whole numbers are promoted holds the numbers of both.
use Rattle.std.proofs.Common.{◌≡◌, ◌&&◌, ℤ, ◌≤ℤ◌, Bool, true, Option, Some, None, refl, sym, ap, ◌∙◌, arith}
use Rattle.std.specs.Prelude.{int_le}
use Rattle.std.proofs.lemmas.Bool.{and_parts}
use Rattle.std.proofs.lemmas.Int.{ints}
use Rattle.xr_types.specs.Kinds.{high, low, promoted, InRange}
use Rattle.xr_types.specs.declared.kind.DType.{DType}
use Rattle.xr_types.specs.declared.kind.DType.TheVariants.{Int8, Int16, Int32, Int64, UInt8, UInt16, UInt32, UInt64}
use Rattle.xr_types.specs.declared.kind.DType.TheVariants as kinds
use Rattle.xr_defs.specs.Building.{is_integer_kind}

-- all numbers of the first are of the second
abbrev pub holds : DType → DType → Bool
holds t u = int_le (low u) (low t) && int_le (high t) (high u)

abbrev holds_all : DType → DType → Option DType → Bool
holds_all t u None = true
holds_all t u (Some v) = is_integer_kind v && (holds t v && holds u v)

promoted_holds : (t u : DType) → is_integer_kind t ≡ true → is_integer_kind u ≡ true → holds_all t u (promoted t u) ≡ true
promoted_holds kinds.Bool u i j = absurd cc
promoted_holds kinds.Char u i j = absurd cc
promoted_holds Int8 kinds.Bool i j = absurd cc
promoted_holds Int8 kinds.Char i j = absurd cc
promoted_holds Int8 Int8 i j = refl
promoted_holds Int8 Int16 i j = refl
promoted_holds Int8 Int32 i j = refl
promoted_holds Int8 Int64 i j = refl
promoted_holds Int8 UInt8 i j = refl
promoted_holds Int8 UInt16 i j = refl
promoted_holds Int8 UInt32 i j = refl
promoted_holds Int8 UInt64 i j = refl
promoted_holds Int16 kinds.Bool i j = absurd cc
promoted_holds Int16 kinds.Char i j = absurd cc
promoted_holds Int16 Int8 i j = refl
promoted_holds Int16 Int16 i j = refl
promoted_holds Int16 Int32 i j = refl
promoted_holds Int16 Int64 i j = refl
promoted_holds Int16 UInt8 i j = refl
promoted_holds Int16 UInt16 i j = refl
promoted_holds Int16 UInt32 i j = refl
promoted_holds Int16 UInt64 i j = refl
promoted_holds Int32 kinds.Bool i j = absurd cc
promoted_holds Int32 kinds.Char i j = absurd cc
promoted_holds Int32 Int8 i j = refl
promoted_holds Int32 Int16 i j = refl
promoted_holds Int32 Int32 i j = refl
promoted_holds Int32 Int64 i j = refl
promoted_holds Int32 UInt8 i j = refl
promoted_holds Int32 UInt16 i j = refl
promoted_holds Int32 UInt32 i j = refl
promoted_holds Int32 UInt64 i j = refl
promoted_holds Int64 kinds.Bool i j = absurd cc
promoted_holds Int64 kinds.Char i j = absurd cc
promoted_holds Int64 Int8 i j = refl
promoted_holds Int64 Int16 i j = refl
promoted_holds Int64 Int32 i j = refl
promoted_holds Int64 Int64 i j = refl
promoted_holds Int64 UInt8 i j = refl
promoted_holds Int64 UInt16 i j = refl
promoted_holds Int64 UInt32 i j = refl
promoted_holds Int64 UInt64 i j = refl
promoted_holds UInt8 kinds.Bool i j = absurd cc
promoted_holds UInt8 kinds.Char i j = absurd cc
promoted_holds UInt8 Int8 i j = refl
promoted_holds UInt8 Int16 i j = refl
promoted_holds UInt8 Int32 i j = refl
promoted_holds UInt8 Int64 i j = refl
promoted_holds UInt8 UInt8 i j = refl
promoted_holds UInt8 UInt16 i j = refl
promoted_holds UInt8 UInt32 i j = refl
promoted_holds UInt8 UInt64 i j = refl
promoted_holds UInt16 kinds.Bool i j = absurd cc
promoted_holds UInt16 kinds.Char i j = absurd cc
promoted_holds UInt16 Int8 i j = refl
promoted_holds UInt16 Int16 i j = refl
promoted_holds UInt16 Int32 i j = refl
promoted_holds UInt16 Int64 i j = refl
promoted_holds UInt16 UInt8 i j = refl
promoted_holds UInt16 UInt16 i j = refl
promoted_holds UInt16 UInt32 i j = refl
promoted_holds UInt16 UInt64 i j = refl
promoted_holds UInt32 kinds.Bool i j = absurd cc
promoted_holds UInt32 kinds.Char i j = absurd cc
promoted_holds UInt32 Int8 i j = refl
promoted_holds UInt32 Int16 i j = refl
promoted_holds UInt32 Int32 i j = refl
promoted_holds UInt32 Int64 i j = refl
promoted_holds UInt32 UInt8 i j = refl
promoted_holds UInt32 UInt16 i j = refl
promoted_holds UInt32 UInt32 i j = refl
promoted_holds UInt32 UInt64 i j = refl
promoted_holds UInt64 kinds.Bool i j = absurd cc
promoted_holds UInt64 kinds.Char i j = absurd cc
promoted_holds UInt64 Int8 i j = refl
promoted_holds UInt64 Int16 i j = refl
promoted_holds UInt64 Int32 i j = refl
promoted_holds UInt64 Int64 i j = refl
promoted_holds UInt64 UInt8 i j = refl
promoted_holds UInt64 UInt16 i j = refl
promoted_holds UInt64 UInt32 i j = refl
promoted_holds UInt64 UInt64 i j = refl

up_to : (x y : ℤ) → int_le x y ≡ true → x ≤ℤ y
up_to x y h = grind (arith, ints)

up : (a b c d n : ℤ) → (int_le c a && int_le b d) ≡ true → (a ≤ℤ n) × (n ≤ℤ b) → (c ≤ℤ n) × (n ≤ℤ d)
up a b c d n e is =
    let parts = and_parts (int_le c a) (int_le b d) e in
    let below : c ≤ℤ a = up_to c a parts.0 in
    let above : b ≤ℤ d = up_to b d parts.1 in
    let from = is.0 in
    let to = is.1 in
    (omega (arith, ints), omega (arith, ints))

pub in_promoted : (t u v : DType) → is_integer_kind t ≡ true → is_integer_kind u ≡ true → promoted t u ≡ Some v → (is_integer_kind v ≡ true) × ((n : ℤ) → InRange t n → InRange v n)
in_promoted t u v i j is =
    let all : (is_integer_kind v && (holds t v && holds u v)) ≡ true = ap (holds_all t u) (sym is) ∙ promoted_holds t u i j in
    let parts = and_parts (is_integer_kind v) (holds t v && holds u v) all in
    let both = and_parts (holds t v) (holds u v) parts.1 in
    (parts.0, λ n here. up (low t) (high t) (low v) (high v) n both.0 here)

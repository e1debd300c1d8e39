-- Sums that were wrapped at 64 bits, as the kind of sums wraps them.
use Rattle.std.proofs.Common.{◌≡◌, ℤ, pos, ◌+ℤ◌, ◌*ℤ◌, refl, sym, ap, ◌∙◌, arith}
use Rattle.std.specs.Int.{int_wrap, w64}
use Rattle.std.proofs.lemmas.Int.{ints}
use Rattle.xr_types.specs.Kinds.{count_of, wrap_to}
use Rattle.xr_types.specs.declared.kind.DType.{DType}
use Rattle.xr_types.specs.declared.kind.DType.TheVariants as kinds
use Rattle.xr_types.proofs.Wrapping.{wrapped_is, wrapped_only}
use Rattle.xr_arrays.specs.Folds.{total_kind}

-- a kind of as many numbers as 64 bits have
abbrev turn : ℤ
turn = pos 18446744073709551616

both : (n m k a b : ℤ) → k ≡ m +ℤ a *ℤ turn → n ≡ k +ℤ b *ℤ turn → n ≡ m +ℤ (a +ℤ b) *ℤ turn
both n m k a b d e = omega (arith, ints)

again : (t : DType) (n : ℤ) → pos (count_of t) ≡ turn → wrap_to t (int_wrap w64 n) ≡ wrap_to t n
again t n many =
    let first = wrapped_is kinds.Int64 n in
    let second = wrapped_is t (int_wrap w64 n) in
    let m = wrap_to t (int_wrap w64 n) in
    let d : int_wrap w64 n ≡ m +ℤ second.turns *ℤ turn = second.congruent ∙ ap (λ c. m +ℤ second.turns *ℤ c) many in
    wrapped_only t n m (record { in_range = second.in_range; turns = second.turns +ℤ first.turns; congruent = both n m (int_wrap w64 n) second.turns first.turns d first.congruent ∙ ap (λ c. m +ℤ (second.turns +ℤ first.turns) *ℤ c) (sym many) })

pub wrapped_again : (t : DType) (n : ℤ) → wrap_to (total_kind t) (int_wrap w64 n) ≡ wrap_to (total_kind t) n
wrapped_again kinds.Bool n = again kinds.Int64 n refl
wrapped_again kinds.Char n = again kinds.Int64 n refl
wrapped_again kinds.Int8 n = again kinds.Int64 n refl
wrapped_again kinds.Int16 n = again kinds.Int64 n refl
wrapped_again kinds.Int32 n = again kinds.Int64 n refl
wrapped_again kinds.Int64 n = again kinds.Int64 n refl
wrapped_again kinds.UInt8 n = again kinds.UInt64 n refl
wrapped_again kinds.UInt16 n = again kinds.UInt64 n refl
wrapped_again kinds.UInt32 n = again kinds.UInt64 n refl
wrapped_again kinds.UInt64 n = again kinds.UInt64 n refl

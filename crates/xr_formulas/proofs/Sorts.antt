-- The kinds that operators take.
use Rattle.xr_formulas.proofs.Common.{Bool, DType, Err, Fault, IsPlaced, None, Ok, OpKind, Option, Result, Side, Some, Suits, and_parts, ap, arith, check_kinds, check_truths, common_kind, false, in_range, is_chars, is_comparison, is_truths, not, number_kind, or_right, promoted, refl, sort_of, sym, takes_truths, takes_two, to_z-of_z, true, true≢false, truth_number, unless, ℤ, ◌&&◌, ◌>>=◌, ◌||◌, ◌∙◌, ◌≡◌, ◌≢◌}
use Rattle.xr_types.specs.declared.fault.Fault.TheVariants.{DoesNotFit, WrongKind, WouldPromote}
use Rattle.xr_types.specs.declared.kind.DType.TheVariants as kinds
use Rattle.xr_types.specs.declared.operation.OpKind.TheVariants as ops
use Rattle.xr_operations.specs.Arithmetic as sorts

-- ---- the check of two kinds

no_division : (a b : DType) → check_kinds sorts.Division a b ≡ Ok tt → ⊥
unfolding check_kinds unless
no_division a b e = by (not (is_chars a || is_chars b)) tt e
  where
    by : (c : Bool) (u : Unit {0}) → (unless c WrongKind >>= λ v. Err WouldPromote) ≡ Ok u → ⊥
    by true u e = cc
    by false u e = cc

two_from : (op : OpKind) (a b : DType) → check_kinds (sort_of op) a b ≡ Ok tt → takes_two op ≡ true
two_from ops.Add a b e = refl
two_from op a b e = first_of (cc, grind (arith, no_division))

-- what the kind of two operands tells
common_tells : (op : OpKind) (k u t : DType) → common_kind op k u ≡ Ok t → (takes_two op ≡ true) × (promoted k u ≡ Some t)
unfolding common_kind
common_tells op k u t e = by (check_kinds (sort_of op) k u) refl (promoted k u) e
  where
    by : (r : Result (Unit {0}) Fault) → check_kinds (sort_of op) k u ≡ r → (o : Option DType) → (r >>= λ v. elim o [ None ↦ Err WouldPromote | Some w ↦ Ok w ]) ≡ Ok t → (takes_two op ≡ true) × (o ≡ Some t)
    by (Err f) is o e = absurd cc
    by (Ok tt) is None e = absurd cc
    by (Ok tt) is (Some w) e = (two_from op k u is, cc)

-- ---- beside a whole number

no_truths : (k t : DType) → promoted k (number_kind k) ≡ Some t → t ≢ kinds.Bool
no_truths kinds.Bool t e same = absurd cc
no_truths k t e same = absurd cc

own_kind : (k t : DType) → promoted k (number_kind k) ≡ Some t → (is_truths k && not (is_truths t)) ≡ false → t ≡ k
own_kind kinds.Bool t e whole = let is : kinds.Int64 ≡ t = cc in absurd (true≢false (ap (λ u. not (is_truths u)) is ∙ whole))
own_kind k t e whole = cc

pub passes : (b : Bool) (f : Fault) → unless b f ≡ Ok tt → b ≡ true
unfolding unless
passes true f e = refl
passes false f e = absurd cc

pub number_placed : (side : Side) (op : OpKind) (k t : DType) (n : ℤ) → common_kind op k (number_kind k) ≡ Ok t → unless (is_comparison op || in_range t n) DoesNotFit ≡ Ok tt
    → IsPlaced t (record { side = side; op = op; number = n }) × ((is_truths k && not (is_truths t)) ≡ false → t ≡ k)
number_placed side op k t n e fits =
    let tells = common_tells op k (number_kind k) t e in
    (record { two = tells.0; suits = λ sums. no_truths k t tells.1; fits = passes (is_comparison op || in_range t n) DoesNotFit fits }, own_kind k t tells.1)

-- ---- beside a truth value

truths_is : (k : DType) → is_truths k ≡ true → k ≡ kinds.Bool
truths_is kinds.Bool e = refl
truths_is k e = absurd cc

truth_takes : (op : OpKind) → takes_truths (sort_of op) ≡ true → (takes_two op ≡ true) × Suits op kinds.Bool
truth_takes ops.And e = (refl, λ f. absurd cc)
truth_takes op e = (cc, λ f. absurd cc)

truth_fits : (op : OpKind) (b : Bool) → (is_comparison op || in_range kinds.Bool (truth_number b)) ≡ true
truth_fits op true = or_right (is_comparison op) true refl
truth_fits op false = or_right (is_comparison op) true refl

module _ (side : Side) (op : OpKind) (k : DType) (b : Bool) (e : check_truths op k ≡ Ok tt) where
  both : (is_truths k ≡ true) × (takes_truths (sort_of op) ≡ true)
  both = and_parts (is_truths k) (takes_truths (sort_of op)) (passes (is_truths k && takes_truths (sort_of op)) WrongKind e)

  pub truth_placed : IsPlaced kinds.Bool (record { side = side; op = op; number = truth_number b })
  truth_placed = record { two = (truth_takes op both.1).0; suits = (truth_takes op both.1).1; fits = truth_fits op b }

  pub truth_own : kinds.Bool ≡ k
  truth_own = sym (truths_is k both.0)

-- the number is kept in 128 bits
pub ruleset truth_held = (truth_own, to_z-of_z)

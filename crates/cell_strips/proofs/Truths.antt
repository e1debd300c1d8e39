-- Truth values as numbers.
use Rattle.std.proofs.Common.{◌≡◌, ◌<◌, ℕ, ℤ, zero, suc, pos, refl, ap, ◌∙◌, arith}
use Rattle.std.specs.Prelude.{◌==◌, if◌then◌else◌, Option, Some, None}
use Rattle.xr_types.specs.declared.kind.DType.TheVariants.{Bool}
use Rattle.xr_types.specs.declared.operation.OpKind.TheVariants.{Invert}
use Rattle.xr_arrays.specs.Elements.{elem}
use Rattle.strided_block.specs.Typed.{truth}

truth_is : (b : ℕ) → b < 2 → pos b ≡ truth b
truth_is zero small = refl
truth_is (suc zero) small = refl
truth_is (suc (suc b)) small = absurd (omega arith)

pub as_number : (b : ℕ) (r : Option ℤ) → b < 2 → Some (truth b) ≡ r → Some (pos b) ≡ r
as_number b r small is = ap Some (truth_is b small) ∙ is

pub as_test : (b : ℕ) (r : ℤ) → b < 2 → truth b ≡ r → pos b ≡ r
as_test b r small is = truth_is b small ∙ is

pub turned_truth : (x : ℕ) → x < 2 → Some (pos (if x == 0 then 1 else 0)) ≡ elem Invert Bool (Some (pos x)) None
turned_truth zero small = refl
turned_truth (suc zero) small = refl
turned_truth (suc (suc b)) small = absurd (omega arith)

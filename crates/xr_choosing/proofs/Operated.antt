-- The operands of the function and of the method.
use Rattle.std.proofs.Common.{◌≡◌, Bor, List, ◌∷◌, ◌++◌, map, false, true, Result, Ok, refl, sym, ap, subst, ◌∙◌}
use Rattle.std.proofs.lemmas.List.{map-append}
use Rattle.xr_types.specs.declared.fault.CallFault.{CallFault}
use Rattle.xr_types.specs.declared.fault.Fault.{Fault}
use Rattle.xr_arrays.specs.declared.node.Node.{Node}
use Rattle.xr_defs.specs.Values as of
use Rattle.xr_defs.specs.declared.carrying.Carry.TheVariants as carries
use Rattle.xr_operations.specs.CellMethods.{arrays_in, where_over}
use Rattle.xr_values.specs.declared.data_array.DataArray.{DataArray}
use Rattle.xr_values.specs.Stands.{array_in, IsArrayIn}
use Rattle.xr_formulas.specs.declared.made.Made.{Made}
use Rattle.xr_formulas.specs.Mades.{made_in, AnswersMade, IsArrayOf}
use Rattle.xr_choosing.specs.declared.branches.Branch.{Branch}
use Rattle.xr_choosing.specs.declared.branches.Branch.TheVariants as branches
use Rattle.xr_choosing.specs.Branches.{arrays_of, branch_in, operands_of}
use Rattle.xr_choosing.specs.Called.{function_over, method_over}

module _ (nodes : List Node) where
  list_of : (x : Branch) → map (array_in nodes) (arrays_of x) ≡ arrays_in (branch_in nodes x)
  list_of (branches.Array a) = refl
  list_of (branches.Number n) = refl
  list_of (branches.Truth b) = refl
  list_of branches.Missing = refl

  of_function : (c : DataArray) (x y : Branch) → map (array_in nodes) (operands_of false c x y) ≡ array_in nodes c ∷ arrays_in (branch_in nodes x) ++ arrays_in (branch_in nodes y)
  of_function c x y = ap (λ bs. array_in nodes c ∷ bs) (map-append (array_in nodes) (arrays_of x) (arrays_of y) ∙ (λ i. list_of x i ++ list_of y i))

  pub function_answers : (c : DataArray) (x y : Branch) (r : Result Made CallFault)
      → AnswersMade nodes r (where_over carries.Binary (map (array_in nodes) (operands_of false c x y)) (array_in nodes c) (branch_in nodes x) (branch_in nodes y)) → AnswersMade nodes r (function_over (array_in nodes c) (branch_in nodes x) (branch_in nodes y))
  function_answers c x y r h = subst (λ arrays. AnswersMade nodes r (where_over carries.Binary arrays (array_in nodes c) (branch_in nodes x) (branch_in nodes y))) (of_function c x y) h

  pub method_answers : (a : Bor DataArray) (x : Branch) (c : DataArray) (y : Branch) (r : Result Made CallFault) → x ≡ branches.Array a
      → AnswersMade nodes r (where_over carries.Where (map (array_in nodes) (operands_of true c x y)) (array_in nodes c) (branch_in nodes x) (branch_in nodes y)) → AnswersMade nodes r (method_over (array_in nodes a.now) (array_in nodes c) (branch_in nodes y))
  method_answers a x c y r is h =
      subst (λ arrays. AnswersMade nodes r (where_over carries.Where arrays (array_in nodes c) (branch_in nodes (branches.Array a)) (branch_in nodes y))) (ap (λ bs. array_in nodes a.now ∷ array_in nodes c ∷ bs) (list_of y))
      (subst (λ (x : Branch). AnswersMade nodes r (where_over carries.Where (map (array_in nodes) (operands_of true c x y)) (array_in nodes c) (branch_in nodes x) (branch_in nodes y))) is h)

pub array_answers : (old new : List Node) (m : Made) (a : DataArray) (told : Result of.DataArray Fault) → told ≡ Ok (made_in old m) → IsArrayOf new (made_in old m) a → (told ≡ Ok (array_in new a)) × IsArrayIn new a
array_answers old new m a told is made = (is ∙ ap Ok (sym made.is), made.inside)

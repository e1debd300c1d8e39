-- What a call makes is its answer.
use Rattle.xr_formulas.proofs.Common.{AreAttributes, Changes, DType, Fault, IsDataArray, IsMade, List, Made, Makes, Node, Ok, Result, [], ap, is_integer_kind, made_in, refl, sym, true, without_fills, ◌∙◌, ◌∷◌, ◌≡◌}
use Rattle.xr_types.specs.declared.kind.DType.TheVariants as kinds
use Rattle.xr_defs.specs.Values.{DataArray}
use Rattle.xr_defs.specs.declared.carrying.Carry.TheVariants.{Method}
use Rattle.xr_types.specs.declared.operation.OpKind.TheVariants as ops
use Rattle.xr_values.proofs.Carries.{carried_formed}

pub answered : (nodes : List Node) (means : DataArray) (m : Made) (told : Result DataArray Fault) → told ≡ Ok means → Makes nodes means m → (told ≡ Ok (made_in nodes m)) × IsMade nodes m
answered nodes means m told is makes = (is ∙ ap Ok (sym makes.is), makes.made)

-- the attributes that stay are as they have to be
pub attributes_left : (a : DataArray) → IsDataArray a → AreAttributes (without_fills a.attrs)
attributes_left a is = (carried_formed Method (a ∷ []) a.axes is.axes ((is, record { same = λ name e f. refl }), tt)).attrs

-- ---- what the operations take

pub tests_present : (t : DType) → Changes ops.NotNull kinds.Bool t
tests_present t = record { one = refl; gives = refl; suits = λ e. absurd cc }

pub casts : (kind t : DType) → Changes ops.Cast kind t
casts kind t = record { one = refl; gives = tt; suits = λ e. absurd cc }

pub negates : (t : DType) → is_integer_kind t ≡ true → Changes ops.Negate t t
negates t whole = record { one = refl; gives = refl; suits = λ e same. absurd cc }

-- A condition that holds no truth values.
use Rattle.std.proofs.Common.{◌≡◌, false, List, Ok, Err, sym, ap, ◌∙◌}
use Rattle.std.specs.declared.rc.Rc.{Rc}
use Rattle.std.specs.declared.alloc.Global.{Global}
use Rattle.xr_types.specs.Results.{◌>>=◌, unless}
use Rattle.xr_types.specs.declared.fault.Fault.TheVariants.{WrongKind}
use Rattle.xr_arrays.specs.declared.node.Node.{Node}
use Rattle.xr_operations.specs.Arithmetic.{is_truths}
use Rattle.xr_operations.specs.CellMethods.{as_condition}
use Rattle.xr_arguments.proofs.Variants.{is_array}
use Rattle.xr_values.specs.declared.data_array.DataArray.{DataArray}
use Rattle.xr_values.specs.declared.value.Value.{Value}
use Rattle.xr_values.specs.declared.value.Value.TheVariants as variants
use Rattle.xr_values.specs.Meaning.{meaning}
use Rattle.xr_values.specs.Stands.{array_in}

pub condition_refused : (nodes : List Node) (v : Value) (a : Rc DataArray Global) (x : DataArray) → v ≡ variants.Array a → x ≡ a.value → is_truths x.kind ≡ false → as_condition (meaning nodes v) ≡ Err WrongKind
unfolding as_condition unless
condition_refused nodes v a x is same plain =
    ap as_condition (is_array nodes v a is) ∙ ap (λ b. unless b WrongKind >>= λ u. Ok (array_in nodes a.value)) (ap (λ (y : DataArray). is_truths y.kind) (sym same) ∙ plain)

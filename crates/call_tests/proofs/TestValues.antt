-- Lists of values of a plan, as tests give them.
use Rattle.std.proofs.Common.{◌≡◌, List, All, ap, sym, subst, ◌∙◌}
use Rattle.std.specs.Prelude.{Vec}
use Rattle.std.specs.declared.alloc.Global.{Global}
use Rattle.xr_arrays.specs.declared.node.Node.{Node}
use Rattle.xr_values.specs.declared.value.Value.{Value}
use Rattle.xr_values.specs.declared.value.Value.TheVariants as variants
use Rattle.xr_values.specs.declared.value.Value.TheOpen as held
use Rattle.xr_values.specs.declared.value.Value.TheViews.{out-Value, roll-Value, out-roll-Value}
use Rattle.xr_values.specs.Meaning.{IsValueIn, IsLayerIn}
use Rattle.xr_values.proofs.Meaning.{value_in}

pub list_inside : (nodes : List Node) (v : Value) (vs : Vec Value Global) → v ≡ variants.List vs → All (IsValueIn nodes) vs.items → IsValueIn nodes v
unfolding roll-Value denote.Hole.Carrier.roll
list_inside nodes v vs is inside = value_in nodes v (subst (IsLayerIn nodes) (sym (ap (λ w. out-Value w) is ∙ out-roll-Value (held.List vs))) inside)

-- A value without its places, by its outermost layer.
use Rattle.xr_values.proofs.Common.{Tree, Value, out-Value, tree, tree_layer, tree_step, ◌≡◌}
use Rattle.xr_values.specs.declared.value.Value.TheFolds.{fold_out-Value}

pub tree_out : (v : Value) → tree v ≡ tree_layer (out-Value v)
tree_out v = fold_out-Value Tree tree_step v

use Rattle.std.proofs.Common.{◌≡◌, ℕ, List, drop, map, Ok}
use Rattle.std.specs.List.{AllByRecursion}
use Rattle.xr_types.specs.Results.{all_of}
use Rattle.xr_defs.specs.Encoding.{check_fit}
use Rattle.xr_arrays.specs.declared.node.Node.{Node}
use Rattle.xr_encode.specs.Outlines.{without_cells}
use Rattle.xr_encode.specs.Sets.{variable_outline}
use Rattle.xr_encode.specs.Encoded.{computed_from, IsReady}
use Rattle.xr_encode.proofs.computed.push_variables.Given as goal

abbrev pub invariant-loop-variable : goal.invariant-loop-variable
invariant-loop-variable g l = record {
  plan : l.cx.plan ≡ l.fn.cx.plan;
  keeps : (nodes : List Node) (n : ℕ) → g.C.Compute.declines l.cx.compute nodes n ≡ g.C.Compute.declines l.fn.cx.compute nodes n;
  ready : AllByRecursion (IsReady l.fn.cx.plan) (drop l.variable-index l.variables);
  fit : all_of (check_fit l.options) (map (λ v. without_cells (variable_outline l.coords v)) (drop l.variable-index l.variables)) ≡ Ok tt;
  vars :
      computed_from (g.C.Compute.declines l.fn.cx.compute l.fn.cx.plan) l.fn.cx.plan l.small l.dims l.options l.coords l.vars (drop l.variable-index l.variables)
      ≡ computed_from (g.C.Compute.declines l.fn.cx.compute l.fn.cx.plan) l.fn.cx.plan l.small l.dims l.options l.coords l.fn.vars l.variables;
}

-- The nodes of datasets.
use Rattle.std.proofs.Common.{List, [], ◌∷◌}
use Rattle.std.specs.List.{AllByRecursion}
use Rattle.xr_arrays.specs.declared.node.Node.{Node}
use Rattle.xr_aligning.specs.Sets.{IsVarHere}
use Rattle.xr_values.specs.declared.dataset.Dataset.{Dataset}
use Rattle.xr_values.specs.declared.variable.Variable.{Variable}
use Rattle.xr_values.specs.Stands.{shape_named, IsNodeOf}
use Rattle.xr_joint.specs.Fitting.{IsOpenIn}
use Rattle.xr_joint.specs.Joint.{HasNodes}

-- each variable has cells over the axes of its dataset
pub nodes_of : (nodes : List Node) (s : Dataset) (vs : List Variable) → AllByRecursion (IsVarHere nodes s.axes) vs → AllByRecursion (λ (v : Variable). IsNodeOf nodes v.node (shape_named s v) v.kind) vs
nodes_of nodes s [] all = tt
nodes_of nodes s (v ∷ vs) all = (all.0.node, nodes_of nodes s vs all.1)

pub open_nodes : (nodes : List Node) (ss : List Dataset) → AllByRecursion (IsOpenIn nodes) ss → AllByRecursion (HasNodes nodes) ss
open_nodes nodes [] all = tt
open_nodes nodes (s ∷ ss) all = (nodes_of nodes s s.vars all.0.vars, open_nodes nodes ss all.1)

-- each variable stands over the axes of its dataset
pub open_vars : (nodes : List Node) (ss : List Dataset) → AllByRecursion (IsOpenIn nodes) ss → AllByRecursion (λ (s : Dataset). AllByRecursion (IsVarHere nodes s.axes) s.vars) ss
open_vars nodes [] all = tt
open_vars nodes (s ∷ ss) all = (all.0.vars, open_vars nodes ss all.1)

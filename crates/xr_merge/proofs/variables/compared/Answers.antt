use Rattle.std.proofs.Common.{map}
use Rattle.xr_merging.specs.Held.{merged_piece}
use Rattle.xr_merge.proofs.Arrays.{merged_is_array}
use Rattle.xr_merge.proofs.Overriding.{those}
use Rattle.xr_merge.proofs.variables.compared.Goals as goal

pub of_cells-requires : goal.of_cells-requires
of_cells-requires g c = merged_is_array c.args.plan.now c.args.axes.now c.args.compat (those c.args.vars.now) (merged_piece c.in_ok-merged.merged) c.nodes.ensures.fit c.requires.held c.in_ok-merged.ensures.answers

pub returns-clause-ready : goal.returns-clause-ready
returns-clause-ready g c = c.in_ok-var.ensures.ready c.args.plan.now

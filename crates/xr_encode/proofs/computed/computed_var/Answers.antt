use Rattle.std.proofs.Common.{sym, ap, ◌∙◌}
use Rattle.xr_encode.specs.declared.outline.Outline.{Outline}
use Rattle.xr_encode.proofs.Nodes.{cells_are, kind_is, range_is, seen_is, var_follows}
use Rattle.xr_encode.proofs.computed.computed_var.Goals as goal

pub array_var-requires-clause-kind : goal.array_var-requires-clause-kind
array_var-requires-clause-kind g c =
    let a = c.in_ok-array.array in
    let is = cells_are _ c.args.cx.now.plan c.args.variable.now.node a c.in_ok-array.ensures.told in
    kind_is c.args.cx.now.plan c.args.variable.now a c.requires.ready is ∙ sym (ap (λ (o : Outline). o.kind) c.in_ok-outline.ensures)

pub array_var-requires-clause-range : goal.array_var-requires-clause-range
array_var-requires-clause-range g c =
    let a = c.in_ok-array.array in
    range_is c.args.cx.now.plan c.args.variable.now a c.requires.ready (cells_are _ c.args.cx.now.plan c.args.variable.now.node a c.in_ok-array.ensures.told)

pub array_var-requires-clause-seen : goal.array_var-requires-clause-seen
array_var-requires-clause-seen g c =
    let a = c.in_ok-array.array in
    seen_is c.args.cx.now.plan c.args.variable.now a c.in_ok-outline.outline.masked c.requires.ready (cells_are _ c.args.cx.now.plan c.args.variable.now.node a c.in_ok-array.ensures.told) (ap (λ (o : Outline). o.masked) c.in_ok-outline.ensures)

pub returns-clause-told : goal.returns-clause-told
returns-clause-told g c =
    let cx = c.args.cx.now in
    var_follows (g.C.Compute.declines cx.compute cx.plan) cx.plan c.args.small c.args.dims.now c.args.options.now c.args.coords.now c.args.variable.now c.in_ok-array.array c.in_ok-outline.outline c.array_var.result
    c.in_ok-array.ensures.told c.in_ok-outline.ensures c.array_var.ensures

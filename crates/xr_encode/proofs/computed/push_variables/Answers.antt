use Rattle.std.proofs.Common.{ap, ◌∙◌}
use Rattle.xr_encode.specs.Outlines.{without_cells}
use Rattle.xr_encode.specs.Sets.{variable_outline}
use Rattle.xr_encode.specs.Encoded.{computed_from, computed_var}
use Rattle.xr_encode.proofs.Nodes.{vars_more, vars_fault, adds_fault, all_at, fits_at}
use Rattle.xr_encode.proofs.computed.push_variables.Goals as goal

pub returns-in-Err-clause-told : goal.returns-in-Err-clause-told
returns-in-Err-clause-told g c =
    let v = c.variable-item.result in
    let at = c.loop-variable.cx in
    let start = c.args.cx.now in
    let dims = c.args.dims.now in
    let options = c.args.options.now in
    let coords = c.args.coords.now in
    let same = c.loop-variable.invariant.keeps at.plan v.node ∙ ap (λ p. g.C.Compute.declines start.compute p v.node) c.loop-variable.invariant.plan in
    let whole = computed_from (g.C.Compute.declines start.compute start.plan) start.plan c.args.small dims options coords c.args.vars.now c.args.variables.now in
    adds_fault c.in-Err.fault c.loop-variable.vars (computed_var (g.C.Compute.declines at.compute at.plan) at.plan c.args.small dims options coords v) whole c.in-Err.ensures.told
    (λ told.
    vars_fault (g.C.Compute.declines at.compute at.plan) (g.C.Compute.declines start.compute start.plan) at.plan start.plan c.args.small dims options coords c.loop-variable.vars c.args.variables.now c.loop-variable.variable-index v c.in-Err.fault whole
    c.loop-variable-test.true c.variable-item.is c.loop-variable.invariant.plan same told c.loop-variable.invariant.vars)

pub loop-variable-preserved : goal.loop-variable-preserved
loop-variable-preserved g c =
    let i = c.loop-variable.variable-index in
    let v = c.variable-item.result in
    let vs = c.args.variables.now in
    let lt = c.loop-variable-test.true in
    let at = c.loop-variable.cx in
    let start = c.args.cx.now in
    let dims = c.args.dims.now in
    let options = c.args.options.now in
    let coords = c.args.coords.now in
    let same = c.loop-variable.invariant.keeps at.plan v.node ∙ ap (λ p. g.C.Compute.declines start.compute p v.node) c.loop-variable.invariant.plan in
    let whole = computed_from (g.C.Compute.declines start.compute start.plan) start.plan c.args.small dims options coords c.args.vars.now vs in
    record {
      plan = c.computed_var.ensures.plan ∙ c.loop-variable.invariant.plan;
      keeps = λ nodes n. c.computed_var.ensures.keeps nodes n ∙ c.loop-variable.invariant.keeps nodes n;
      ready = (all_at _ vs i v lt c.variable-item.is c.loop-variable.invariant.ready).1;
      fit = (fits_at options (λ w. without_cells (variable_outline coords w)) vs i v lt c.variable-item.is c.loop-variable.invariant.fit).1;
      vars = vars_more (g.C.Compute.declines at.compute at.plan) (g.C.Compute.declines start.compute start.plan) at.plan start.plan c.args.small dims options coords c.loop-variable.vars c.push.new.self vs i v c.in-Ok.var whole
          lt c.variable-item.is c.loop-variable.invariant.plan same c.in-Ok.ensures.told c.in_ok-push-in-Ok.ensures.ok c.loop-variable.invariant.vars;
    }

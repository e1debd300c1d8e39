use Rattle.std.proofs.Common.{◌<◌, length, ap, arith}
use Rattle.plan_core.proofs.Concats.{all_done}
use Rattle.xr_values.specs.declared.variable.Variable.{Variable}
use Rattle.values_live.specs.Marked.{IsVariableLive}
use Rattle.values_live.proofs.Marking.{variables_more}
use Rattle.values_live.proofs.mark.mark_variables.Goals as goal

pub loop-variable-preserved : goal.loop-variable-preserved
loop-variable-preserved c =
    let old = c.loop-variable.live in
    let v : Variable = c.variable-item.result in
    record {
      marked = λ inside.
          let here = inside c.loop-variable.variable-index v c.loop-variable-test.true in
          let same = ap (λ (w : Variable). w.node) c.variable-item.is in
          let long = c.loop-variable.auto.live in
          let below : v.node < length old = omega (arith, here, same, long) in
          variables_more old c.mark.new.live c.args.variables.now c.loop-variable.variable-index v c.loop-variable-test.true c.variable-item.is c.mark.ensures.stay (c.mark.ensures.marked below) (c.loop-variable.invariant.marked inside);
      stay = λ k is. c.mark.ensures.stay k (c.loop-variable.invariant.stay k is);
    }

pub returns-clause-marked : goal.returns-clause-marked
returns-clause-marked c = λ inside. all_done (IsVariableLive c.loop-variable.live) c.args.variables.now c.loop-variable.variable-index c.loop-variable-test.false (c.loop-variable.invariant.marked inside)

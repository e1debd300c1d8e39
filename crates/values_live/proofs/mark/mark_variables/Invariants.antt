use Rattle.std.proofs.Common.{◌<◌, ℕ, length, take, All}
use Rattle.plan_live.specs.Live.{IsLive}
use Rattle.xr_values.specs.declared.variable.Variable.{Variable}
use Rattle.values_live.specs.Marked.{IsVariableLive}
use Rattle.values_live.proofs.mark.mark_variables.Given as goal

abbrev pub invariant-loop-variable : goal.invariant-loop-variable
invariant-loop-variable l = record {
  marked : All (λ (v : Variable). v.node < length l.fn.live) l.variables → All (IsVariableLive l.live) (take l.variable-index l.variables);
  stay : (k : ℕ) → IsLive l.fn.live k → IsLive l.live k;
}

use Rattle.std.proofs.Common.{◌≡◌, drop}
use Rattle.std.specs.List.{list_any}
use Rattle.xr_types.specs.Names.{among}
use Rattle.xr_values.specs.declared.variable.Variable.{Variable}
use Rattle.xr_decode.proofs.kept.has_variable.Given as goal

abbrev pub invariant-loop-var : goal.invariant-loop-var
invariant-loop-var l = list_any (λ (v : Variable). among v.dims l.name) (drop l.var-index l.vars) ≡ list_any (λ (v : Variable). among v.dims l.name) l.vars

use Rattle.std.proofs.Common.{◌≡◌, take}
use Rattle.std.specs.Prelude.{All}
use Rattle.xr_decode.specs.Stored.{HoldsBytes}
use Rattle.xr_decode.proofs.stored.file_vars.Given as goal

abbrev pub invariant-loop-var : goal.invariant-loop-var
invariant-loop-var l = record {
  vars : l.stored.items ≡ take l.var-index l.vars;
  bytes : All HoldsBytes l.stored.items;
}

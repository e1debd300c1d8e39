use Rattle.std.proofs.Common.{◌≡◌, map, filter, reverse, take, drop}
use Rattle.std.specs.Prelude.{All}
use Rattle.cdf_reader.specs.Heads.{var_seen}
use Rattle.xr_decode.specs.Sought.{is_sought, values_seen}
use Rattle.xr_decode.specs.Stored.{HoldsBytes}
use Rattle.xr_decode.proofs.stored.head_vars.Given as goal

abbrev pub invariant-loop-head_of_var : goal.invariant-loop-head_of_var
invariant-loop-head_of_var l = record {
  found : reverse l.found.items ≡ map (values_seen l.bytes l.head) (filter (is_sought l.head) (drop l.head_of_var-index l.heads));
  vars : l.stored.items ≡ map (var_seen l.bytes l.head) (take l.head_of_var-index l.heads);
  bytes : All HoldsBytes l.stored.items;
}

use Rattle.std.proofs.Common.{◌≡◌, List, All, map, drop}
use Rattle.xr_arrays.specs.declared.node.Node.{Node}
use Rattle.xr_runs.specs.Runs.{put_each}
use Rattle.xr_values.specs.Meaning.{meaning, IsValueIn}
use Rattle.xr_run.specs.Named.{names_of, AreNamesIn}
use Rattle.xr_run.proofs.names.NameMap.set_each.Given as goal

abbrev pub invariant-loop-name : goal.invariant-loop-name
invariant-loop-name l = record {
  put : (nodes : List Node) → put_each (names_of nodes l.self) (drop l.name-index l.names) (map (meaning nodes) l.rest) ≡ put_each (names_of nodes l.fn.self) l.names (map (meaning nodes) l.fn.values);
  inside : (nodes : List Node) → AreNamesIn nodes l.fn.self → All (IsValueIn nodes) l.fn.values → AreNamesIn nodes l.self;
  rest : (nodes : List Node) → All (IsValueIn nodes) l.fn.values → All (IsValueIn nodes) l.rest;
}

-- The values of names, as a map keeps them.
use Rattle.std.specs.Prelude.{ℕ, List, option_map, IfSome, String}
use Rattle.std.specs.BTreeMap.{BTreeMap, get_by_text}
use Rattle.std.specs.declared.alloc.Global.{Global}
use Rattle.xr_arrays.specs.declared.node.Node.{Node}
use Rattle.xr_runs.specs.Evaluation.{Names}
use Rattle.xr_values.specs.declared.value.Value.{Value}
use Rattle.xr_values.specs.Meaning.{meaning, IsValueIn}
use Rattle.xr_run.specs.declared.names.NameMap.{NameMap}

abbrev pub names_in : List Node → BTreeMap (String Global) Value → Names
names_in nodes values name = option_map (meaning nodes) (get_by_text values name)

abbrev pub names_of : List Node → NameMap → Names
names_of nodes m = names_in nodes m.values

-- each array and dataset in the values is one of the plan
abbrev pub AreNamesIn : List Node → NameMap → Type 0
AreNamesIn nodes m = (name : List ℕ) → IfSome (get_by_text m.values name) (IsValueIn nodes)

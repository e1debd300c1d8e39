-- The arguments that name dimensions.
use Rattle.std.specs.Prelude.{ℕ, Bool, not, List}
use Rattle.xr_defs.specs.Meanings.{Value}
use Rattle.xr_relations.specs.Reindexing.{is_option}

abbrev pub names_dimension : List ℕ × Value → Bool
names_dimension kv = not (is_option kv.0)

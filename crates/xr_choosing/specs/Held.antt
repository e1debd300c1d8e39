-- An argument by its place or its name.
use Rattle.std.specs.Prelude.{ℕ, List, [], ◌∷◌, map, get_or, Option, Some, None, if◌then◌else◌}
use Rattle.std.specs.Str.{bytes_eq}
use Rattle.xr_types.specs.declared.text.TextBytes.{TextBytes}
use Rattle.xr_values.specs.declared.value.Value.{Value}
use Rattle.xr_values.specs.declared.args.Args.{Args}

abbrev pub keyword_held : List ℕ → List (TextBytes × Value) → Option Value
keyword_held name [] = None
keyword_held name (kv ∷ kvs) = if bytes_eq kv.0 name then Some kv.1 else keyword_held name kvs

abbrev pub held : ℕ → List ℕ → Args → Option Value
held place name args = get_or (map Some args.plain.items) place (keyword_held name args.keyed.items)

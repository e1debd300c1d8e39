-- Data variables by their names and in their order, as a map keeps them.
use Rattle.std.specs.Prelude.{◌≡◌, ℕ, List, [], ◌∷◌, map, fold, string_bytes, String, All, true, if◌then◌else◌}
use Rattle.std.specs.Str.{bytes_eq}
use Rattle.std.specs.declared.alloc.Global.{Global}
use Rattle.xr_types.specs.Names.{are_distinct}
use Rattle.xr_values.specs.declared.variable.Variable.{Variable}

abbrev pub Entry : Type 0
Entry = String Global × Variable

abbrev pub in_order : List Entry → List Variable
in_order entries = map (λ (e : Entry). e.1) entries

abbrev pub names_of : List Variable → List (List ℕ)
names_of vs = map (λ (v : Variable). v.name) vs

-- the key of a variable is its name, and no name stands twice
abbrev pub IsNamed : Entry → Type 0
IsNamed e = string_bytes e.0 ≡ e.1.name

pub record AreNamed (entries : List Entry) : Type 0 where
  pub each : All IsNamed entries
  pub distinct : are_distinct (names_of (in_order entries)) ≡ true

-- in the place of the one of its name, or at the end
abbrev pub with_variable : List Variable → Variable → List Variable
with_variable [] v = v ∷ []
with_variable (w ∷ rest) v = if bytes_eq w.name v.name then v ∷ rest else (w ∷ with_variable rest v)

abbrev pub with_variables : List Variable → List Variable → List Variable
with_variables vs more = fold with_variable vs more

-- The variables of a name in datasets of the program, and what they are in a plan.
use Rattle.std.specs.Prelude.{ℕ, List, [], ◌∷◌, find, Option, Some, None}
use Rattle.std.specs.Str.{bytes_eq}
use Rattle.xr_arrays.specs.declared.node.Node.{Node}
use Rattle.xr_arrays.specs.Nodes.{value}
use Rattle.xr_combination.specs.Pieces.{Piece}
use Rattle.xr_defs.specs.Values as of
use Rattle.xr_defs.specs.declared.value.Coord.{Coord}
use Rattle.xr_values.specs.declared.dataset.Dataset.{Dataset}
use Rattle.xr_values.specs.declared.variable.Variable.{Variable}

-- a list of what is there
abbrev pub listed : {A : Type 0} → Option A → List A
listed None = []
listed (Some x) = x ∷ []

-- those of a name in one dataset, of which there is one at most
unfoldable pub variables_of : List ℕ → Dataset → List Variable
variables_of name s = listed (find (λ (v : Variable). bytes_eq v.name name) s.vars)

unfoldable pub coords_of : List ℕ → of.Dataset → List Coord
coords_of name s = listed (find (λ (c : Coord). bytes_eq c.name name) s.coords)

abbrev pub variables_called : List ℕ → List Dataset → List Variable
variables_called name [] = []
variables_called name (s ∷ ss) = elim (find (λ (v : Variable). bytes_eq v.name name) s.vars) [ None ↦ variables_called name ss | Some v ↦ v ∷ variables_called name ss ]

-- the dimensions, the mask and the attributes of a variable, with the value of its node
abbrev pub piece_in : List Node → Variable → Piece
piece_in nodes v = record { dims = v.dims; array = value nodes v.node; masked = v.masked; attrs = v.attrs }

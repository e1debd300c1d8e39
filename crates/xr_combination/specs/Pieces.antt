-- What is put together: values as datasets, and the cells of one name from several of them.
use Rattle.std.specs.Prelude.{◌&&◌, ℕ, Bool, true, false, not, List, [], ◌∷◌, map, flat_map, find, Option, Some, None, Result, Ok, Err}
use Rattle.std.specs.Str.{bytes_eq}
use Rattle.std.specs.List.{list_all, list_any}
use Rattle.std.specs.Cmp.Lexicographic.{pointwise}
use Rattle.xr_types.specs.Kinds.{promoted}
use Rattle.xr_types.specs.Names.{among}
use Rattle.xr_types.specs.Results.{◌>>=◌, unless}
use Rattle.xr_types.specs.declared.attr.Attr.{Attr}
use Rattle.xr_types.specs.declared.axis.Axis.{Axis}
use Rattle.xr_types.specs.declared.axis.Labels.{Labels}
use Rattle.xr_types.specs.declared.axis.Label.{Label}
use Rattle.xr_types.specs.declared.fault.Fault.{Fault}
use Rattle.xr_types.specs.declared.fault.Fault.TheVariants.{LabelKind, WouldPromote, WrongKind}
use Rattle.xr_types.specs.declared.kind.DType.{DType}
use Rattle.xr_types.specs.declared.kind.DType.TheVariants.{Int64}
use Rattle.xr_types.specs.declared.operation.OpKind.TheVariants as ops
use Rattle.xr_arrays.specs.Arrays.{Array}
use Rattle.xr_arrays.specs.Elements.{unary_of}
use Rattle.xr_arrays.specs.Labels.{labels_of}
use Rattle.xr_arrays.specs.Nodes.{reordered}
use Rattle.xr_defs.specs.Building.{is_chars}
use Rattle.xr_defs.specs.Carrying.{joined_attrs, same_cell}
use Rattle.xr_defs.specs.Meanings as of
use Rattle.xr_defs.specs.Meanings.{Value}
use Rattle.xr_defs.specs.Parts.{set_of_array}
use Rattle.xr_defs.specs.Selecting.{variable_array}
use Rattle.xr_defs.specs.Values.{Dataset, Variable}
use Rattle.xr_defs.specs.declared.value.Coord.{Coord}
use Rattle.xr_operations.specs.Alignment.{are_kin, common_kind, listed, names_once, number_kind, relisted}
use Rattle.xr_operations.specs.Reductions.{place_in}
use Rattle.xr_relations.specs.Aligning.{check_coords, check_variables}

-- ---- results of each

-- what each gives, up to the first fault
unfoldable pub each_of : {A B : Type 0} → (A → Result B Fault) → List A → Result (List B) Fault
each_of f [] = Ok []
each_of f (x ∷ xs) = f x >>= λ y. each_of f xs >>= λ ys. Ok (y ∷ ys)

-- ---- values as datasets

abbrev pub no_set : Dataset
no_set = record { axes = []; coords = []; vars = []; attrs = []; skipped = [] }

abbrev pub first_set : List Dataset → Dataset
first_set [] = no_set
first_set (s ∷ ss) = s

-- the name of an array, as a list
abbrev pub name_list : Option (List ℕ) → List (List ℕ)
name_list None = []
name_list (Some n) = n ∷ []

abbrev pub name_or_none : Option (List ℕ) → List ℕ
name_or_none None = []
name_or_none (Some n) = n

-- an array is a dataset of one variable
abbrev pub as_dataset : Value → Dataset
as_dataset (of.Array a) = set_of_array (name_or_none a.name) a
as_dataset (of.Set s) = s
as_dataset v = no_set

abbrev pub is_array : Value → Bool
is_array (of.Array a) = true
is_array v = false

abbrev pub is_set : Value → Bool
is_set (of.Set s) = true
is_set v = false

-- the skipped names of all, each once
abbrev pub all_skipped : List Dataset → List (List ℕ)
all_skipped ss = names_once (flat_map (λ (s : Dataset). s.skipped) ss)

-- ---- members of datasets by their names

abbrev pub variables_called : List ℕ → List Dataset → List (Dataset × Variable)
variables_called name [] = []
variables_called name (s ∷ ss) =
    elim (find (λ (v : Variable). bytes_eq v.name name) s.vars) [ None ↦ variables_called name ss | Some v ↦ (s, v) ∷ variables_called name ss ]

abbrev pub coords_called : List ℕ → List Dataset → List Coord
coords_called name [] = []
coords_called name (s ∷ ss) =
    elim (find (λ (c : Coord). bytes_eq c.name name) s.coords) [ None ↦ coords_called name ss | Some c ↦ c ∷ coords_called name ss ]

-- ---- cells with the names of their dimensions, as a variable or a coordinate has them

pub record Piece : Type 0 where
  pub dims : List (List ℕ)
  pub array : Array
  pub masked : Bool
  pub attrs : List Attr

abbrev pub variable_piece : Dataset × Variable → Piece
variable_piece m = record { dims = m.1.dims; array = variable_array m.0.axes m.1; masked = m.1.masked; attrs = m.1.attrs }

abbrev pub piece_variable : List ℕ → Piece → Variable
piece_variable name p = record { name = name; dims = p.dims; kind = p.array.kind; masked = p.masked; attrs = p.attrs; cells = p.array.cells }

abbrev pub no_piece : Piece
no_piece = record { dims = []; array = record { kind = Int64; shape = []; cells = None ∷ [] }; masked = true; attrs = [] }

abbrev pub first_piece : List Piece → Piece
first_piece [] = no_piece
first_piece (p ∷ ps) = p

-- the same dimensions, in whichever order
abbrev pub have_same_dims : List (List ℕ) → List (List ℕ) → Bool
have_same_dims ds es = list_all (among ds) es && list_all (among es) ds

abbrev pub have_dims_of_first : List Piece → Bool
have_dims_of_first ps = list_all (λ (p : Piece). have_same_dims (first_piece ps).dims p.dims) ps

-- the cells with their dimensions in this order
abbrev pub in_order : List (List ℕ) → Piece → Array
in_order dims p = reordered p.array (map (place_in p.dims) dims)

-- each in the order of the first one's dimensions
abbrev pub in_first_order : List Piece → List Array
in_first_order ps = map (in_order (first_piece ps).dims) ps

abbrev pub as_kind : DType → Array → Array
as_kind t a = unary_of ops.Cast t a

-- the cells are equal, missing ones too, whatever their kinds
abbrev pub same_cells : Array → Array → Bool
same_cells a b = pointwise same_cell a.cells b.cells

abbrev pub all_same : List Array → Bool
all_same [] = true
all_same (a ∷ rest) = list_all (same_cells a) rest

abbrev pub all_attrs : List Piece → List Attr
all_attrs ps = joined_attrs (map (λ (p : Piece). p.attrs) ps)

abbrev pub is_some_masked : List Piece → Bool
is_some_masked ps = list_any (λ (p : Piece). p.masked) ps

-- ---- the kind of all

abbrev pub promoted_from : DType → List DType → Option DType
promoted_from t [] = Some t
promoted_from t (u ∷ us) = elim (promoted t u) [ None ↦ None | Some v ↦ promoted_from v us ]

abbrev pub promoted_all : List DType → Option DType
promoted_all [] = None
promoted_all (t ∷ ts) = promoted_from t ts

abbrev pub kinds_of : List Piece → List DType
kinds_of ps = map (λ (p : Piece). p.array.kind) ps

-- bytes of text go with themselves alone
abbrev pub mixes_chars : List DType → Bool
mixes_chars ts = list_any is_chars ts && not (list_all is_chars ts)

unfoldable pub common_kind_in : List DType → Result DType Fault
common_kind_in ts = unless (not (mixes_chars ts)) WrongKind >>= λ u. elim (promoted_all ts) [ None ↦ Err WouldPromote | Some t ↦ Ok t ]

abbrev pub common_kind_of : List Piece → Result DType Fault
common_kind_of ps = common_kind_in (kinds_of ps)

-- ---- labels one after the other

abbrev pub all_labels : List Labels → List Label
all_labels ls = flat_map (λ (l : Labels). labels_of l.list) ls

-- of one kind, whole numbers as those of the promoted one. The index has the attributes of the first, and times its units.
unfoldable pub chained_index : Labels → List Labels → Result Labels Fault
chained_index l ls =
    unless (list_all (are_kin l.list) (listed ls)) LabelKind >>= λ u.
    common_kind (number_kind l.list) (listed ls) >>= λ t. Ok (record { list = relisted t l.list (all_labels (l ∷ ls)); attrs = l.attrs })

-- ---- the fill, where something of a dataset has a position without a source

unfoldable pub check_fill : List Axis → Option Value → Dataset → Result (Unit {0}) Fault
check_fill joined fill s = check_variables joined fill s.axes s.vars >>= λ u. check_coords joined fill s.coords

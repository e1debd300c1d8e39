-- The datasets of the tests fit together.
use Rattle.std.proofs.Common.{◌≡◌, ◌≤◌, sym, subst, ℕ, ℤ, pos, Bool, true, false, List, [], ◌∷◌, ◌++◌, length, map, Option, Some, None, All, refl, arith}
use Rattle.std.specs.Prelude.{MatchOption, ⊤, is_some}
use Rattle.std.specs.List.{list_all}
use Rattle.std.specs.Str.{is_utf8, chars}
use Rattle.std.proofs.lemmas.List.Elements.{All-from_recursion}
use Rattle.std.proofs.lemmas.Int.{ints}
use lib.Utf8
use Rattle.xr_types.specs.declared.axis.Labels.{Labels}
use Rattle.xr_types.specs.declared.kind.DType.{DType}
use Rattle.xr_types.specs.declared.kind.DType.TheVariants as kinds
use Rattle.xr_arrays.specs.Arrays.{Array, IsCell}
use Rattle.xr_defs.specs.Limits.{most_cells}
use Rattle.xr_arrays.specs.Nodes.{IsNode, node_value}
use Rattle.xr_types.specs.Names.{are_distinct}
use Rattle.xr_types.specs.Names.{axis_names}
use Rattle.xr_arrays.specs.declared.node.Node.TheVariants.{Source}
use Rattle.xr_values.specs.declared.dataset.Dataset.{Dataset}
use Rattle.xr_values.specs.declared.variable.Variable.{Variable}
use Rattle.xr_values.specs.Stands.{shape_named, variable_in, IsNodeOf, IsDatasetIn}
use Rattle.xr_defs.specs.Decoding.{is_kept}
use Rattle.xr_defs.specs.WellFormed.{AreAttributes, IsIndex, IsDimension, AreCells, AreSeen, labelled}

-- a plan's one source
pub is_source : (a : Array) → a.shape ≡ length a.cells ∷ [] → length a.cells ≤ most_cells → All (IsCell a.kind) a.cells → IsNode [] (Source a)
unfolding node_value
is_source a shape few range = record { fits = record { whole = rw shape (omega arith); range = range }; small = rw shape (omega arith); low_rank = rw shape (omega arith) }

-- ---- one variable over one axis

abbrev pub alone : ℕ → Option Labels → DType → Bool → Dataset
alone n labels kind masked =
    record {
      axes = record { name = 120 ∷ []; size = n; labels = labels } ∷ [];
      coords = [];
      vars = record { name = 118 ∷ []; dims = (120 ∷ []) ∷ []; kind = kind; masked = masked; attrs = []; node = 0 } ∷ [];
      attrs = [];
      skipped = [];
    }

pub no_attrs : AreAttributes []
no_attrs = record { each = tt; distinct = refl }

axis_is : (n : ℕ) (labels : Option Labels) → n ≤ most_cells → MatchOption labels ⊤ (IsIndex n) → IsDimension (record { name = 120 ∷ []; size = n; labels = labels })
unfolding is_utf8 chars Utf8.encode
axis_is n labels few index = record { name = refl; few = few; index = index }

cells_are : (n : ℕ) (kind : DType) (masked : Bool) (cells : List (Option ℤ)) → n ≤ most_cells → length cells ≡ n → All (IsCell kind) cells → AreSeen masked cells → AreCells (n ∷ []) kind masked cells
cells_are n kind masked cells few whole range seen = record { whole = omega (arith, whole); range = range; seen = seen; low_rank = omega arith; few = omega (arith, few) }

pub alone_is : (n : ℕ) (labels : Option Labels) (kind : DType) (masked : Bool) (cells : List (Option ℤ)) → n ≤ most_cells → MatchOption labels ⊤ (IsIndex n) → length cells ≡ n → All (IsCell kind) cells → AreSeen masked cells
    → IsDatasetIn (Source (record { kind = kind; shape = n ∷ []; cells = cells }) ∷ []) (alone n labels kind masked)
unfolding node_value is_utf8 chars Utf8.encode
alone_is n labels kind masked cells few index whole range seen =
    record {
      nodes_of = All-from_recursion (λ (v : Variable). IsNodeOf (Source (record { kind = kind; shape = n ∷ []; cells = cells }) ∷ []) v.node (shape_named (alone n labels kind masked) v) v.kind) (alone n labels kind masked).vars (record { placed = omega arith; has_shape = refl; has_kind = refl }, tt);
      formed = record {
        axes = record { each = (axis_is n labels few index, tt); distinct = refl };
        coords = tt;
        vars = (record { name = refl; over = (refl, tt); distinct = refl; attrs = no_attrs; cells = cells_are n kind masked cells few whole range seen }, tt);
        coords_distinct = refl;
        vars_distinct = differ labels;
        busy = busy labels;
        attrs = no_attrs;
        few = omega arith;
      };
    }
  where
    differ : (l : Option Labels) → are_distinct (axis_names (labelled (record { name = 120 ∷ []; size = n; labels = l } ∷ [])) ++ (118 ∷ []) ∷ []) ≡ true
    differ None = refl
    differ (Some l) = refl

    busy : (l : Option Labels) → list_all (is_kept [] (map (variable_in (Source (record { kind = kind; shape = n ∷ []; cells = cells }) ∷ [])) (alone n l kind masked).vars)) (alone n l kind masked).axes ≡ true
    busy None = refl
    busy (Some l) = refl

pub alone_in : (a : Array) (n : ℕ) (labels : Option Labels) (masked : Bool) → n ≤ most_cells → MatchOption labels ⊤ (IsIndex n) → a.shape ≡ n ∷ [] → length a.cells ≡ n → All (IsCell a.kind) a.cells → AreSeen masked a.cells
    → IsDatasetIn (Source a ∷ []) (alone n labels a.kind masked)
alone_in a n labels masked few index shape whole range seen =
    subst (λ s. IsDatasetIn (Source (record { kind = a.kind; shape = s; cells = a.cells }) ∷ []) (alone n labels a.kind masked)) (sym shape) (alone_is n labels a.kind masked a.cells few index whole range seen)

-- ---- the cells of the tests

pub ints_are : All (IsCell kinds.Int32) (Some (pos 1) ∷ Some (pos 2) ∷ Some (pos 3) ∷ [])
ints_are = All-from_recursion (IsCell kinds.Int32) (Some (pos 1) ∷ Some (pos 2) ∷ Some (pos 3) ∷ []) ((omega (arith, ints), omega (arith, ints)), ((omega (arith, ints), omega (arith, ints)), ((omega (arith, ints), omega (arith, ints)), tt)))

pub ints_seen : AreSeen false (Some (pos 1) ∷ Some (pos 2) ∷ Some (pos 3) ∷ [])
ints_seen e = All-from_recursion (λ c. is_some c ≡ true) (Some (pos 1) ∷ Some (pos 2) ∷ Some (pos 3) ∷ []) (refl, (refl, (refl, tt)))

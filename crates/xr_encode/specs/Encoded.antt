-- The file of a dataset of a plan. The cells of a data variable are computed when its turn comes, and what computes them may
-- decline a node.
use Rattle.std.specs.Prelude.{◌≡◌, ◌<◌, ◌++◌, ℕ, Bool, not, List, [], ◌∷◌, length, map, filter_map, All, Result, Ok, Err, ⊤}
use Rattle.xr_types.specs.declared.fault.Fault.{Fault}
use Rattle.xr_types.specs.declared.fault.Fault.TheVariants.{TooLarge}
use Rattle.xr_types.specs.declared.fault.CallFault.{CallFault}
use Rattle.xr_types.specs.declared.fault.CallFault.TheVariants.{Refused, Declined, NoMemory}
use Rattle.xr_files.specs.declared.file.CdfDim.{CdfDim}
use Rattle.xr_files.specs.declared.file.CdfVar.{CdfVar}
use Rattle.xr_files.specs.declared.file.CdfFile.{CdfFile}
use Rattle.xr_arrays.specs.declared.node.Node.{Node}
use Rattle.xr_defs.specs.declared.value.Coord.{Coord}
use Rattle.xr_defs.specs.declared.write_options.WriteOptions.{WriteOptions}
use Rattle.xr_types.specs.Results.{◌>>=◌, unless, all_of}
use Rattle.xr_arrays.specs.Arrays.{Array, IsCell}
use Rattle.xr_arrays.specs.Nodes.{value}
use Rattle.xr_defs.specs.Values as of
use Rattle.xr_files.specs.Canonical.{is_small}
use Rattle.xr_defs.specs.Printing.{by_name}
use Rattle.xr_defs.specs.Encoding.{Stored, stored, stored_index, stored_coord, stored_variable, encoded, check_unlimited, check_names, check_records, check_fill, check_fit, check_cells}
use Rattle.xr_values.specs.declared.variable.Variable.{Variable}
use Rattle.xr_values.specs.declared.dataset.Dataset.{Dataset}
use Rattle.xr_values.specs.Stands.{variable_in, dataset_in}
use Rattle.xr_defs.specs.WellFormed.{AreSeen}
use Rattle.xr_encode.specs.Outlines.{filled_with}
use Rattle.xr_encode.specs.Sets.{variable_outline}
use Rattle.xr_encode.specs.Walk.{var_checked, vars_from}

-- an answer of the definitions, as a call gives it
abbrev pub refused : {A : Type 0} → Result A Fault → Result A CallFault
refused (Ok a) = Ok a
refused (Err f) = Err (Refused f)

-- indexes and coordinates, whose cells the dataset holds itself
abbrev pub stored_held : of.Dataset → List Stored
stored_held set = filter_map stored_index set.axes ++ map stored_coord (by_name set.coords)

-- a data variable's cells are computed, unless its node is declined, and then checked
unfoldable pub check_computed : (ℕ → Bool) → List Node → of.Dataset → WriteOptions → Variable → Result (Unit {0}) CallFault
check_computed declines nodes set options v =
    unless (not (declines v.node)) (Declined v.node) >>= λ u. refused (check_cells options (stored_variable set (variable_in nodes v)))

-- the checks that look at no cells
unfoldable pub check_outlines : of.Dataset → WriteOptions → Result (Unit {0}) Fault
check_outlines set options =
    check_unlimited set options >>= λ a. check_names set options >>= λ b. check_records set options >>= λ c.
    all_of (check_fill options) (stored set) >>= λ d. all_of (check_fit options) (stored set)

-- the file of a dataset of a plan, the first fault, or the first declined node that the checks come to
unfoldable pub file_in : (ℕ → Bool) → List Node → Dataset → WriteOptions → Result CdfFile CallFault
file_in declines nodes s options =
    let set = dataset_in nodes s in
    refused (check_outlines set options) >>= λ a.
    refused (all_of (check_cells options) (stored_held set)) >>= λ b.
    all_of (check_computed declines nodes set options) s.vars >>= λ c.
    refused (unless (is_small (encoded set options)) TooLarge) >>= λ d.
    Ok (encoded set options)

-- ---- the walk over the data variables

-- the cells of a node, unless it is declined
unfoldable pub node_cells : (ℕ → Bool) → List Node → ℕ → Result Array CallFault
node_cells declines nodes n = unless (not (declines n)) (Declined n) >>= λ u. Ok (value nodes n)

unfoldable pub computed_var : (ℕ → Bool) → List Node → Bool → List CdfDim → WriteOptions → List Coord → Variable → Result CdfVar CallFault
computed_var declines nodes small dims options coords v =
    node_cells declines nodes v.node >>= λ a. refused (var_checked small dims options (filled_with a.cells (variable_outline coords v)))

-- behind those that stand already
abbrev pub computed_from : (ℕ → Bool) → List Node → Bool → List CdfDim → WriteOptions → List Coord → List CdfVar → List Variable → Result (List CdfVar) CallFault
computed_from declines nodes small dims options coords done [] = Ok done
computed_from declines nodes small dims options coords done (v ∷ vs) =
    computed_var declines nodes small dims options coords v >>= λ w. computed_from declines nodes small dims options coords (done ++ w ∷ []) vs

abbrev pub vars_in : (ℕ → Bool) → List Node → Bool → List CdfDim → WriteOptions → Dataset → Result (List CdfVar) CallFault
vars_in declines nodes small dims options s =
    refused (vars_from small dims options [] (stored_held (dataset_in nodes s))) >>= λ held. computed_from declines nodes small dims options s.coords held s.vars

-- the node of a data variable is there, of its kind, with cells of that kind, which are missing only where it is masked
pub record IsReady (nodes : List Node) (v : Variable) : Type 0 where
  pub placed : v.node < length nodes
  pub has_kind : (value nodes v.node).kind ≡ v.kind
  pub range : All (IsCell v.kind) (value nodes v.node).cells
  pub seen : AreSeen v.masked (value nodes v.node).cells

-- ---- answers

-- a call answers what is told, unless memory runs out
abbrev pub Follows : {A : Type 0} → Result A CallFault → Result A CallFault → Type 0
Follows (Ok a) told = told ≡ Ok a
Follows (Err (Refused f)) told = told ≡ Err (Refused f)
Follows (Err (Declined n)) told = told ≡ Err (Declined n)
Follows (Err NoMemory) told = ⊤

-- the same of a call that adds to a list
abbrev pub Adds : {A : Type 0} → Result (Unit {0}) CallFault → A → Result A CallFault → Type 0
Adds (Ok u) new told = told ≡ Ok new
Adds (Err (Refused f)) new told = told ≡ Err (Refused f)
Adds (Err (Declined n)) new told = told ≡ Err (Declined n)
Adds (Err NoMemory) new told = ⊤

-- The variables of a file one by one: each is checked and then written. Of a file that will be too large no values are kept.
use Rattle.std.specs.Prelude.{◌≡◌, ◌++◌, ℕ, Bool, true, false, List, flat_map, [], ◌∷◌, Result, Ok, Err, ⊤}
use Rattle.xr_types.specs.declared.fault.Fault.{Fault}
use Rattle.xr_types.specs.declared.fault.CallFault.{CallFault}
use Rattle.xr_types.specs.declared.fault.CallFault.TheVariants.{Refused, Declined, NoMemory}
use Rattle.xr_files.specs.declared.file.CdfDim.{CdfDim}
use Rattle.xr_files.specs.declared.file.CdfVar.{CdfVar}
use Rattle.xr_defs.specs.declared.write_options.WriteOptions.{WriteOptions}
use Rattle.xr_types.specs.Results.{◌>>=◌}
use Rattle.xr_defs.specs.Encoding.{Stored, check_cells, var_of, written_type, value_bytes, number_for}
use Rattle.xr_defs.specs.declared.value.Coord.{Coord}
use Rattle.xr_types.specs.Names.{shape_over}
use Rattle.xr_defs.specs.WellFormed.{IsContent}
use Rattle.xr_encode.specs.declared.outline.Outline.{Outline}
use Rattle.xr_encode.specs.Outlines.{without_cells}

-- a variable with these bytes as its values
abbrev pub var_with : List CdfDim → WriteOptions → Outline → List ℕ → CdfVar
var_with dims options o raw = record (var_of dims options (without_cells o)) { raw = raw }

-- the bytes of a variable's values
abbrev pub written_bytes : WriteOptions → Stored → List ℕ
written_bytes options o = flat_map (λ c. value_bytes (written_type options o) (number_for options o c)) o.cells

abbrev pub cells_if : Bool → Stored → Stored
cells_if true o = o
cells_if false o = record o { cells = [] }

unfoldable pub var_checked : Bool → List CdfDim → WriteOptions → Stored → Result CdfVar Fault
var_checked small dims options o = check_cells options o >>= λ u. Ok (var_of dims options (cells_if small o))

-- behind those that stand already
abbrev pub vars_from : Bool → List CdfDim → WriteOptions → List CdfVar → List Stored → Result (List CdfVar) Fault
vars_from small dims options done [] = Ok done
vars_from small dims options done (o ∷ os) = var_checked small dims options o >>= λ v. vars_from small dims options (done ++ v ∷ []) os

-- the cells of a coordinate are of its kind, and missing only where it is masked
abbrev pub HasContent : Coord → Type 0
HasContent c = IsContent (shape_over c.axes) c.content

-- what a call that adds to a list answers, and what the list is then
abbrev pub Puts : {A : Type 0} → Result (Unit {0}) CallFault → A → Result A Fault → Type 0
Puts (Ok u) new told = told ≡ Ok new
Puts (Err (Refused f)) new told = told ≡ Err f
Puts (Err (Declined n)) new told = ⊥
Puts (Err NoMemory) new told = ⊤

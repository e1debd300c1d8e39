-- Coordinates that are assigned. The cells of an array that becomes one are computed when its entry is put in its place, and what
-- computes them may decline its node.
use Rattle.std.specs.Prelude.{◌≡◌, ◌==◌, ℕ, Bool, not, List, [], ◌∷◌, length, map, Option, Some, None, Result, Ok, Err, ⊤}
use Rattle.xr_types.specs.declared.text.TextBytes.{TextBytes}
use Rattle.xr_types.specs.declared.fault.Fault.{Fault}
use Rattle.xr_types.specs.declared.fault.Fault.TheVariants.{BadArgument}
use Rattle.xr_types.specs.declared.fault.CallFault.{CallFault}
use Rattle.xr_types.specs.declared.fault.CallFault.TheVariants.{Refused, Declined, NoMemory}
use Rattle.xr_arrays.specs.declared.node.Node.{Node}
use Rattle.xr_types.specs.Results.{◌>>=◌, unless, all_of}
use Rattle.xr_defs.specs.Values as of
use Rattle.xr_defs.specs.Selecting.{check_set}
use Rattle.xr_defs.specs.Parts.{without_idle}
use Rattle.xr_defs.specs.Building.{Frame, check_entry, check_place, check_numbers, with_entry, with_frame, frame_of_array, variable_names}
use Rattle.xr_values.specs.declared.data_array.DataArray.{DataArray}
use Rattle.xr_values.specs.declared.dataset.Dataset.{Dataset}
use Rattle.xr_values.specs.declared.value.Value.{Value}
use Rattle.xr_values.specs.declared.value.Value.TheOpen as held
use Rattle.xr_values.specs.declared.value.Value.TheOpen.{Value-F}
use Rattle.xr_values.specs.declared.value.Value.TheViews.{out-Value}
use Rattle.xr_values.specs.declared.args.Args.{Args}
use Rattle.xr_values.specs.Meaning.{with_key}
use Rattle.xr_values.specs.Stands.{array_in, dataset_in, IsArrayIn, IsDatasetIn}

-- an answer of the definitions, as a call gives it
abbrev pub refused : {A : Type 0} → Result A Fault → Result A CallFault
refused (Ok a) = Ok a
refused (Err f) = Err (Refused f)

-- the node of an array
abbrev pub node_of : Value-F Value → Option ℕ
node_of (held.Array a) = Some a.value.node
node_of v = None

-- it is no array
abbrev pub IsPlain : Value → Type 0
IsPlain v = node_of (out-Value v) ≡ None

-- an array's cells are computed, unless its node is declined
unfoldable pub computed : (ℕ → Bool) → Value → Result (Unit {0}) CallFault
computed declines v = elim (node_of (out-Value v)) [ None ↦ Ok tt | Some n ↦ unless (not (declines n)) (Declined n) ]

-- an entry that has no fault is computed and put in its place
unfoldable pub entry_in : (ℕ → Bool) → List Node → List (List ℕ) → Frame → TextBytes × Value → Result Frame CallFault
entry_in declines nodes variables f kv = refused (with_entry variables f (with_key nodes kv)) >>= λ g. computed declines kv.1 >>= λ u. Ok g

unfoldable pub entries_in : (ℕ → Bool) → List Node → List (List ℕ) → Frame → List (TextBytes × Value) → Result Frame CallFault
entries_in declines nodes variables f [] = Ok f
entries_in declines nodes variables f (kv ∷ kvs) = entry_in declines nodes variables f kv >>= λ g. entries_in declines nodes variables g kvs

-- the checks of all entries come first, and whether their numbers fit comes last
unfoldable pub frame_in : (ℕ → Bool) → List Node → List (List ℕ) → Frame → Args → Result Frame CallFault
frame_in declines nodes variables f args =
    refused (unless (length args.plain.items == 0) BadArgument) >>= λ a. refused (all_of (check_entry f.axes) (map (with_key nodes) args.keyed.items)) >>= λ b.
    refused (all_of (check_place f.axes) (map (with_key nodes) args.keyed.items)) >>= λ c. entries_in declines nodes variables f args.keyed.items >>= λ g.
    refused (all_of check_numbers (map (with_key nodes) args.keyed.items)) >>= λ d. Ok g

-- ---- arrays and datasets with these coordinates, the first fault, or the first declined node that the entries come to

unfoldable pub array_assigned : (ℕ → Bool) → List Node → DataArray → Args → Result of.DataArray CallFault
array_assigned declines nodes a args =
    frame_in declines nodes [] (frame_of_array (array_in nodes a)) args >>= λ f. Ok (record (array_in nodes a) { axes = f.axes; coords = f.coords })

unfoldable pub set_assigned : (ℕ → Bool) → List Node → Dataset → Args → Result of.Dataset CallFault
set_assigned declines nodes s args =
    let set = dataset_in nodes s in
    frame_in declines nodes (variable_names set) (record { axes = set.axes; coords = set.coords }) args >>= λ f. Ok (without_idle (with_frame set f)) >>= λ t.
    refused (check_set t) >>= λ u. Ok t

-- ---- what the calls answer

-- a call answers what is told, unless memory runs out
abbrev pub Follows : {A B : Type 0} → (A → B) → Result A CallFault → Result B CallFault → Type 0
Follows view (Ok a) told = told ≡ Ok (view a)
Follows view (Err (Refused f)) told = told ≡ Err (Refused f)
Follows view (Err (Declined n)) told = told ≡ Err (Declined n)
Follows view (Err NoMemory) told = ⊤

-- the same of an array and of a dataset of the plan
abbrev pub FollowsArray : List Node → Result DataArray CallFault → Result of.DataArray CallFault → Type 0
FollowsArray nodes (Ok a) told = (told ≡ Ok (array_in nodes a)) × IsArrayIn nodes a
FollowsArray nodes (Err (Refused f)) told = told ≡ Err (Refused f)
FollowsArray nodes (Err (Declined n)) told = told ≡ Err (Declined n)
FollowsArray nodes (Err NoMemory) told = ⊤

abbrev pub FollowsSet : List Node → Result Dataset CallFault → Result of.Dataset CallFault → Type 0
FollowsSet nodes (Ok s) told = (told ≡ Ok (dataset_in nodes s)) × IsDatasetIn nodes s
FollowsSet nodes (Err (Refused f)) told = told ≡ Err (Refused f)
FollowsSet nodes (Err (Declined n)) told = told ≡ Err (Declined n)
FollowsSet nodes (Err NoMemory) told = ⊤

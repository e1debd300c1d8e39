-- The numbers of axes in another order.
use Rattle.std.specs.Prelude.{◌++◌, ◌<◌, ◌≡◌}
use Rattle.xr_types.specs.Results.{◌>>=◌}
use Rattle.xr_parts.specs.Common.{All, DataArray, Fault, IsArrayIn, List, Node, Ok, Result, array_in, in_order, is_once, length, true, ℕ}
use Rattle.xr_defs.specs.Values as of

-- each axis of a rank once
pub record IsArrangement (rank : ℕ) (order : List ℕ) : Type 0 where
  pub long : length order ≡ rank
  pub once : is_once order ≡ true
  pub below : All (λ k. k < rank) order

-- an array of the plan with its axes in this order
abbrev pub IsMovedTo : List Node → List ℕ → of.DataArray → DataArray → Type 0
IsMovedTo nodes order a b = (array_in nodes b ≡ in_order a order) × IsArrayIn nodes b

-- items that come behind others
abbrev pub behind : {A : Type 0} → List A → Result (List A) Fault → Result (List A) Fault
behind out more = more >>= λ xs. Ok (out ++ xs)

-- What `align` answers.
use Rattle.std.specs.Prelude.{◌≡◌, ◌∷◌, ◌++◌, ℕ, ℤ, Bool, List, [], map, Option, Result, Ok, Err, All, codes}
use Rattle.xr_aligning.specs.Common.{CallFault, Fails, Fault, IsValueIn, Node, among, list_all, meaning}
use Rattle.xr_defs.specs.Meanings as of
use Rattle.xr_values.specs.declared.value.Value.{Value}
use Rattle.xr_aligning.specs.Coming.{come}
use Rattle.xr_aligning.specs.declared.coming.Coming.{Coming}

-- the keywords of the call
unfoldable pub is_option : List ℕ → Bool
is_option name = among (codes "join" ∷ codes "fill_value" ∷ []) name

abbrev pub are_options : List (List ℕ × of.Value) → Bool
are_options keyed = list_all (λ (kv : List ℕ × of.Value). is_option kv.0) keyed

-- a call that answers values of the plan as it is after the call
abbrev pub AnswersValues : List Node → Result (List Value) CallFault → Result (List of.Value) Fault → Type 0
AnswersValues nodes (Ok vs) means = (means ≡ Ok (map (meaning nodes) vs)) × All (IsValueIn nodes) vs
AnswersValues nodes (Err e) means = Fails e means

-- values over joined axes, behind others
pub record ArePlaced (old new : List Node) (fill : Option ℤ) (ms : List Coming) (out vs : List Value) : Type 0 where
  pub more : List Value
  pub are : vs ≡ out ++ more
  pub means : map (meaning new) more ≡ map (come old fill) ms
  pub inside : All (IsValueIn new) more

-- The values that a call is given in a list.
use Rattle.std.proofs.Common.{◌≡◌, ◌∙◌, ◌++◌, ℕ, All, List, ◌∷◌, length, map, drop, Option, Some, Result, Ok, Err, sym, ap, subst}
use Rattle.std.specs.List.{AllByRecursion}
use Rattle.std.specs.declared.vec.Vec.{Vec}
use Rattle.std.specs.declared.alloc.Global.{Global}
use Rattle.std.proofs.lemmas.List.Elements.{recursion_from_All, All-head}
use Rattle.xr_types.specs.Results.{◌>>=◌, unless}
use Rattle.xr_types.specs.declared.fault.Fault.{Fault}
use Rattle.xr_types.specs.declared.fault.Fault.TheVariants.{BadArgument}
use Rattle.xr_arrays.specs.declared.node.Node.{Node}
use Rattle.xr_defs.specs.Building.{argument, bound, keyword}
use Rattle.xr_defs.specs.Meanings as of
use Rattle.xr_values.specs.declared.args.Args.{Args}
use Rattle.xr_values.specs.declared.value.Value.{Value}
use Rattle.xr_values.specs.declared.value.Value.TheVariants as variants
use Rattle.xr_values.specs.declared.value.Value.TheOpen as held
use Rattle.xr_values.specs.declared.value.Value.TheOpen.{Value-F}
use Rattle.xr_values.specs.declared.value.Value.TheViews.{out-Value, roll-Value, out-roll-Value}
use Rattle.xr_values.specs.Meaning.{given, meaning, with_key, AreArgsIn, IsLayerIn, IsValueIn}
use Rattle.xr_values.proofs.Meaning.{value_out}

pub list_inside : (nodes : List Node) (v : Value) (vs : Vec Value Global) → v ≡ variants.List vs → IsValueIn nodes v → AllByRecursion (IsValueIn nodes) vs.items
unfolding roll-Value denote.Hole.Carrier.roll
list_inside nodes v vs is inside = recursion_from_All (IsValueIn nodes) vs.items (by (held.List vs) is)
  where
    by : (x : Value-F Value) → v ≡ roll-Value x → IsLayerIn nodes x
    by x e = subst (IsLayerIn nodes) (ap (λ w. out-Value w) e ∙ out-roll-Value x) (value_out nodes v inside)

-- the argument in the first place
module _ (nodes : List Node) (names : List (List ℕ)) (args : Args) (vs : List (Option of.Value)) where
  abbrev others : List (Option of.Value)
  others = map (λ name. keyword name (map (with_key nodes) args.keyed.items)) (drop (length (map (meaning nodes) args.plain.items)) names)

  values_are : bound names (given nodes args) ≡ Ok vs → map Some (map (meaning nodes) args.plain.items) ++ others ≡ vs
  unfolding bound given
  values_are told = by (unless _ BadArgument) _ told
    where
      by : (r : Result (Unit {0}) Fault) (ws : List (Option of.Value)) → (r >>= λ u. Ok ws) ≡ Ok vs → ws ≡ vs
      by (Ok u) ws is = cc
      by (Err e) ws is = absurd cc

  pub first_is : (v : Value) (rest : List Value) → args.plain.items ≡ v ∷ rest → bound names (given nodes args) ≡ Ok vs → argument vs 0 ≡ Some (meaning nodes v)
  first_is v rest is told = ap (λ ws. argument ws 0) (sym (values_are told)) ∙ ap (λ us. argument (map Some (map (meaning nodes) us) ++ others) 0) is

pub first_inside : (nodes : List Node) (args : Args) (v : Value) (rest : List Value) → args.plain.items ≡ v ∷ rest → AreArgsIn nodes args → IsValueIn nodes v
first_inside nodes args v rest is inside = All-head (IsValueIn nodes) v rest (subst (All (IsValueIn nodes)) is inside.plain)

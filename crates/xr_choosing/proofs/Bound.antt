-- The arguments of parameters are those that their places or names say.
use Rattle.std.proofs.Common.{◌≡◌, ◌<◌, ◌++◌, ℕ, zero, suc, Bool, true, false, List, [], ◌∷◌, length, map, drop, get_or, Option, Some, None, Result, Ok, Err, option_map, refl, sym, ap, ◌∙◌, arith, lit<}
use Rattle.std.specs.Prelude.{find, if◌then◌else◌, codes}
use Rattle.std.specs.Str.{bytes_eq}
use Rattle.xr_types.specs.Results.{◌>>=◌, unless, Answers}
use Rattle.xr_types.specs.declared.text.TextBytes.{TextBytes}
use Rattle.xr_types.specs.declared.fault.CallFault.{CallFault}
use Rattle.xr_types.specs.declared.fault.Fault.{Fault}
use Rattle.xr_types.specs.declared.fault.Fault.TheVariants.{BadArgument, WouldPromote}
use Rattle.xr_arrays.specs.declared.node.Node.{Node}
use Rattle.xr_defs.specs.Building.{argument, bound, given_value, keyword, option, required}
use Rattle.xr_defs.specs.Meanings as of
use Rattle.xr_defs.specs.Values.{DataArray}
use Rattle.xr_operations.specs.CellMethods.{as_branch, as_condition, where_called, where_method}
use Rattle.xr_values.specs.Answers.{Fails}
use Rattle.xr_values.specs.declared.args.Args.{Args}
use Rattle.xr_values.specs.declared.value.Value.{Value}
use Rattle.xr_values.specs.Meaning.{given, meaning, with_key}
use Rattle.xr_joining.proofs.TwoAnswers.{first_fails}
use Rattle.xr_choosing.specs.Called.{function_over, function_told, method_over, method_told, with_other}
use Rattle.xr_choosing.specs.Held.{held, keyword_held}

module _ (nodes : List Node) where
  keyword_same : (name : List ℕ) (keyed : List (TextBytes × Value)) → option_map (meaning nodes) (keyword_held name keyed) ≡ keyword name (map (with_key nodes) keyed)
  keyword_same name [] = refl
  keyword_same name (kv ∷ kvs) = by (bytes_eq kv.0 name) (keyword_same name kvs)
    where
      by : (b : Bool) → option_map (meaning nodes) (keyword_held name kvs) ≡ keyword name (map (with_key nodes) kvs)
          → option_map (meaning nodes) (if b then Some kv.1 else keyword_held name kvs) ≡ option_map (λ (e : List ℕ × of.Value). e.1) (if b then Some (with_key nodes kv) else find (λ (e : List ℕ × of.Value). bytes_eq e.0 name) (map (with_key nodes) kvs))
      by true rest = refl
      by false rest = rest

  abbrev bound_values : List (List ℕ) → List Value → List (TextBytes × Value) → List (Option of.Value)
  bound_values names plain keyed = map Some (map (meaning nodes) plain) ++ map (λ name. keyword name (map (with_key nodes) keyed)) (drop (length (map (meaning nodes) plain)) names)

  placed : (names : List (List ℕ)) (place : ℕ) (plain : List Value) (keyed : List (TextBytes × Value)) → place < length names
      → option_map (meaning nodes) (get_or (map Some plain) place (keyword_held (get_or names place []) keyed)) ≡ get_or (bound_values names plain keyed) place None
  placed [] place plain keyed lt = absurd (omega arith)
  placed (n ∷ ns) zero [] keyed lt = keyword_same n keyed
  placed (n ∷ ns) (suc k) [] keyed lt = placed ns k [] keyed (omega arith)
  placed (n ∷ ns) zero (v ∷ vs) keyed lt = refl
  placed (n ∷ ns) (suc k) (v ∷ vs) keyed lt = placed ns k vs keyed (omega arith)

  values_are : (names : List (List ℕ)) (args : Args) (vs : List (Option of.Value)) → bound names (given nodes args) ≡ Ok vs → bound_values names args.plain.items args.keyed.items ≡ vs
  unfolding bound given
  values_are names args vs told = by (unless _ BadArgument) _ told
    where
      by : (r : Result (Unit {0}) Fault) (ws : List (Option of.Value)) → (r >>= λ u. Ok ws) ≡ Ok vs → ws ≡ vs
      by (Ok u) ws is = cc
      by (Err e) ws is = absurd cc

  argument_is : (names : List (List ℕ)) (place : ℕ) (args : Args) (vs : List (Option of.Value)) → place < length names → bound names (given nodes args) ≡ Ok vs → argument vs place ≡ option_map (meaning nodes) (held place (get_or names place []) args)
  argument_is names place args vs lt told = ap (λ ws. argument ws place) (sym (values_are names args vs told)) ∙ sym (placed names place args.plain.items args.keyed.items lt)

  abbrev three : List (List ℕ)
  three = codes "cond" ∷ codes "x" ∷ codes "y" ∷ []

  abbrev two : List (List ℕ)
  two = codes "cond" ∷ codes "other" ∷ []

  pub function_bound : (args : Args) (vs : List (Option of.Value)) → bound three (given nodes args) ≡ Ok vs → where_called (given nodes args) ≡ function_told nodes args
  unfolding where_called function_told
  function_bound args vs told =
      ap (λ r. r >>= λ vs. required (argument vs 0) >>= λ c. required (argument vs 1) >>= λ v. required (argument vs 2) >>= λ w. as_condition c >>= λ cond. as_branch v >>= λ x. as_branch w >>= λ y. function_over cond x y) told
      ∙ (λ i. required (argument_is three 0 args vs (lit< tt) told i) >>= λ c. required (argument_is three 1 args vs (lit< tt) told i) >>= λ v. required (argument_is three 2 args vs (lit< tt) told i) >>= λ w.
      as_condition c >>= λ cond. as_branch v >>= λ x. as_branch w >>= λ y. function_over cond x y)

  other_is : (a cond : DataArray) (o : Option of.Value) → elim o as (λ o. Result DataArray Fault) [ None ↦ Err WouldPromote | Some w ↦ as_branch w >>= λ y. method_over a cond y ] ≡ with_other a cond o
  other_is a cond None = refl
  other_is a cond (Some w) = refl

  pub method_bound : (a : DataArray) (args : Args) (vs : List (Option of.Value)) → bound two (given nodes args) ≡ Ok vs → where_method a (given nodes args) ≡ method_told nodes a args
  unfolding where_method method_told
  method_bound a args vs told =
      ap (λ r. r >>= λ vs. required (argument vs 0) >>= λ c. as_condition c >>= λ cond. elim (option vs 1) as (λ o. Result DataArray Fault) [ None ↦ Err WouldPromote | Some w ↦ as_branch w >>= λ y. method_over a cond y ]) told
      ∙ (λ i. required (argument vs 0) >>= λ c. as_condition c >>= λ cond. other_is a cond (option vs 1) i)
      ∙ (λ i. required (argument_is two 0 args vs (lit< tt) told i) >>= λ c. as_condition c >>= λ cond. with_other a cond (given_value (argument_is two 1 args vs (lit< tt) told i)))

  pub function_unbound : {A : Type 0} (view : A → List (Option of.Value)) (args : Args) (e : CallFault) → Answers view (Err e) (bound three (given nodes args)) → Fails e (where_called (given nodes args))
  unfolding where_called
  function_unbound view args e h =
      first_fails view e (bound three (given nodes args)) (λ vs. required (argument vs 0) >>= λ c. required (argument vs 1) >>= λ v. required (argument vs 2) >>= λ w. as_condition c >>= λ cond. as_branch v >>= λ x. as_branch w >>= λ y. function_over cond x y) h

  pub method_unbound : {A : Type 0} (view : A → List (Option of.Value)) (a : DataArray) (args : Args) (e : CallFault) → Answers view (Err e) (bound two (given nodes args)) → Fails e (where_method a (given nodes args))
  unfolding where_method
  method_unbound view a args e h =
      first_fails view e (bound two (given nodes args)) (λ vs. required (argument vs 0) >>= λ c. as_condition c >>= λ cond. elim (option vs 1) as (λ o. Result DataArray Fault) [ None ↦ Err WouldPromote | Some w ↦ as_branch w >>= λ y. method_over a cond y ]) h

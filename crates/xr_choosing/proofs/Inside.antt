-- An argument is what the parameter's place or name says, and one of the plan.
use Rattle.std.proofs.Common.{◌≡◌, Bor, ℕ, Bool, true, false, List, [], ◌∷◌, map, All, get_or, zero, suc, Option, Some, None, Ok, Err, option_map, sym, ap, subst, ◌∙◌}
use Rattle.std.specs.Prelude.{if◌then◌else◌, MatchOption, ⊤}
use Rattle.std.specs.Str.{bytes_eq}
use Rattle.std.proofs.lemmas.List.Elements.{All-head, All-tail}
use Rattle.xr_types.specs.declared.text.TextBytes.{TextBytes}
use Rattle.xr_types.specs.declared.fault.Fault.TheVariants.{BadArgument}
use Rattle.xr_arrays.specs.declared.node.Node.{Node}
use Rattle.xr_defs.specs.Building.{required}
use Rattle.xr_values.specs.declared.value.Value.{Value}
use Rattle.xr_values.specs.declared.args.Args.{Args}
use Rattle.xr_values.specs.Meaning.{meaning, AreArgsIn, IsEntryIn, IsValueIn}
use Rattle.xr_choosing.specs.Held.{held, keyword_held}

abbrev now : Bor Value → Value
now v = v.now

pub given_there : (nodes : List Node) (o : Option (Bor Value)) (h : Option Value) (v : Bor Value) → option_map (λ (w : Bor Value). w.now) o ≡ h → o ≡ Some v → required (option_map (meaning nodes) h) ≡ Ok (meaning nodes v.now)
given_there nodes o h v is some = ap (λ x. required (option_map (meaning nodes) x)) (sym is ∙ ap (option_map now) some)

pub not_given : (nodes : List Node) (o : Option (Bor Value)) (h : Option Value) → option_map (λ (w : Bor Value). w.now) o ≡ h → o ≡ None → required (option_map (meaning nodes) h) ≡ Err BadArgument
not_given nodes o h is none = ap (λ x. required (option_map (meaning nodes) x)) (sym is ∙ ap (option_map now) none)

keyword_inside : (nodes : List Node) (name : List ℕ) (kvs : List (TextBytes × Value)) → All (IsEntryIn nodes) kvs → MatchOption (keyword_held name kvs) ⊤ (IsValueIn nodes)
keyword_inside nodes name [] all = tt
keyword_inside nodes name (kv ∷ kvs) all = by (bytes_eq kv.0 name) (keyword_inside nodes name kvs (All-tail (IsEntryIn nodes) kv kvs all))
  where
    by : (b : Bool) → MatchOption (keyword_held name kvs) ⊤ (IsValueIn nodes) → MatchOption (if b then Some kv.1 else keyword_held name kvs) ⊤ (IsValueIn nodes)
    by true rest = All-head (IsEntryIn nodes) kv kvs all
    by false rest = rest

plain_inside : (nodes : List Node) (place : ℕ) (vs : List Value) (o : Option Value) → All (IsValueIn nodes) vs → MatchOption o ⊤ (IsValueIn nodes) → MatchOption (get_or (map Some vs) place o) ⊤ (IsValueIn nodes)
plain_inside nodes place [] o all rest = rest
plain_inside nodes zero (v ∷ vs) o all rest = All-head (IsValueIn nodes) v vs all
plain_inside nodes (suc k) (v ∷ vs) o all rest = plain_inside nodes k vs o (All-tail (IsValueIn nodes) v vs all) rest

pub held_inside : (nodes : List Node) (place : ℕ) (name : List ℕ) (args : Args) (o : Option (Bor Value)) (v : Bor Value) → option_map (λ (w : Bor Value). w.now) o ≡ held place name args → o ≡ Some v → AreArgsIn nodes args → IsValueIn nodes v.now
held_inside nodes place name args o v is some are =
    subst (λ h. MatchOption h ⊤ (IsValueIn nodes)) (sym is ∙ ap (option_map now) some) (plain_inside nodes place args.plain.items (keyword_held name args.keyed.items) are.plain (keyword_inside nodes name args.keyed.items are.keyed))

-- Positions of dimensions, put one behind the other.
use Rattle.std.proofs.Common.{◌≡◌, ℕ, List, [], ◌∷◌, ◌++◌, map, Result, Ok, sym, ap, ◌∙◌}
use Rattle.std.proofs.lemmas.List.{append-nil, map-append}
use Rattle.xr_types.specs.Results.{◌>>=◌}
use Rattle.xr_types.specs.declared.fault.Fault.{Fault}
use Rattle.xr_types.specs.declared.text.TextBytes.{TextBytes}
use Rattle.xr_arrays.specs.declared.node.Node.{Node}
use Rattle.xr_defs.specs.Meanings as of
use Rattle.xr_values.specs.declared.value.Value.{Value}
use Rattle.xr_values.specs.Meaning.{with_key}
use Rattle.xr_indexing.specs.Choices.{behind}
use Rattle.xr_indexing.proofs.Loops.{behind_both}

pub put_behind : (nodes : List Node) (out : List (TextBytes × Value)) (kv : TextBytes × Value) (r : Result (List (List ℕ × of.Value)) Fault)
    → behind (map (with_key nodes) out) (r >>= λ more. Ok (with_key nodes kv ∷ more)) ≡ behind (map (with_key nodes) (out ++ kv ∷ [])) r
put_behind nodes out kv r = behind_both (map (with_key nodes) out) (with_key nodes kv) r ∙ ap (λ kvs. behind kvs r) (sym (map-append (with_key nodes) out (kv ∷ [])))

pub none_behind : (nodes : List Node) (out : List (TextBytes × Value)) → behind (map (with_key nodes) out) (Ok []) ≡ Ok (map (with_key nodes) out)
none_behind nodes out = ap Ok (append-nil (map (with_key nodes) out))

-- Lists and tables of values stand for the same while the plan grows.
use Rattle.std.proofs.Common.{◌≡◌, List, All, ap}
use Rattle.std.proofs.lemmas.List.Elements.{All-weaker}
use Rattle.xr_types.specs.declared.text.TextBytes.{TextBytes}
use Rattle.xr_arrays.specs.declared.node.Node.{Node}
use Rattle.xr_defs.specs.Meanings.{NoValue, NoEntry}
use Rattle.plan_core.specs.Plans.{Grows}
use Rattle.xr_values.specs.declared.value.Value.{Value}
use Rattle.xr_values.specs.Meaning.{values, entries, all_values, all_entries, IsValueIn, IsEntryIn}
use Rattle.xr_values.proofs.Meaning.{meanings_kept, keyed_kept, stays_value}

pub values_kept : (old new : List Node) (vs : List Value) → Grows old new → All (IsValueIn old) vs → all_values new vs ≡ all_values old vs
unfolding all_values
values_kept old new vs grows are = ap (values NoValue) (meanings_kept old new vs grows are)

pub entries_kept : (old new : List Node) (es : List (TextBytes × Value)) → Grows old new → All (IsEntryIn old) es → all_entries new es ≡ all_entries old es
unfolding all_entries
entries_kept old new es grows are = ap (entries NoEntry) (keyed_kept old new es grows are)

pub stay_entries : (old new : List Node) (es : List (TextBytes × Value)) → Grows old new → All (IsEntryIn old) es → All (IsEntryIn new) es
stay_entries old new es grows are = All-weaker (IsEntryIn old) (IsEntryIn new) (λ kv. stays_value old new kv.1 grows) es are

use Rattle.std.proofs.Common.{◌≡◌, ℕ, List, length, take, All}
use Rattle.xr_arrays.specs.declared.node.Node.{Node}
use Rattle.plan_live.specs.Live.{IsLive}
use Rattle.xr_values.specs.Meaning.{IsValueIn, IsEntryIn}
use Rattle.values_live.specs.Marked.{IsValueLive, IsEntryLive}
use Rattle.values_live.proofs.mark.+mark_value.Given as goal

abbrev pub invariant-loop-item : goal.invariant-loop-item
invariant-loop-item l = record {
  marked : (nodes : List Node) → length nodes ≡ length l.fn.live → All (IsValueIn nodes) l.item-items → All (IsValueLive l.live) (take l.item-index l.item-items);
  stay : (k : ℕ) → IsLive l.fn.live k → IsLive l.live k;
}

abbrev pub invariant-loop-entry : goal.invariant-loop-entry
invariant-loop-entry l = record {
  marked : (nodes : List Node) → length nodes ≡ length l.fn.live → All (IsEntryIn nodes) l.entry-items → All (IsEntryLive l.live) (take l.entry-index l.entry-items);
  stay : (k : ℕ) → IsLive l.fn.live k → IsLive l.live k;
}

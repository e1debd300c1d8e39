use Rattle.xr_building.proofs.Common.{after, all_of, check_put, drop, frame_of, ◌≡◌}
use Rattle.xr_building.proofs.draft.with_puts.Given as goal

abbrev pub invariant-loop-put : goal.invariant-loop-put
invariant-loop-put l = (after (frame_of l.draft) (drop l.put-index l.puts) ≡ after (frame_of l.fn.draft) l.puts) × (all_of check_put (drop l.put-index l.puts) ≡ all_of check_put l.puts)

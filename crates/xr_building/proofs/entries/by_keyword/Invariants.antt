use Rattle.xr_building.proofs.Common.{drop, keyword_held, ◌≡◌}
use Rattle.xr_building.proofs.entries.by_keyword.Given as goal

abbrev pub invariant-loop-entry : goal.invariant-loop-entry
invariant-loop-entry l = keyword_held l.name l.keyed ≡ keyword_held l.name (drop l.entry-index l.keyed)

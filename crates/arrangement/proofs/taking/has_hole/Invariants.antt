use Rattle.std.proofs.Common.{◌≡◌, drop, is_none}
use Rattle.std.specs.List.{list_any}
use Rattle.arrangement.proofs.taking.has_hole.Given as goal

abbrev pub invariant-loop-source : goal.invariant-loop-source
invariant-loop-source l = list_any is_none (drop l.source-index l.from) ≡ list_any is_none l.from

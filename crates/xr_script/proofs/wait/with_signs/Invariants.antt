use Rattle.std.proofs.Common.{◌≡◌, reverse, length}
use Rattle.xr_syntax.specs.Syntax.{tree_of}
use Rattle.xr_grammar.specs.Machine.{signed}
use Rattle.xr_script.proofs.wait.with_signs.Given as goal

abbrev pub invariant-loop-op : goal.invariant-loop-op
invariant-loop-op l = signed (reverse l.signs.items) (tree_of l.e) ≡ signed (reverse l.fn.signs.items) (tree_of l.fn.e)

abbrev pub decreases-loop-op : goal.decreases-loop-op
decreases-loop-op l = length l.signs.items

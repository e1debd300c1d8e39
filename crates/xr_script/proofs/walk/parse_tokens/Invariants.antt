use Rattle.xr_syntax.specs.Scripts.{terminals}
use Rattle.xr_grammar.proofs.Reading.{IsRead}
use Rattle.xr_script.specs.Progress.{spot_of}
use Rattle.xr_script.proofs.walk.parse_tokens.Given as goal

abbrev pub invariant-loop-i : goal.invariant-loop-i
invariant-loop-i l = IsRead (terminals l.scan.tokens) l.i (spot_of l.walk.progress) l.walk.tally

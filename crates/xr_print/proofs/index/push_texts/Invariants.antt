use Rattle.std.proofs.Common.{◌≡◌, ◌++◌, map, drop}
use Rattle.xr_defs.specs.Text.{after_blanks, quoted}
use Rattle.xr_print.proofs.index.push_texts.Given as goal

abbrev pub invariant-loop-text : goal.invariant-loop-text
invariant-loop-text l = l.out.items ++ after_blanks (map quoted (drop l.text-index l.texts)) ≡ l.fn.out.items ++ after_blanks (map quoted l.texts)

use Rattle.std.proofs.Common.{◌≡◌, drop, length, map}
use Rattle.std.specs.Prelude.{max, fold}
use Rattle.xr_encode.proofs.name.text_width.Given as goal

abbrev pub invariant-loop-text : goal.invariant-loop-text
invariant-loop-text l = fold max l.width (map length (drop l.text-index l.texts)) ≡ fold max 1 (map length l.texts)

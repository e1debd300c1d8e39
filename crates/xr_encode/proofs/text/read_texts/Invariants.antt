use Rattle.std.proofs.Common.{take}
use Rattle.xr_encode.specs.Texts.{AreBytes}
use Rattle.xr_encode.proofs.text.read_texts.Given as goal

abbrev pub invariant-loop-text : goal.invariant-loop-text
invariant-loop-text l = AreBytes (take l.text-index l.texts)

use Rattle.std.proofs.Common.{◌≡◌, ◌++◌, drop}
use Rattle.std.specs.Prelude.{flat_map}
use Rattle.xr_defs.specs.Encoding.{filled_up}
use Rattle.xr_encode.proofs.text.texts_bytes.Given as goal

abbrev pub invariant-loop-text : goal.invariant-loop-text
invariant-loop-text l = l.out.items ++ flat_map (filled_up l.width) (drop l.text-index l.texts) ≡ flat_map (filled_up l.width) l.texts

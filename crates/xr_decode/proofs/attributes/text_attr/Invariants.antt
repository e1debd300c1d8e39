use Rattle.std.proofs.Common.{◌≡◌, drop}
use Rattle.xr_defs.specs.Decoding.{text_attr}
use Rattle.xr_decode.proofs.attributes.text_attr.Given as goal

abbrev pub invariant-loop-attr : goal.invariant-loop-attr
invariant-loop-attr l = text_attr l.name (drop l.attr-index l.attrs) ≡ text_attr l.name l.attrs

use Rattle.std.proofs.Common.{◌≡◌, ◌++◌, drop}
use Rattle.xr_defs.specs.Decoding.{without_text_attr}
use Rattle.xr_decode.proofs.attributes.copy_without.Given as goal

abbrev pub invariant-loop-attr : goal.invariant-loop-attr
invariant-loop-attr l = l.copies ++ without_text_attr l.name (drop l.attr-index l.attrs) ≡ without_text_attr l.name l.attrs

use Rattle.std.proofs.Common.{◌≡◌, drop}
use Rattle.std.specs.Prelude.{find}
use Rattle.xr_defs.specs.Decoding.{is_attr}
use Rattle.xr_encode.proofs.fill.attr_named.Given as goal

abbrev pub invariant-loop-attr : goal.invariant-loop-attr
invariant-loop-attr l = find (is_attr l.name) (drop l.attr-index l.attrs) ≡ find (is_attr l.name) l.attrs

use Rattle.std.proofs.Common.{◌≡◌, drop}
use Rattle.std.specs.List.{list_any}
use Rattle.xr_defs.specs.Decoding.{is_attr}
use Rattle.xr_encode.proofs.check.has_attr.Given as goal

abbrev pub invariant-loop-attr : goal.invariant-loop-attr
invariant-loop-attr l = list_any (is_attr l.name) (drop l.attr-index l.attrs) ≡ list_any (is_attr l.name) l.attrs

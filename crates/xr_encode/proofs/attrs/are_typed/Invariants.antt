use Rattle.std.proofs.Common.{◌≡◌, drop}
use Rattle.std.specs.List.{list_all}
use Rattle.xr_encode.specs.Attributes.{is_typed}
use Rattle.xr_encode.proofs.attrs.are_typed.Given as goal

abbrev pub invariant-loop-attr : goal.invariant-loop-attr
invariant-loop-attr l = list_all (is_typed l.version l.fill) (drop l.attr-index l.attrs) ≡ list_all (is_typed l.version l.fill) l.attrs

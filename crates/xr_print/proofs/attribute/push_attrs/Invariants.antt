use Rattle.std.proofs.Common.{◌≡◌, ◌++◌, drop}
use Rattle.std.specs.List.{flat_map}
use Rattle.xr_defs.specs.Printing.{attr_line}
use Rattle.xr_print.proofs.attribute.push_attrs.Given as goal

abbrev pub invariant-loop-attr : goal.invariant-loop-attr
invariant-loop-attr l = l.out.items ++ flat_map attr_line (drop l.attr-index l.attrs) ≡ l.fn.out.items ++ flat_map attr_line l.attrs

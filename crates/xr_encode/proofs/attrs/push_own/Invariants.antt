use Rattle.std.proofs.Common.{◌≡◌, ◌++◌, map, drop}
use Rattle.xr_encode.specs.Attributes.{written_anew}
use Rattle.xr_encode.proofs.attrs.push_own.Given as goal

abbrev pub invariant-loop-attr : goal.invariant-loop-attr
invariant-loop-attr l = l.attrs ++ map (written_anew l.kind l.fill) (drop l.attr-index l.own) ≡ l.fn.attrs ++ map (written_anew l.kind l.fill) l.own

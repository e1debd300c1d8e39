use Rattle.std.proofs.Common.{◌≡◌, ◌∷◌, drop}
use Rattle.std.specs.List.{join_with_byte}
use Rattle.xr_encode.proofs.attrs.joined.Given as goal

abbrev pub invariant-loop-name : goal.invariant-loop-name
invariant-loop-name l = join_with_byte 32 (l.text.items ∷ drop l.name-index l.rest) ≡ join_with_byte 32 (l.first ∷ l.rest)

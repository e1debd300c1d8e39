use Rattle.std.proofs.Common.{◌≡◌, ◌-◌, ◌*◌, drop, is_some}
use Rattle.xr_decode.proofs.Rows.{texts_from}
use Rattle.xr_decode.proofs.text.are_texts.Given as goal

abbrev pub invariant-loop-i : goal.invariant-loop-i
invariant-loop-i l = record {
  rest : l.rest ≡ drop (l.i * l.width) l.raw;
  texts : is_some (texts_from l.width l.raw l.i (l.count - l.i)) ≡ is_some (texts_from l.width l.raw 0 l.count);
}

use Rattle.std.proofs.Common.{◌≡◌, ◌-◌, ◌*◌, ◌++◌, drop, option_map}
use Rattle.xr_decode.proofs.Rows.{texts_from}
use Rattle.xr_decode.proofs.text.texts_in.Given as goal

abbrev pub invariant-loop-i : goal.invariant-loop-i
invariant-loop-i l = record {
  rest : l.rest ≡ drop (l.i * l.width) l.raw;
  texts : option_map (λ ts. l.texts ++ ts) (texts_from l.width l.raw l.i (l.count - l.i)) ≡ texts_from l.width l.raw 0 l.count;
}

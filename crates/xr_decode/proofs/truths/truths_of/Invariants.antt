use Rattle.std.proofs.Common.{◌≡◌, ◌<◌, ℕ, pos, length, get_or}
use Rattle.xr_defs.specs.Decoding.{truth}
use Rattle.xr_decode.proofs.truths.truths_of.Given as goal

abbrev pub invariant-loop-i : goal.invariant-loop-i
invariant-loop-i l = record {
  long : length l.truths.items ≡ length l.numbers;
  truths : (i : ℕ) → i < l.i → pos (get_or l.truths.items i 0) ≡ truth (get_or l.numbers i (pos 0));
  range : (i : ℕ) → i < l.i → get_or l.truths.items i 0 < 2;
}

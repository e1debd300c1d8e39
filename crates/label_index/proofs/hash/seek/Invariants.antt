use Rattle.std.proofs.Common.{◌≡◌, drop}
use Rattle.label_index.specs.Slots.{shown, holds, seek}
use Rattle.label_index.proofs.hash.seek.Given as goal

abbrev pub invariant-loop-slot : goal.invariant-loop-slot
invariant-loop-slot l = seek (holds (shown l.numbers) l.number) (drop l.slot-index l.slots) ≡ seek (holds (shown l.numbers) l.number) l.slots

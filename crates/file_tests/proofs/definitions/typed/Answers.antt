use Rattle.std.proofs.Common.{refl}
use Rattle.file_tests.proofs.definitions.typed.Goals as goal

pub of-requires-clause-cells : goal.of-requires-clause-cells
of-requires-clause-cells c = rw (c.in_ok-from_slice.ensures, c.in_ok-shape.ensures) refl

pub of-requires-clause-mask : goal.of-requires-clause-mask
of-requires-clause-mask c = rw (c.in_ok-mask.ensures, c.in_ok-shape.ensures) refl

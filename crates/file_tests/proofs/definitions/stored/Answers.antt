use Rattle.std.proofs.Common.{refl}
use Rattle.file_tests.proofs.definitions.stored.Goals as goal

pub of-requires : goal.of-requires
of-requires c = record {
  whole = refl;
  long = rw (c.in_ok-bytes.ensures, c.in_ok-shape.ensures) refl;
}

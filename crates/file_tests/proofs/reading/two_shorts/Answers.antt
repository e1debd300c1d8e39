use Rattle.std.proofs.Common.{refl}
use Rattle.file_tests.proofs.reading.two_shorts.Goals as goal

pub returns-clause-kind : goal.returns-clause-kind
returns-clause-kind c = refl

pub returns-clause-values : goal.returns-clause-values
returns-clause-values c = rw c.in_ok-copy_from_slice.ensures refl

use Rattle.std.specs.Prelude.{pos}
use Rattle.strided_block.proofs.block.of_slice.Goals as goal

pub copied-requires : goal.copied-requires
copied-requires g c = g.T.Elem.of (pos 0)

use Rattle.std.specs.Prelude.{slice_set}
use Rattle.strided_block.proofs.Lines.{set_point}
use Rattle.fold_kernel.proofs.line.show_line.Goals as goal

pub returns-else-out-clause-bytes : goal.returns-else-out-clause-bytes
returns-else-out-clause-bytes c = λ j lt. c.args.out.now.clear c.if-out.false (slice_set c.args.at.now c.args.axis j) (set_point _ _ _ _ c.requires.at lt)

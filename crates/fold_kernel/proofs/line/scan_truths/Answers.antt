use Rattle.std.proofs.Common.{get_or}
use Rattle.strided_block.specs.Typed.{truth}
use Rattle.strided_block.specs.Views.{shown, cell_at}
use Rattle.std.specs.Prelude.{slice_set}
use Rattle.strided_block.proofs.Lines.{line_size}
use Rattle.fold_kernel.proofs.Lines.{line_sums}
use Rattle.fold_kernel.proofs.line.scan_truths.Goals as goal

pub returns-clause-sums : goal.returns-clause-sums
returns-clause-sums g c =
    line_sums truth g.S.Elem.kind g.S.Elem.number c.args.start (shown c.args.a.now) (shown c.args.mask.now) c.args.mask.now.shape c.args.a.now.shape c.args.axis (get_or c.args.out.now.shape c.args.axis 0)
    (λ j. cell_at c.scan_line.new.out (slice_set c.args.at.now c.args.axis j)) c.requires.same (line_size _ _ _ c.requires.line) c.scan_line.ensures.cells

use Rattle.std.proofs.Common.{◌≡◌, length, refl, ap, ◌∙◌, arith}
use Rattle.std.specs.Prelude.{Some}
use Rattle.strided_block.proofs.Holdings.{one_run, seen_long, put_changes, put_at}
use Rattle.strided_block.proofs.runs.put_cell.Goals as goal

pub run_mut-requires : goal.run_mut-requires
run_mut-requires g c = (c.requires.0, one_run _ _ c.requires.1)

module _ (g : _) (c : goal.After-cells-1 g) where
  long : length c.put_first.new.all ≡ 1
  long = c.put_first.ensures.long ∙ seen_long c.args.cells.now.slots c.args.at 1 c.run_mut.result.now (one_run _ _ c.requires.1).0 c.run_mut.ensures.value

pub returns-clause-others : goal.returns-clause-others
returns-clause-others g c = put_changes c.args.cells.now.slots _ c.args.at 1 (one_run _ _ c.requires.1) c.put_first.new.all (long g c) refl

pub returns-clause-cell : goal.returns-clause-cell
returns-clause-cell g c = put_at c.args.cells.now.slots _ c.args.at 1 (one_run _ _ c.requires.1) c.put_first.new.all (long g c) refl 0 c.args.at c.args.item (omega arith) (omega arith) ∙ ap Some (c.put_first.ensures.first c.args.item)

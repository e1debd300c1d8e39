use Rattle.std.proofs.Common.{◌≡◌, length, refl, ap, ◌∙◌, arith}
use Rattle.std.specs.Prelude.{Some}
use Rattle.strided_block.proofs.Holdings.{seen_long, put_changes, put_cell_at}
use Rattle.strided_block.proofs.runs.fill_run.Goals as goal

module _ (g : _) (c : goal.After-cells-1 g) where
  long : length c.fill_slice.new.all ≡ c.args.count
  long = c.fill_slice.ensures.long ∙ seen_long c.args.cells.now.slots c.args.at c.args.count c.run_mut.result.now c.requires.1.0 c.run_mut.ensures.value

pub returns-clause-others : goal.returns-clause-others
returns-clause-others g c = put_changes c.args.cells.now.slots _ c.args.at c.args.count c.requires.1 c.fill_slice.new.all (long g c) refl

pub returns-clause-cells : goal.returns-clause-cells
returns-clause-cells g c = λ j lt.
    let l = long g c in
    put_cell_at c.args.cells.now.slots _ c.args.at c.args.count c.requires.1 c.fill_slice.new.all l refl j c.args.item lt ∙ ap Some (c.fill_slice.ensures.cells j c.args.item (omega arith))

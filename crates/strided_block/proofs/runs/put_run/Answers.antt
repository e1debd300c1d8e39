use Rattle.std.proofs.Common.{length, get_or, refl, ap, ◌∙◌}
use Rattle.std.specs.Prelude.{Some}
use Rattle.strided_block.proofs.Holdings.{seen_long, put_changes, put_cell_at}
use Rattle.strided_block.proofs.runs.put_run.Goals as goal

pub copy_slice-requires : goal.copy_slice-requires
copy_slice-requires g c = seen_long c.args.cells.now.slots c.args.at (length c.args.items.now) c.run_mut.result.now c.requires.1.0 c.run_mut.ensures.value

pub returns-clause-others : goal.returns-clause-others
returns-clause-others g c = put_changes c.args.cells.now.slots _ c.args.at (length c.args.items.now) c.requires.1 c.copy_slice.new.all (ap length c.copy_slice.ensures) refl

pub returns-clause-cells : goal.returns-clause-cells
returns-clause-cells g c = λ j x lt.
    put_cell_at c.args.cells.now.slots _ c.args.at (length c.args.items.now) c.requires.1 c.copy_slice.new.all (ap length c.copy_slice.ensures) refl j x lt ∙ ap (λ l. Some (get_or l j x)) c.copy_slice.ensures

use Rattle.std.proofs.Common.{◌≡◌, ◌+◌, length, get_or, refl, ap, ◌∙◌, arith}
use Rattle.std.specs.Prelude.{Some, None}
use Rattle.strided_block.specs.Typed.{number_or_zero}
use Rattle.strided_block.proofs.Holdings.{seen_long, put_changes, put_cell_at}
use Rattle.strided_block.proofs.runs.put_number_run.Goals as goal

pub put_numbers-requires : goal.put_numbers-requires
put_numbers-requires g c = let l = seen_long c.args.cells.now.slots c.args.at (length c.args.items.now) c.run_mut.result.now c.requires.1.0 c.run_mut.ensures.value in omega arith

module _ (g : _) (c : goal.After-cells-1 g) where
  long : length c.put_numbers.new.all ≡ length c.args.items.now
  long = c.put_numbers.auto.all ∙ seen_long c.args.cells.now.slots c.args.at (length c.args.items.now) c.run_mut.result.now c.requires.1.0 c.run_mut.ensures.value

pub returns-clause-others : goal.returns-clause-others
returns-clause-others g c = put_changes c.args.cells.now.slots _ c.args.at (length c.args.items.now) c.requires.1 c.put_numbers.new.all (long g c) refl

pub returns-clause-cells : goal.returns-clause-cells
returns-clause-cells g c = λ j lt.
    let x = (g.T.Elem.of (number_or_zero (get_or c.args.items.now j None))) in let z : j ≡ 0 + j = omega arith in
    put_cell_at c.args.cells.now.slots _ c.args.at (length c.args.items.now) c.requires.1 c.put_numbers.new.all (long g c) refl j x lt ∙ ap (λ k. Some (get_or c.put_numbers.new.all k x)) z ∙ ap Some (c.put_numbers.ensures.cells j x lt)

use Rattle.std.proofs.Common.{◌≡◌, ◌+◌, length, get_or, refl, ap, ◌∙◌, arith}
use Rattle.std.specs.Prelude.{Some, None}
use Rattle.strided_block.specs.Typed.{mask_byte}
use Rattle.strided_block.proofs.Holdings.{seen_long, put_changes, put_cell_at}
use Rattle.strided_block.proofs.runs.put_byte_run.Goals as goal

pub put_bytes-requires : goal.put_bytes-requires
put_bytes-requires c = let l = seen_long c.args.cells.now.slots c.args.at (length c.args.items.now) c.run_mut.result.now c.requires.1.0 c.run_mut.ensures.value in omega arith

module _ (c : goal.After-cells-1) where
  long : length c.put_bytes.new.all ≡ length c.args.items.now
  long = c.put_bytes.auto.all ∙ seen_long c.args.cells.now.slots c.args.at (length c.args.items.now) c.run_mut.result.now c.requires.1.0 c.run_mut.ensures.value

pub returns-clause-others : goal.returns-clause-others
returns-clause-others c = put_changes c.args.cells.now.slots _ c.args.at (length c.args.items.now) c.requires.1 c.put_bytes.new.all (long c) refl

pub returns-clause-cells : goal.returns-clause-cells
returns-clause-cells c = λ j lt.
    let x = (mask_byte (get_or c.args.items.now j None)) in let z : j ≡ 0 + j = omega arith in
    put_cell_at c.args.cells.now.slots _ c.args.at (length c.args.items.now) c.requires.1 c.put_bytes.new.all (long c) refl j x lt ∙ ap (λ k. Some (get_or c.put_bytes.new.all k x)) z ∙ ap Some (c.put_bytes.ensures.cells j x lt)

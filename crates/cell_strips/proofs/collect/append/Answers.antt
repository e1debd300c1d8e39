use Rattle.std.proofs.Common.{◌∙◌, option_map, sym, ap}
use Rattle.xr_arrays.specs.Arrays.{Array}
use Rattle.cell_strips.proofs.StripLaws.{appended_here}
use Rattle.cell_strips.proofs.collect.append.Goals as goal

pub returns-clause-cells : goal.returns-clause-cells
returns-clause-cells c =
    appended_here c.args.so_far.cells c.parts.result.0.now c.in_ok-cells.cells c.args.so_far.mask (option_map (λ m. m.now) c.parts.result.1) c.in_ok-mask.mask c.count.result c.count-2.result c.args.strip.now.cells
    c.requires.whole.covers c.parts.ensures.covers c.count.ensures c.count-2.ensures c.in_ok-cells.ensures.cells c.in_ok-mask.ensures (ap (λ (a : Array). a.cells) (sym c.in_ok-typed.ensures) ∙ c.parts.ensures.cells)

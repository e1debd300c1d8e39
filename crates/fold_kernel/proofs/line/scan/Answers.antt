use Rattle.std.proofs.Common.{◌≡◌, ◌<◌, ◌+◌, ℤ, get_or, take, refl, sym, ap, subst, ◌∙◌}
use Rattle.std.specs.Prelude.{Some, slice_set}
use Rattle.xr_types.specs.Kinds.{wrap_to}
use Rattle.xr_arrays.specs.Folds.{present, numbers, sum_of, total_kind}
use Rattle.strided_block.specs.Boxes.{plus}
use Rattle.strided_block.specs.Cells.{cell_shown}
use Rattle.strided_block.specs.Views.{cell_at}
use Rattle.strided_block.specs.Typed.{number_held, unless_hidden}
use Rattle.fold_kernel.specs.Lines.{line_cells}
use Rattle.fold_kernel.proofs.Lines.{fold_sums}
use Rattle.fold_kernel.proofs.Scans.{sum_value}
use Rattle.fold_kernel.proofs.line.scan.Goals as goal

pub returns-clause-sums : goal.returns-clause-sums
returns-clause-sums c = λ b first j h lt.
    let box = c.args.out.now.same_box in let p = slice_set c.args.at.now c.args.axis j in
    let low = ap (λ x. x.low) (c.show_line.ensures.place ∙ box) in
    let start : ℤ = wrap_to (total_kind c.args.before.of) (sum_of (numbers (present b))) in
    let is : Some start ≡ c.args.before.value = sym (sum_value c.args.before b c.requires.sum h) in
    let sum = c.scan_into.ensures.sums start is j (subst (λ x. j < get_or x.shape c.args.axis 0) box lt) in
    let cells = take (j + 1) (line_cells (cell_shown c.args.a.now) c.args.a.now.mask.shape c.args.axis) in
    (λ i. unless_hidden (cell_at c.show_line.new.out.mask p) (number_held (c.show_line.ensures.cells i) (plus (low i) p)))
    ∙ (λ i. unless_hidden (c.show_line.ensures.bytes j lt i) (sum i))
    ∙ fold_sums c.args.before b first start cells _ c.requires.sum h is refl

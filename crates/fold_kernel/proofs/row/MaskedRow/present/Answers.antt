use Rattle.std.proofs.Common.{◌≤◌, length, arith, sym}
use Rattle.std.proofs.lemmas.List.{length-take-le}
use Rattle.fold_kernel.proofs.Rows.{length_shown}
use Rattle.fold_kernel.proofs.row.MaskedRow.present.Goals as goal

pub slice_bounds-zeros-end : goal.slice_bounds-zeros-end
slice_bounds-zeros-end g c =
    let within : c.len.result ≤ length c.args.self.mask.now = omega (arith, c.len.ensures, length_shown c.args.self.cells.now c.args.self.mask.now) in
    sym (length-take-le c.len.result c.args.self.mask.now within)

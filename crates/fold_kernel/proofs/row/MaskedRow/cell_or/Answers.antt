use Rattle.std.proofs.Common.{◌≡◌, sym, subst, get_or}
use Rattle.std.specs.Prelude.{Some}
use Rattle.fold_kernel.specs.Rows.{shown, filled}
use Rattle.fold_kernel.proofs.Rows.{filled_at}
use Rattle.fold_kernel.proofs.row.MaskedRow.cell_or.Goals as goal

pub returns : goal.returns
returns g c =
    subst (λ x. Some x ≡ get_or (filled c.args.other (shown c.args.self.cells.now c.args.self.mask.now)) c.args.index (Some x)) (sym c.if_shown.ensures)
    (filled_at c.args.other c.args.self.cells.now c.args.self.mask.now c.args.index _ _ c.requires)

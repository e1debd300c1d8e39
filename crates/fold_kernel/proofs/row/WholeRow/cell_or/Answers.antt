use Rattle.fold_kernel.proofs.Rows.{whole_there}
use Rattle.fold_kernel.proofs.row.WholeRow.cell_or.Goals as goal

pub returns : goal.returns
returns g c = whole_there _ _ _ _ c.requires

use Rattle.row_folds.proofs.Sources.{whole_at}
use Rattle.row_folds.proofs.source.WholeSource.cell.Goals as goal

pub returns : goal.returns
returns g c = whole_at g.T.Elem.number _ _ _ c.requires.inside

use Rattle.std.proofs.Common.{◌<◌, subst}
use Rattle.row_folds.proofs.Sources.{stored_at, stored_length}
use Rattle.row_folds.proofs.source.StoredSource.cell.Goals as goal

pub at-cell-requires : goal.at-cell-requires
at-cell-requires g c = subst (λ n. c.args.index < n) (stored_length g.T.Number.spelt c.args.self.bytes.now (g.F.Fills.numbers c.args.self.fills)) c.requires.inside

pub returns : goal.returns
returns g c = stored_at g.T.Number.spelt c.args.self.bytes.now (g.F.Fills.numbers c.args.self.fills) c.args.index _ c.hide.result c.requires.inside c.at-cell.ensures c.hide.ensures

use Rattle.std.proofs.Common.{◌∷◌, [], get_or, None}
use Rattle.row_folds.proofs.windows.with_behind.Goals as goal

pub returns : goal.returns
returns g c = λ after is. c.combine.ensures ((c.args.position, get_or (g.S.Source.cells c.args.source) c.args.index None) ∷ []) after (c.with_cell.ensures [] c.requires.empty) is

use Rattle.std.proofs.Common.{◌+◌, ◌-◌, ◌*◌, refl}
use Rattle.row_folds.proofs.Tables.{window_row}
use Rattle.row_folds.proofs.windows.absorb_window.Goals as goal

pub returns-clause-row : goal.returns-clause-row
returns-clause-row g c = window_row g.A.Accumulator.Is c.args.rows.now c.give.new.rows c.reaching-reach.new.folds c.args.strip c.reaching-reach.result c.args.row c.args.from c.args.to (c.reaching-reach.result.middle - c.args.from) ((c.reaching-reach.result.middle - c.args.from + 1) * c.args.strip.count) (g.S.Source.cells c.args.source) c.reaching-reach.ensures.hand c.reaching-reach.ensures.reaches refl refl c.give.ensures

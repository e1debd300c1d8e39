use Rattle.xr_arrays.specs.Labels.{labels_of}
use Rattle.label_index.proofs.Cutting.{start_rising, start_falling}
use Rattle.label_index.proofs.between.start.Goals as goal

pub returns-in-Falling-clause-cut : goal.returns-in-Falling-clause-cut
returns-in-Falling-clause-cut c = start_falling (labels_of c.args.list.now) c.args.ranks.now c.args.from.now c.first_rank.result c.count.result c.in-Falling.is c.count.ensures c.first_rank.ensures.bound (c.first_rank.ensures.before, c.first_rank.ensures.behind)

pub returns-in-Rising-clause-cut : goal.returns-in-Rising-clause-cut
returns-in-Rising-clause-cut c = start_rising (labels_of c.args.list.now) c.args.ranks.now c.args.from.now c.first_rank-in-Rising.result c.in-Rising.is (c.first_rank-in-Rising.ensures.before, c.first_rank-in-Rising.ensures.behind)

use Rattle.std.proofs.Common.{rules}
use Rattle.xr_indexing.proofs.Walks.{sliced}
use Rattle.std.proofs.Common.{int_lt, pos}
use Rattle.xr_indexing.proofs.slices.by_step.Goals as goal

pub returns : goal.returns
returns c =
    let e = sliced c.args.size c.end_of-first.result c.end_of-last.result c.unsigned_abs.result c.args.start c.args.stop c.args.step (int_lt c.args.step (pos 0)) (search rules) (search rules) (search rules) (search rules) (search rules) (search rules) (search rules) (search rules) (search rules) (search rules) in
    search rules

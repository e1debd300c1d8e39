use Rattle.std.proofs.Common.{◌∙◌, ap, sym}
use Rattle.group_window.specs.Ranks.{rank}
use Rattle.group_window.proofs.Ranked.{absent_rank, found_rank}
use Rattle.group_window.proofs.groups.rank.Goals as goal

pub returns-in-Ok : goal.returns-in-Ok
returns-in-Ok g c =
    found_rank g.K.Ord.cmp g.met.K.Ord.total c.args.distinct.now c.in-Some.key c.in-Ok.place c.requires.sorted c.in-Ok.ensures.bound c.in-Ok.ensures.ok ∙ ap (rank g.K.Ord.cmp c.args.distinct.now) (sym c.in-Some.is)

pub returns-in-Err : goal.returns-in-Err
returns-in-Err g c =
    absent_rank g.K.Ord.cmp g.met.K.Ord.total c.args.distinct.now c.in-Some.key c.in-Err.field-0 c.requires.sorted c.in-Err.ensures.position ∙ ap (rank g.K.Ord.cmp c.args.distinct.now) (sym c.in-Some.is)

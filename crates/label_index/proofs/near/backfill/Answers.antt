use Rattle.std.proofs.Common.{arith, ◌<◌, length, sym}
use Rattle.xr_arrays.specs.Labels.{labels_of}
use Rattle.label_index.proofs.Nearing.{backfill_none, backfill_one}
use Rattle.label_index.proofs.near.backfill.Goals as goal

pub returns-then-low-count-clause-value : goal.returns-then-low-count-clause-value
returns-then-low-count-clause-value c = sym (backfill_none (labels_of c.args.list.now) c.args.ranks.now c.requires.ranked c.args.label.now (λ k s. c.first_rank-low.ensures.before k (omega arith)))

pub returns-clause-value : goal.returns-clause-value
returns-clause-value c =
    let within : c.first_rank-low.result < length (labels_of c.args.list.now) = omega arith in
    rw (c.position.ensures, c.count-count.ensures) (sym (backfill_one (labels_of c.args.list.now) c.args.ranks.now c.requires.ranked c.args.label.now c.first_rank-low.result c.requires.once within (c.first_rank-low.ensures.behind c.first_rank-low.result (omega arith) within) c.first_rank-low.ensures.before))

use Rattle.std.proofs.Common.{arith, ◌<◌, ◌-◌, sym, ℕ}
use Rattle.xr_arrays.specs.Labels.{labels_of}
use Rattle.label_index.proofs.Nearing.{pad_none, pad_one}
use Rattle.label_index.proofs.near.pad.Goals as goal

pub returns-then-past-eq0-clause-value : goal.returns-then-past-eq0-clause-value
returns-then-past-eq0-clause-value c = sym (pad_none (labels_of c.args.list.now) c.args.ranks.now c.requires.ranked c.args.label.now (λ k s. c.first_rank-past.ensures.behind k (omega arith) s))

pub returns-clause-value : goal.returns-clause-value
returns-clause-value c =
    let past : ℕ = c.first_rank-past.result in
    let some : 0 < past = omega arith in
    rw (c.position.ensures, c.count.ensures) (sym (pad_one (labels_of c.args.list.now) c.args.ranks.now c.requires.ranked c.args.label.now (past - 1) c.requires.once (omega arith) (c.first_rank-past.ensures.before (past - 1) (omega arith)) (λ k s t. c.first_rank-past.ensures.behind k (omega arith) t)))

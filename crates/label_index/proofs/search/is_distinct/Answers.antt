-- Neighbours by rank that differ, and two that don't.
use Rattle.std.proofs.Common.{arith, ◌≡◌, ◌-◌, not, sym, ap, false}
use Rattle.xr_arrays.specs.Labels.{labels_of, same}
use Rattle.label_index.specs.Ranks.{ranked}
use Rattle.label_index.proofs.Searches.{pairs_less}
use Rattle.label_index.proofs.Finding.{repeats_ranked, distinct_ranked}
use Rattle.label_index.proofs.search.is_distinct.Goals as goal

pub returns-then-is_again : goal.returns-then-is_again
returns-then-is_again c = sym (ap not (repeats_ranked (labels_of c.args.list.now) c.args.ranks.now c.requires (c.loop-at.at - 1) c.loop-at.at (omega arith) (omega arith) (cc)))

pub loop-at-preserved : goal.loop-at-preserved
loop-at-preserved c =
    let differs : same (ranked (labels_of c.args.list.now) c.args.ranks.now (c.loop-at.at - 1)) (ranked (labels_of c.args.list.now) c.args.ranks.now c.loop-at.at) ≡ false = cc in
    pairs_less (λ k j. same (ranked (labels_of c.args.list.now) c.args.ranks.now k) (ranked (labels_of c.args.list.now) c.args.ranks.now j)) c.loop-at.at c.loop-at.invariant differs

pub returns : goal.returns
returns c = sym (ap not (distinct_ranked (labels_of c.args.list.now) c.args.ranks.now c.requires (λ k j e s. c.loop-at.invariant k j e (omega arith))))

-- The loop keeps each pair so far; a pair that fails shows the whole to fail.
use Rattle.std.proofs.Common.{arith, ◌≡◌, ◌-◌, suc, sym, subst, true, false}
use Rattle.xr_arrays.specs.Labels.{labels_of, label_at}
use Rattle.xr_arrays.proofs.LabelPlaces.{each_next_holds, each_next_fails}
use Rattle.label_index.specs.Ranks.{next_way}
use Rattle.label_index.proofs.Searches.{pairs_more}
use Rattle.label_index.proofs.scan.is_chain.Goals as goal

pub returns-then-not-steps : goal.returns-then-not-steps
returns-then-not-steps c =
    let e : c.loop-at.at ≡ suc (c.loop-at.at - 1) = omega arith in
    let fails : next_way c.args.falling (label_at (labels_of c.args.list.now) (c.loop-at.at - 1)) (label_at (labels_of c.args.list.now) c.loop-at.at) ≡ false = cc in
    sym (each_next_fails (next_way c.args.falling) (labels_of c.args.list.now) (c.loop-at.at - 1) (omega arith) (subst (λ m. next_way c.args.falling (label_at (labels_of c.args.list.now) (c.loop-at.at - 1)) (label_at (labels_of c.args.list.now) m) ≡ false) e fails))

pub loop-at-preserved : goal.loop-at-preserved
loop-at-preserved c =
    let holds : next_way c.args.falling (label_at (labels_of c.args.list.now) (c.loop-at.at - 1)) (label_at (labels_of c.args.list.now) c.loop-at.at) ≡ true = cc in
    pairs_more (λ k j. next_way c.args.falling (label_at (labels_of c.args.list.now) k) (label_at (labels_of c.args.list.now) j)) c.loop-at.at c.loop-at.invariant holds

pub returns : goal.returns
returns c = sym (each_next_holds (next_way c.args.falling) (labels_of c.args.list.now) (λ k j e s. c.loop-at.invariant k j e (omega arith)))

use Rattle.std.proofs.Common.{arith, ◌≡◌, ◌<◌, ◌+◌, ◌-◌, ◌/◌, length, true, false, ℕ}
use Rattle.xr_arrays.specs.Labels.{labels_of}
use Rattle.label_index.specs.Ranks.{ranked, stands_before}
use Rattle.label_index.proofs.Searches.{below_step, above_step}
use Rattle.label_index.proofs.search.first_rank.Goals as goal

pub loop-low-preserved-then-is_before : goal.loop-low-preserved-then-is_before
loop-low-preserved-then-is_before c =
    let middle : ℕ = c.loop-low.low + (c.loop-low.high - c.loop-low.low) / 2 in
    let within : middle < length (labels_of c.args.list.now) = omega arith in
    let here : stands_before c.args.past (ranked (labels_of c.args.list.now) c.args.ranks.now middle) c.args.label.now ≡ true = cc in
    (omega arith, c.loop-low.invariant.1, below_step (labels_of c.args.list.now) c.args.ranks.now c.requires c.args.past c.args.label.now middle within here, c.loop-low.invariant.3)

pub loop-low-preserved : goal.loop-low-preserved
loop-low-preserved c =
    let middle : ℕ = c.loop-low.low + (c.loop-low.high - c.loop-low.low) / 2 in
    let within : middle < length (labels_of c.args.list.now) = omega arith in
    let here : stands_before c.args.past (ranked (labels_of c.args.list.now) c.args.ranks.now middle) c.args.label.now ≡ false = cc in
    (omega arith, omega arith, c.loop-low.invariant.2, above_step (labels_of c.args.list.now) c.args.ranks.now c.requires c.args.past c.args.label.now middle within here)

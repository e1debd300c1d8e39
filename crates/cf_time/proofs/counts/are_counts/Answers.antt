use Rattle.std.proofs.Common.{◌≡◌, ◌<◌, ◌+◌, ◌&&◌, ℕ, ℤ, Bool, true, false, List, length, get_or, drop, pos, w64, FitsSigned, sym, ap, ◌∙◌, rules}
use Rattle.std.specs.List.{list_all}
use Rattle.std.proofs.lemmas.Int.{to_z-of_z}
use Rattle.std.proofs.lemmas.List.{at_drop_more, at_drop_all}
use Rattle.xr_times.specs.Counts.{is_count, are_counts}
use Rattle.cf_time.proofs.counts.are_counts.Goals as goal

at_label : (f : ℤ → Bool) (ts : List ℤ) (i : ℕ) (t : ℤ) (b : Bool) → i < length ts → b ≡ f (get_or ts i t) → list_all f (drop i ts) ≡ list_all f ts → (b && list_all f (drop (i + 1) ts)) ≡ list_all f ts
at_label f ts i t b lt is whole = ap (λ a. a && list_all f (drop (i + 1) ts)) is ∙ sym (at_drop_more (list_all f) ts i t lt) ∙ whole

pub loop-label-preserved : goal.loop-label-preserved
loop-label-preserved c =
    let label = get_or c.args.labels.now c.loop-label.label-index (pos 0) in
    let fits : FitsSigned w64 label = search rules in
    let reference : FitsSigned w64 c.args.reference = c.ranges.reference in
    let is = simp to_z-of_z at (sym c.if-not-is_count.false ∙ c.is_count.ensures) in
    let whole = simp to_z-of_z at c.loop-label.invariant in
    simp to_z-of_z (at_label (λ t. is_count c.args.unit c.args.reference t) c.args.labels.now c.loop-label.label-index (pos 0) true c.loop-label-test.true is whole)

pub returns-then-not-is_count : goal.returns-then-not-is_count
returns-then-not-is_count c =
    let label = get_or c.args.labels.now c.loop-label.label-index (pos 0) in
    let fits : FitsSigned w64 label = search rules in
    let reference : FitsSigned w64 c.args.reference = c.ranges.reference in
    let is = simp to_z-of_z at (sym c.if-not-is_count.true ∙ c.is_count.ensures) in
    let whole = simp to_z-of_z at c.loop-label.invariant in
    at_label (λ t. is_count c.args.unit c.args.reference t) c.args.labels.now c.loop-label.label-index (pos 0) false c.loop-label-test.true is whole

pub returns : goal.returns
returns c =
    let reference : FitsSigned w64 c.args.reference = c.ranges.reference in
    let whole = simp to_z-of_z at c.loop-label.invariant in
    sym (at_drop_all (are_counts c.args.unit c.args.reference) c.args.labels.now c.loop-label.label-index c.loop-label-test.false) ∙ whole

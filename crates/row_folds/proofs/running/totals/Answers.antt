use Rattle.std.proofs.Common.{◌<◌, ◌+ℤ◌, ◌∙◌, ◌++◌, ◌∷◌, [], None, pos, refl, sym, ap, subst, arith, rules, get_or, cond, nat_lt, ◌-◌, ◌%◌, SFits, List, ℤ}
use Rattle.std.specs.Int.{int_wrap, w64}
use Rattle.std.proofs.lemmas.Int.{to_z-of_z}
use Rattle.xr_types.specs.Points.{size}
use Rattle.plan_core.proofs.Tabs.{place_below}
use Rattle.row_folds.specs.Rows.{or_number}
use Rattle.row_folds.proofs.SumsTo.{axis_some, row_here, block_here, sums_more, before_is, counted}
use Rattle.row_folds.proofs.running.totals.Goals as goal

pub returns-then-count-eq0-clause-sums : goal.returns-then-count-eq0-clause-sums
returns-then-count-eq0-clause-sums g c = λ p here.
    let below = place_below c.args.shape.now p here in
    let n = c.points-count.ensures in
    let none = c.if-count-eq0.true in
    absurd (omega (arith, below, n, none))

pub sum_before-before-requires-clause-row : goal.sum_before-before-requires-clause-row
sum_before-before-requires-clause-row g c =
    let n = c.points-count.ensures in
    let other = c.if-count-eq0.false in
    let some : 0 < size c.args.shape.now = omega (arith, n, other) in
    let e = row_here c.args.shape.now c.split_at-2.result.1.now c.args.axis c.points-row.result some c.requires.few c.split_at-2.ensures.back c.points-row.ensures in
    let both = (axis_some c.args.shape.now c.args.axis c.requires.axis some).1 in
    omega (arith, e, both)

pub next-inside-requires : goal.next-inside-requires
next-inside-requires g c =
    let n = c.points-count.ensures in
    let other = c.if-count-eq0.false in
    let some : 0 < size c.args.shape.now = omega (arith, n, other) in
    let e = row_here c.args.shape.now c.split_at-2.result.1.now c.args.axis c.points-row.result some c.requires.few c.split_at-2.ensures.back c.points-row.ensures in
    let b = block_here c.args.shape.now c.split_at.result.1.now c.args.axis c.points-block.result c.points-row.result c.requires.axis some c.requires.few c.split_at.ensures.back c.points-block.ensures e in
    let is = c.loop-i.invariant.inside in
    let more = b.1 in
    omega (arith, is, more)

pub loop-i-preserved : goal.loop-i-preserved
loop-i-preserved g c =
    let n = c.points-count.ensures in
    let other = c.if-count-eq0.false in
    let some : 0 < size c.args.shape.now = omega (arith, n, other) in
    let e = row_here c.args.shape.now c.split_at-2.result.1.now c.args.axis c.points-row.result some c.requires.few c.split_at-2.ensures.back c.points-row.ensures in
    let b = block_here c.args.shape.now c.split_at.result.1.now c.args.axis c.points-block.result c.points-row.result c.requires.axis some c.requires.few c.split_at.ensures.back c.points-block.ensures e in
    let axis = axis_some c.args.shape.now c.args.axis c.requires.axis some in
    let row_some : 0 < c.points-row.result = subst (λ k. 0 < k) (sym e) axis.1 in
    let cells = g.S.Source.cells c.args.source in
    let before_fits : SFits w64 c.sum_before-before.result = record { sfits = c.sum_before-before.type_inv } in
    let number_fits : SFits w64 c.number_or.result = record { sfits = c.number_or.type_inv } in
    let fits : SFits w64 c.added.result = record { sfits = c.added.type_inv } in
    record {
      long = search rules;
      inside = c.next-inside.ensures c.loop-i.i c.loop-i.invariant.inside;
      done = sums_more c.args.shape.now c.args.axis cells c.loop-i.totals.items c.push.new.self.items c.loop-i.i (get_or c.args.shape.now c.args.axis 0) c.points-row.result c.sum_before-before.result c.added.result c.requires.axis refl e c.loop-i.invariant.long (c.in_ok-push.ensures.items ∙ ap (λ n. c.loop-i.totals.items ++ n ∷ []) (to_z-of_z w64 c.added.result fits))
          (before_is c.loop-i.i (get_or c.args.shape.now c.args.axis 0) c.points-row.result c.loop-i.inside c.sum_before-before.result (get_or c.loop-i.totals.items (c.loop-i.i - c.points-row.result) (pos 0)) axis.0 row_some (c.loop-i.invariant.inside ∙ ap (λ k. c.loop-i.i % k) b.0)
          (c.sum_before-before.ensures ∙ ap (λ (ts : List ℤ). cond (nat_lt c.loop-i.inside c.points-row.result) (pos 0) (get_or ts (c.loop-i.i - c.points-row.result) (pos 0))) c.deref.ensures.value))
          (counted (get_or cells c.loop-i.i None) c.sum_before-before.result c.number_or.result c.added.result (c.number_or.ensures ∙ ap (λ o. int_wrap w64 (or_number (pos 0) o)) (sym c.cell-cell.ensures))
          (c.added.ensures ∙ (λ k. int_wrap w64 (to_z-of_z w64 c.sum_before-before.result before_fits k +ℤ to_z-of_z w64 c.number_or.result number_fits k)))) c.loop-i.invariant.done;
    }

pub returns-clause-sums : goal.returns-clause-sums
returns-clause-sums g c = λ p here.
    let below = place_below c.args.shape.now p here in
    let n = c.points-count.ensures in
    let few = c.requires.few in
    let stop = c.loop-i-test.false in
    c.loop-i.invariant.done p here (omega (arith, below, n, few, stop))

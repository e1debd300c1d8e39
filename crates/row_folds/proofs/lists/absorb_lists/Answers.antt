use Rattle.std.proofs.Common.{◌≡◌, ◌+◌, ◌∙◌, [], subst, refl, arith, length, get_or}
use Rattle.row_folds.specs.Windows.{column, RowsAbsorb}
use Rattle.row_folds.proofs.Strips.{strip_part}
use Rattle.row_folds.proofs.Tables.{columns_more, shifted}
use Rattle.row_folds.proofs.lists.absorb_lists.Goals as goal

pub overflow_add-strip : goal.overflow_add-strip
overflow_add-strip g c =
    let near = c.requires.table.count_near in
    let start = c.requires.start in
    let lt = c.loop-done-test.true in
    omega (arith, near, start, lt)

pub overflow_add-at : goal.overflow_add-at
overflow_add-at g c =
    let near = c.requires.table.count_near in
    let inside = c.requires.inside in
    let few = c.requires.few in
    let lt = c.loop-done-test.true in
    omega (arith, near, inside, few, lt)

pub absorb_strip-requires-clause-strip : goal.absorb_strip-requires-clause-strip
absorb_strip-requires-clause-strip g c =
    let most = c.next_count-count.ensures.most in
    let lt = c.loop-done-test.true in
    strip_part c.args.table _ (length (g.S.Source.cells c.args.source)) c.loop-done.done c.requires.table refl refl refl (omega (arith, most, lt)) c.next_count-count.ensures.some

pub loop-done-preserved : goal.loop-done-preserved
loop-done-preserved g c =
    let most = c.next_count-count.ensures.most in
    let lt = c.loop-done-test.true in
    let whole = c.requires.whole in
    let cells = g.S.Source.cells c.args.source in
    record {
      rows = columns_more g.A.Accumulator.Is c.args.rows.now c.loop-done.rows c.absorb_strip.new.rows c.args.at (c.args.at + c.loop-done.done) c.args.table.stride c.loop-done.done c.next_count-count.result (c.loop-done.done + c.next_count-count.result) (length c.args.lists.now) (λ i r. column cells c.args.table.start c.args.table.stride r (get_or c.args.lists.now i []))
          (λ i r. column cells (c.args.table.start + c.loop-done.done) c.args.table.stride r (get_or c.args.lists.now i [])) c.loop-done.invariant.rows c.absorb_strip.ensures.rows refl refl (omega (arith, most, lt, whole)) (λ i r. shifted cells c.args.table.start (c.args.table.start + c.loop-done.done) c.loop-done.done c.args.table.stride r (get_or c.args.lists.now i []) refl);
      long = c.absorb_strip.ensures.long ∙ c.loop-done.invariant.long;
      most = omega (arith, most, lt);
    }

pub returns : goal.returns
returns g c =
    let stop = c.loop-done-test.false in
    let most = c.loop-done.invariant.most in
    let e : c.loop-done.done ≡ c.args.table.count = omega (arith, stop, most) in
    subst (λ m. RowsAbsorb g.A.Accumulator.Is c.args.rows.now c.loop-done.rows c.args.at c.args.table.stride m (length c.args.lists.now) (λ i r. column (g.S.Source.cells c.args.source) c.args.table.start c.args.table.stride r (get_or c.args.lists.now i []))) e c.loop-done.invariant.rows

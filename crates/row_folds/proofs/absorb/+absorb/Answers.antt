use Rattle.std.proofs.Common.{rules, ◌≡◌, ◌<◌, ◌∙◌, ap, sym, subst, arith, length, drop, flat_map, ℕ, ℤ, List, Option}
use Rattle.std.specs.List.{range_with_len}
use Rattle.std.proofs.lemmas.List.{take_all}
use Rattle.xr_arrays.specs.FeedPositions.{listed}
use Rattle.xr_arrays.specs.Nodes.{gathered}
use Rattle.row_folds.specs.Rows.{read_from, AreRows, Absorbs}
use Rattle.row_folds.proofs.Absorbed.{absorbs_that, absorbs_both, absorbs_beside, absorbs_row}
use Rattle.row_folds.proofs.Ways.{at_each, keep_here, all_here, by_here, one_each, range_step, falls, kept_row, kept_size}
use Rattle.row_folds.proofs.absorb.+absorb.Goals as goal

pub absorb_row-requires-clause-cells : goal.absorb_row-requires-clause-cells
absorb_row-requires-clause-cells g t c =
    let e = kept_size c.args.feeds.now c.args.shape.now c.args.sizes.now (c.are_kept.ensures.kept c.if-are_kept.true) c.requires.rows.long c.requires.rows.sizes_are in
    let n = c.points.ensures in
    let whole = c.requires.rows.whole in
    omega (arith, e, n, whole)

pub returns-then-are_kept : goal.returns-then-are_kept
returns-then-are_kept g t c =
    let all = c.are_kept.ensures.kept c.if-are_kept.true in
    let n = c.points.ensures in
    let inside = c.requires.rows.inside in
    let few = c.requires.rows.few_rows in
    absorbs_that g.A.Accumulator.Is c.args.rows.now c.absorb_row.new.rows c.args.at c.args.sizes.now _ _ (λ p here. kept_row c.args.feeds.now c.args.shape.now c.args.sizes.now p c.args.position c.args.start (g.S.Source.cells c.args.source) all c.requires.rows.long c.requires.rows.sizes_are here)
    (absorbs_row g.A.Accumulator.Is c.args.rows.now c.absorb_row.new.rows c.args.at c.points.result c.args.position c.args.start (g.S.Source.cells c.args.source) c.args.sizes.now (omega (arith, n, inside, few)) c.absorb_row.ensures)

pub loop-i-preserved : goal.loop-i-preserved
loop-i-preserved g t c =
    let some : 0 < length c.args.feeds.now = c.are_kept.ensures.some c.if-are_kept.false in
    let k = keep_here c.args.feeds.now c.feeds_behind-rest.result.now c.index-feeds-0.result c.args.shape.now c.args.sizes.now c.args.at (length c.args.rows.now) c.args.start (length (g.S.Source.cells c.args.source)) c.args.position some c.index-feeds-0.is c.in-Keep.is c.feeds_behind-rest.ensures c.requires.rows in
    absorbs_beside g.A.Accumulator.Is c.args.rows.now c.loop-i.rows c.absorb.new.rows c.args.at c.loop-i.i c.begin-row.result (drop 1 c.args.sizes.now) _ _ c.begin-row.ensures
    (λ p here. k.is c.loop-i.i c.begin-cells.result c.behind.result.now (g.S.Source.cells c.args.source) p c.begin-cells.ensures c.behind.ensures) c.loop-i.invariant
    (subst (λ s. Absorbs g.A.Accumulator.Is c.loop-i.rows c.absorb.new.rows c.begin-row.result s (λ p. gathered c.args.position c.feeds_behind-rest.result.now c.behind.result.now p (read_from (g.S.Source.cells c.args.source) c.begin-cells.result c.behind.result.now))) c.behind-in-loop-i.ensures c.absorb.ensures)

pub loop-i-2-preserved : goal.loop-i-2-preserved
loop-i-2-preserved g t c =
    let f : List ℕ → ℕ → List (ℕ × Option ℤ) = at_each c.feeds_behind-rest.result.now (drop 1 c.args.shape.now) (g.S.Source.cells c.args.source) c.args.start in
    absorbs_that g.A.Accumulator.Is c.args.rows.now c.absorb-in-loop-i-2.new.rows c.args.at c.args.sizes.now _ _ (λ p here. range_step (f p) c.loop-i-2.i)
    (absorbs_both g.A.Accumulator.Is c.args.rows.now c.loop-i-2.rows c.absorb-in-loop-i-2.new.rows c.args.at c.args.sizes.now _ _ c.loop-i-2.invariant
    (absorbs_that g.A.Accumulator.Is c.loop-i-2.rows c.absorb-in-loop-i-2.new.rows c.args.at c.args.sizes.now _ (λ p. f p c.loop-i-2.i)
    (λ p here. one_each c.feeds_behind-rest.result.now c.args.shape.now c.behind-in-loop-i-2.result.now p c.args.start c.begin-cells-in-loop-i-2.result c.loop-i-2.i (g.S.Source.cells c.args.source) c.begin-cells-in-loop-i-2.ensures c.behind-in-loop-i-2.ensures) c.absorb-in-loop-i-2.ensures))

pub begin-row-requires-in-loop-place-clause-rest : goal.begin-row-requires-in-loop-place-clause-rest
begin-row-requires-in-loop-place-clause-rest g t c =
    let some : 0 < length c.args.feeds.now = c.are_kept.ensures.some c.if-are_kept.false in
    let k = by_here c.in-By.lists c.args.feeds.now c.feeds_behind-rest.result.now c.index-feeds-0.result c.args.shape.now c.args.sizes.now c.args.at (length c.args.rows.now) c.args.start (length (g.S.Source.cells c.args.source)) c.args.position some c.index-feeds-0.is c.in-By.is c.feeds_behind-rest.ensures c.requires.rows in
    let lt_place : c.loop-place.place < length c.in-By.lists = let lt = c.loop-place-test.true in let n = c.len-place-end.ensures in omega (arith, lt, n) in
    k.rows_few (omega (arith, lt_place))

pub begin-cells-requires-in-loop-i-3-clause-rest : goal.begin-cells-requires-in-loop-i-3-clause-rest
begin-cells-requires-in-loop-i-3-clause-rest g t c =
    let some : 0 < length c.args.feeds.now = c.are_kept.ensures.some c.if-are_kept.false in
    let k = by_here c.in-By.lists c.args.feeds.now c.feeds_behind-rest.result.now c.index-feeds-0.result c.args.shape.now c.args.sizes.now c.args.at (length c.args.rows.now) c.args.start (length (g.S.Source.cells c.args.source)) c.args.position some c.index-feeds-0.is c.in-By.is c.feeds_behind-rest.ensures c.requires.rows in
    k.cells.behind_few

pub begin-cells-requires-in-loop-i-3-clause-few : goal.begin-cells-requires-in-loop-i-3-clause-few
begin-cells-requires-in-loop-i-3-clause-few g t c =
    let some : 0 < length c.args.feeds.now = c.are_kept.ensures.some c.if-are_kept.false in
    let k = by_here c.in-By.lists c.args.feeds.now c.feeds_behind-rest.result.now c.index-feeds-0.result c.args.shape.now c.args.sizes.now c.args.at (length c.args.rows.now) c.args.start (length (g.S.Source.cells c.args.source)) c.args.position some c.index-feeds-0.is c.in-By.is c.feeds_behind-rest.ensures c.requires.rows in
    let lt : c.loop-i-3.i < length (listed c.positions-positions.result) = let lt = c.loop-i-3-test.true in let n = c.count-i-end.ensures in omega (arith, lt, n) in
    let lt_one = k.positions c.loop-place.place c.loop-i-3.i c.nth-one.result (listed c.positions-positions.result) c.positions-positions.ensures lt c.nth-one.ensures in
    (k.cells.below c.nth-one.result lt_one).1

pub absorb-requires-in-loop-i-3 : goal.absorb-requires-in-loop-i-3
absorb-requires-in-loop-i-3 g t c =
    let some : 0 < length c.args.feeds.now = c.are_kept.ensures.some c.if-are_kept.false in
    let k = by_here c.in-By.lists c.args.feeds.now c.feeds_behind-rest.result.now c.index-feeds-0.result c.args.shape.now c.args.sizes.now c.args.at (length c.args.rows.now) c.args.start (length (g.S.Source.cells c.args.source)) c.args.position some c.index-feeds-0.is c.in-By.is c.feeds_behind-rest.ensures c.requires.rows in
    let lt_place : c.loop-place.place < length c.in-By.lists = let lt = c.loop-place-test.true in let n = c.len-place-end.ensures in omega (arith, lt, n) in
    let lt : c.loop-i-3.i < length (listed c.positions-positions.result) = let lt = c.loop-i-3-test.true in let n = c.count-i-end.ensures in omega (arith, lt, n) in
    let lt_one = k.positions c.loop-place.place c.loop-i-3.i c.nth-one.result (listed c.positions-positions.result) c.positions-positions.ensures lt c.nth-one.ensures in
    let next = k.next c.loop-place.place c.nth-one.result c.begin-row-in-loop-place.result c.begin-cells-in-loop-i-3.result c.behind-in-loop-i-3.result.now c.behind-in-loop-i-3-2.result.now lt_place lt_one c.begin-row-in-loop-place.ensures c.begin-cells-in-loop-i-3.ensures c.behind-in-loop-i-3.ensures c.behind-in-loop-i-3-2.ensures in
    let long : length c.args.rows.now ≡ length c.loop-i-3.rows = sym (c.loop-i-3.invariant.long ∙ c.loop-place.invariant.long) in
    let f = falls c.args.feeds.now c.feeds_behind-rest.result.now some c.feeds_behind-rest.ensures in
    λ κs lives. (let d = c.decreases in omega (arith, f, d), (lives.0, (lives.1.0, (lives.1.1.0, (lives.1.1.1, (c.requires.ready, (subst (λ m. AreRows c.feeds_behind-rest.result.now c.behind-in-loop-i-3.result.now c.behind-in-loop-i-3-2.result.now c.begin-row-in-loop-place.result m c.begin-cells-in-loop-i-3.result (length (g.S.Source.cells c.args.source)) c.nth-one.result) long next, (search (rules, arith), c.requires.empty))))))))

pub loop-place-preserved : goal.loop-place-preserved
loop-place-preserved g t c =
    let some : 0 < length c.args.feeds.now = c.are_kept.ensures.some c.if-are_kept.false in
    let k = by_here c.in-By.lists c.args.feeds.now c.feeds_behind-rest.result.now c.index-feeds-0.result c.args.shape.now c.args.sizes.now c.args.at (length c.args.rows.now) c.args.start (length (g.S.Source.cells c.args.source)) c.args.position some c.index-feeds-0.is c.in-By.is c.feeds_behind-rest.ensures c.requires.rows in
    let ps : List ℕ = listed c.positions-positions.result in
    let stop = c.loop-i-3-test.false in
    let n = c.count-i-end.ensures in
    absorbs_beside g.A.Accumulator.Is c.args.rows.now c.loop-place.rows c.loop-i-3.rows c.args.at c.loop-place.place c.begin-row-in-loop-place.result (drop 1 c.args.sizes.now) _ _ c.begin-row-in-loop-place.ensures
    (λ p here. ap (flat_map (at_each c.feeds_behind-rest.result.now (drop 1 c.args.shape.now) (g.S.Source.cells c.args.source) c.args.start p)) (take_all c.loop-i-3.i ps (omega (arith, stop, n))) ∙ k.is c.loop-place.place ps (g.S.Source.cells c.args.source) p c.positions-positions.ensures) c.loop-place.invariant c.loop-i-3.invariant

pub returns-after-loop-i-2 : goal.returns-after-loop-i-2
returns-after-loop-i-2 g t c =
    let some : 0 < length c.args.feeds.now = c.are_kept.ensures.some c.if-are_kept.false in
    let k = all_here c.args.feeds.now c.feeds_behind-rest.result.now c.index-feeds-0.result c.args.shape.now c.args.sizes.now c.args.at (length c.args.rows.now) c.args.start (length (g.S.Source.cells c.args.source)) c.args.position some c.index-feeds-0.is c.in-All.is c.feeds_behind-rest.ensures c.requires.rows in
    let stop = c.loop-i-2-test.false in
    let end = c.loop-i-2.auto.i-end in
    absorbs_that g.A.Accumulator.Is c.args.rows.now c.loop-i-2.rows c.args.at c.args.sizes.now _ _
    (λ p here. ap (λ n. flat_map (at_each c.feeds_behind-rest.result.now (drop 1 c.args.shape.now) (g.S.Source.cells c.args.source) c.args.start p) (range_with_len 0 n)) (omega (arith, stop, end)) ∙ k.is (g.S.Source.cells c.args.source) p) c.loop-i-2.invariant

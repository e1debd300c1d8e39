use Rattle.std.proofs.Common.{◌≡◌, ◌<◌, ◌+◌, ◌*◌, ◌∙◌, [], ap, sym, subst, refl, arith, length, get_or}
use Rattle.std.specs.List.{All}
use Rattle.xr_arrays.specs.FeedPositions.{listed}
use Rattle.row_folds.specs.Windows.{column, RowsAbsorb}
use Rattle.row_folds.proofs.Strips.{positions_all}
use Rattle.row_folds.proofs.Tables.{rows_more}
use Rattle.row_folds.proofs.Ways.{positions_in}
use Rattle.row_folds.proofs.lists.absorb_strip.Goals as goal

pub absorb_place-reach-requires-clause-positions : goal.absorb_place-reach-requires-clause-positions
absorb_place-reach-requires-clause-positions g c =
    subst (All (λ k. k < c.args.strip.size)) (sym c.positions-positions.ensures) (positions_all c.args.strip.size 0 (get_or c.args.lists.now c.loop-place.place []) (positions_in c.args.strip.size c.loop-place.place c.args.lists.now c.requires.lists))

pub loop-place-preserved : goal.loop-place-preserved
loop-place-preserved g c = record {
  rows = rows_more g.A.Accumulator.Is c.args.rows.now c.loop-place.rows c.absorb_place-reach.new.rows c.args.at c.args.strip.stride c.args.strip.count c.loop-place.place (c.args.at + c.loop-place.place * c.args.strip.stride) (λ i r. column (g.S.Source.cells c.args.source) c.args.strip.start c.args.strip.stride r (get_or c.args.lists.now i []))
      (λ r. column (g.S.Source.cells c.args.source) c.args.strip.start c.args.strip.stride r (listed c.positions-positions.result)) c.loop-place.invariant.rows c.absorb_place-reach.ensures.row refl c.requires.narrow (λ r. ap (column (g.S.Source.cells c.args.source) c.args.strip.start c.args.strip.stride r) c.positions-positions.ensures);
  long = c.absorb_place-reach.ensures.long ∙ c.loop-place.invariant.long;
  hand = c.absorb_place-reach.ensures.hand;
}

pub returns-clause-rows : goal.returns-clause-rows
returns-clause-rows g c =
    let stop = c.loop-place-test.false in
    let n = c.len-place-end.ensures in
    let end = c.loop-place.auto.place-end in
    let e : c.loop-place.place ≡ length c.args.lists.now = omega (arith, stop, n, end) in
    subst (λ m. RowsAbsorb g.A.Accumulator.Is c.args.rows.now c.loop-place.rows c.args.at c.args.strip.stride c.args.strip.count m (λ i r. column (g.S.Source.cells c.args.source) c.args.strip.start c.args.strip.stride r (get_or c.args.lists.now i []))) e c.loop-place.invariant.rows

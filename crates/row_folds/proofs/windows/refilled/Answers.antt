use Rattle.std.proofs.Common.{◌≤◌, ◌+◌, ◌-◌, ◌*◌, ◌∙◌, sym, subst, arith, refl, length}
use Rattle.row_folds.proofs.Strips.{strip_few, two_rows}
use Rattle.row_folds.proofs.Tables.{hand_none, hand_before}
use Rattle.row_folds.proofs.windows.refilled.Goals as goal

pub clear-requires : goal.clear-requires
clear-requires g c = two_rows (c.args.to - c.args.from) c.args.strip.count (length c.args.folds.now) c.requires.room

pub loop-depth-init : goal.loop-depth-init
loop-depth-init g c =
    let long = c.clear.ensures.long in
    let fits = two_rows (c.args.to - c.args.from) c.args.strip.count (length c.args.folds.now) c.requires.room in
    record {
      hand = hand_none g.A.Accumulator.Is c.clear.new.folds c.args.strip (2 * c.args.strip.count) c.args.to 0 c.args.empty (g.S.Source.cells c.args.source) c.clear.ensures.cleared refl (omega (arith, long, fits)) c.requires.empty c.requires.end refl;
      long = long;
    }

pub begin_at-cells-requires-clause-few : goal.begin_at-cells-requires-clause-few
begin_at-cells-requires-clause-few g c =
    let lt = c.loop-depth-test.true in
    let end = c.requires.end in
    (strip_few c.args.strip (length (g.S.Source.cells c.args.source)) (c.args.to - 1 - c.loop-depth.depth) c.requires.strip (omega (arith, lt, end))).0

pub loop-depth-preserved : goal.loop-depth-preserved
loop-depth-preserved g c =
    let lt = c.loop-depth-test.true in
    let long = c.loop-depth.invariant.long in
    record {
      hand = hand_before g.A.Accumulator.Is c.loop-depth.folds c.fold_before.new.folds c.args.strip c.args.from c.args.to c.loop-depth.depth ((c.loop-depth.depth + 1) * c.args.strip.count) ((c.loop-depth.depth + 1) * c.args.strip.count + c.args.strip.count) (c.args.to - 1 - c.loop-depth.depth) c.begin_at-cells.result (g.S.Source.cells c.args.source)
          c.loop-depth.invariant.hand c.fold_before.ensures refl refl refl c.begin_at-cells.ensures lt (subst (λ n. (c.args.to - c.args.from + 2) * c.args.strip.count ≤ n) (sym long) c.requires.room);
      long = c.fold_before.ensures.long ∙ long;
    }

use Rattle.std.proofs.Common.{◌∙◌, map, ap, length}
use Rattle.plan_core.proofs.Takes.{if_ok}
use Rattle.row_folds.proofs.Results.{finished_cells, is_folded}
use Rattle.row_folds.proofs.finish.finished.Goals as goal

pub array-requires-clause-range : goal.array-requires-clause-range
array-requires-clause-range g c =
    let cells = ap (map g.A.Finish.cell) c.deref.ensures.value ∙ finished_cells g.A.Accumulator.Is g.A.Finish.cell c.in_ok-rows.rows.items c.args.fold c.args.kind c.args.feeds.now c.args.shape.now c.args.sizes.now (length (g.S.Source.cells c.args.source)) (g.S.Source.cells c.args.source) c.requires.folding c.in_ok-rows.ensures c.requires.meaning in
    (is_folded c.args.fold c.args.kind c.folded_kind.result c.args.feeds.now c.args.shape.now c.args.sizes.now (g.S.Source.cells c.args.source) (map g.A.Finish.cell c.deref.result.now) c.requires.folding c.requires.range c.folded_kind.ensures cells).range

pub returns : goal.returns
returns g c =
    let cells = ap (map g.A.Finish.cell) c.deref.ensures.value ∙ finished_cells g.A.Accumulator.Is g.A.Finish.cell c.in_ok-rows.rows.items c.args.fold c.args.kind c.args.feeds.now c.args.shape.now c.args.sizes.now (length (g.S.Source.cells c.args.source)) (g.S.Source.cells c.args.source) c.requires.folding c.in_ok-rows.ensures c.requires.meaning in
    if_ok c.array.result _ _ (λ b is. is ∙ (is_folded c.args.fold c.args.kind c.folded_kind.result c.args.feeds.now c.args.shape.now c.args.sizes.now (g.S.Source.cells c.args.source) (map g.A.Finish.cell c.deref.result.now) c.requires.folding c.requires.range c.folded_kind.ensures cells).is) c.array.ensures

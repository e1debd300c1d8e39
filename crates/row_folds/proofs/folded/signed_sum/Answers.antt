use Rattle.std.proofs.Common.{◌≡◌, ◌∙◌, ℤ, Some, map, sym, subst, length}
use Rattle.std.specs.List.{All}
use Rattle.xr_types.specs.Kinds.{InRange}
use Rattle.xr_types.specs.declared.kind.DType.TheVariants.{Int64}
use Rattle.xr_types.specs.declared.operation.FoldKind.TheVariants.{Sum}
use Rattle.xr_arrays.specs.Folds.{fold_of}
use Rattle.plan_core.proofs.Takes.{if_ok}
use Rattle.row_folds.proofs.Meanings.{sum_signed, signed_total}
use Rattle.row_folds.proofs.Reached.{numbers_back}
use Rattle.row_folds.proofs.Results.{filling_in, finished_cells, is_folded}
use Rattle.row_folds.proofs.folded.signed_sum.Goals as goal

pub whole_array-requires-clause-range : goal.whole_array-requires-clause-range
whole_array-requires-clause-range g c =
    let cells = finished_cells (λ (a : ℤ) cs. fold_of Sum Int64 cs ≡ Some a) (λ x. Some x) c.in_ok-rows.rows.items Sum c.args.kind c.args.feeds.now c.args.shape.now c.args.sizes.now (length (g.S.Source.cells c.args.source)) (g.S.Source.cells c.args.source) c.requires.folding c.in_ok-rows.ensures (λ a cs few is. sum_signed c.args.kind a cs c.requires.signed is) in
    let folded = is_folded Sum c.args.kind Int64 c.args.feeds.now c.args.shape.now c.args.sizes.now (g.S.Source.cells c.args.source) (map (λ x. Some x) c.in_ok-rows.rows.items) c.requires.folding c.requires.range (sym (signed_total c.args.kind c.requires.signed)) cells in
    subst (All (InRange Int64)) (sym (numbers_back (λ x. x) c.in_ok-rows.rows.items)) (filling_in Int64 (map (λ x. Some x) c.in_ok-rows.rows.items) folded.range)

pub returns : goal.returns
returns g c =
    let cells = finished_cells (λ (a : ℤ) cs. fold_of Sum Int64 cs ≡ Some a) (λ x. Some x) c.in_ok-rows.rows.items Sum c.args.kind c.args.feeds.now c.args.shape.now c.args.sizes.now (length (g.S.Source.cells c.args.source)) (g.S.Source.cells c.args.source) c.requires.folding c.in_ok-rows.ensures (λ a cs few is. sum_signed c.args.kind a cs c.requires.signed is) in
    let folded = is_folded Sum c.args.kind Int64 c.args.feeds.now c.args.shape.now c.args.sizes.now (g.S.Source.cells c.args.source) (map (λ x. Some x) c.in_ok-rows.rows.items) c.requires.folding c.requires.range (sym (signed_total c.args.kind c.requires.signed)) cells in
    if_ok c.whole_array.result _ _ (λ b is. is ∙ folded.is) c.whole_array.ensures

use Rattle.std.proofs.Common.{◌≡◌, arith, ap, subst, length, map, IfSome}
use Rattle.std.specs.List.{zip}
use Rattle.xr_arrays.specs.Arrays.{cell}
use Rattle.row_folds.specs.Rows.{IsFolding}
use Rattle.row_folds.proofs.Sources.{masked_length}
use Rattle.row_folds.proofs.folds.fold_slice.Goals as goal

pub folded-requires-clause-folding : goal.folded-requires-clause-folding
folded-requires-clause-folding g c =
    let n = masked_length g.T.Elem.number c.args.cells.now c.as_slice-mask.result.now in
    let long : length c.in-Some.mask.now ≡ length c.args.cells.now = subst (λ o. IfSome o (λ m. length m.now ≡ length c.args.cells.now)) c.in-Some.is c.requires.mask in
    let m = ap length c.as_slice-mask.ensures in
    let same : length c.args.cells.now ≡ length (map cell (zip (map g.T.Elem.number c.args.cells.now) c.as_slice-mask.result.now)) = omega (arith, n, long, m) in
    subst (λ k. IsFolding c.args.feeds.now c.args.shape.now c.args.sizes.now k) same c.requires.folding

use Rattle.std.proofs.Common.{◌≡◌, arith, ap, subst, length, IfSome}
use Rattle.row_folds.proofs.Sources.{masked_length}
use Rattle.row_folds.proofs.scans.scan_slice.Goals as goal

pub scan_source-requires-clause-whole : goal.scan_source-requires-clause-whole
scan_source-requires-clause-whole g c =
    let n = masked_length g.T.Elem.number c.args.cells.now c.as_slice-mask.result.now in
    let long : length c.in-Some.mask.now ≡ length c.args.cells.now = subst (λ o. IfSome o (λ m. length m.now ≡ length c.args.cells.now)) c.in-Some.is c.requires.mask in
    let m = ap length c.as_slice-mask.ensures in
    let whole = c.requires.whole in
    omega (arith, n, long, m, whole)
